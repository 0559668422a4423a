-- The space stands at the end of what is written, and the digits end where the number does.
use Rattle.std.proofs.Common.{◌≡◌, ◌+◌, ℕ, List, [], ◌∷◌, ◌++◌, length, take, drop, sym, ap, ap₂, ◌∙◌, arith, append_assoc}
use lib.ListN.{set, take-append-drop, length-set}
use Rattle.std.proofs.lemmas.List.{drop-set-lt}
use Rattle.std.proofs.lemmas.Grind.{take-set_at}
use Rattle.text.specs.Kernel.{Fits, Put}
use Rattle.text.proofs.Digits.{spaced_written}
use Rattle.text.proofs.pages.put_number.Goals as goal

spaced_put : (at start stop : ℕ) (words before later : List ℕ) → Fits at (32 ∷ words) before → stop ≡ at + length (32 ∷ words) → start + length words ≡ stop
    → drop start later ≡ words ++ drop stop (set before at 32) → take start later ≡ take start (set before at 32) → Put at (32 ∷ words) before later stop
spaced_put at start stop words before later fits stops starts digits front = record {
  stops = stops;
  is =
      sym (take-append-drop start later)
      ∙ ap₂ ◌++◌ (front ∙ take-set_at before at start 32 (omega arith) (omega arith))
      (digits ∙ ap (λ (l : List ℕ). words ++ l) (drop-set-lt stop before at 32 (omega arith)))
      ∙ sym (append_assoc (take at before ++ 32 ∷ []) words (drop stop before))
      ∙ ap (λ (l : List ℕ). l ++ drop stop before) (append_assoc (take at before) (32 ∷ []) words);
}

pub bounds-text-at : goal.bounds-text-at
bounds-text-at c = let is = spaced_written c.args.x c.requires.x_bound in omega (arith, ap length is)

pub write_digits-requires : goal.write_digits-requires
write_digits-requires c = let is = spaced_written c.args.x c.requires.x_bound in omega (arith, ap length is, length-set {A = ℕ})

pub returns : goal.returns
returns c =
    let is = spaced_written c.args.x c.requires.x_bound in
    let stops = ap (λ n. c.args.at + n) (c.spaced_len.ensures ∙ ap length is) in
    let digits = c.write_digits.ensures in
    rw is (spaced_put _ _ _ _ _ _ (rw is at c.requires.fits) stops digits.start digits.written digits.before)

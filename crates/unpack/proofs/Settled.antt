-- What is shown settles the text: two texts that one input shows are equal. And wrong texts, ruled out: nothing at all; of document 01's own pack, a refusal.
use mathlib.Core.Path.{◌≡◌, refl, sym, ap, ap₂, ◌∙◌}
use mathlib.Core.List.{List, []}
use mathlib.Core.Option.{Option, none, some}
use Prim.Native.Nat.{ℕ}
use native.Mathlib.Omega.{arith}
use lib.ListN.{take, replicate, get_or}
use Rattle.std.specs.Prelude.{Result, Ok, Err}
use Rattle.rules.specs.declared.refusals.Refusal.{Refusal}
use Rattle.rules.specs.Refusal.{number_of}
use Rattle.entries.specs.Pack.{input_most}
use Rattle.layout.proofs.Worked.{worked}
use Rattle.pack.specs.declared.answers.Contents.{Contents}
use Rattle.pack.specs.Refusal.{stripe_most}
use Rattle.pack.specs.Promise.{ReadMeets}
use Rattle.pack.proofs.Settled.{read_settled, read_refuses}
use Rattle.text.specs.Text.{line, shape_line, read_text, refused_line, contents_refusal, contents_text, numbered, printed}
use Rattle.text.proofs.Readers.{reader_printed}
use Rattle.unpack.specs.Shown.{Shows}

pub shows_settled : (input x y : List ℕ) → Shows input x → Shows input y → x ≡ y
shows_settled input x y p q =
    let same = read_settled (take input_most input) (replicate stripe_most 0) p.answer q.answer p.stripe q.stripe p.read q.read in
    p.is ∙ ap₂ (λ answer stripe. printed (numbered answer) stripe) same.0 same.1 ∙ sym q.is

-- the first letter of a text: r where it is a refusal, s of what is read
first : List ℕ → ℕ
first text = get_or text 0 0

first-refused : (q : ℕ) → first (refused_line q) ≡ 114
unfolding refused_line line first
first-refused q = refl

first-read : (contents : Contents) (stripe : List ℕ) → first (read_text contents.shape contents.lost stripe) ≡ 115
unfolding read_text shape_line line first
first-read contents stripe = refl

first-text : (refusal : Option ℕ) (contents : Contents) (stripe : List ℕ) → first (contents_text refusal contents stripe) ≡ 0 → ⊥
first-text none contents stripe e = let f = sym (first-read contents stripe) ∙ e in omega arith
first-text (some q) contents stripe e = let f = sym (first-refused q) ∙ e in omega arith

-- nothing is written
pub shows_nothing : (input : List ℕ) → Shows input [] → ⊥
unfolding printed first
shows_nothing input p = go p.answer p.is
  where
    go : (answer : Result Contents Refusal) → [] ≡ printed (numbered answer) p.stripe → ⊥
    go (Ok contents) e = first-text (contents_refusal contents) contents p.stripe (sym (ap first e))
    go (Err q) e = let f = sym (first-refused (number_of q)) ∙ sym (ap first e) in omega arith

-- document 01's own pack is refused
pub shows_refusal : (q : ℕ) → Shows worked (refused_line q) → ⊥
shows_refusal q p = go p.answer p.read p.is
  where
    go : (answer : Result Contents Refusal) → ReadMeets worked (replicate stripe_most 0) answer p.stripe → refused_line q ≡ printed (numbered answer) p.stripe → ⊥
    go (Ok contents) read e =
        let f = sym (first-refused q) ∙ ap first e ∙ ap first (reader_printed worked (replicate stripe_most 0) contents p.stripe read p.stripe) ∙ first-read contents p.stripe in omega arith
    go (Err k) read e = read_refuses (replicate stripe_most 0) refl k p.stripe read

-- A record laid into a stripe and read back, for any results that the promises allow. In order: no byte from k × l on is changed; lengths; what is read back
-- is the record, and zeros after it up to k × l bytes.
use mathlib.Core.Path.{◌≡◌, refl, ap, ap₂, ◌∙◌}
use mathlib.Core.List.{List, ◌++◌}
use mathlib.Core.Option.{Option, none, some}
use Prim.Native.Nat.{ℕ, ◌+◌, ◌-◌, ◌≤◌}
use native.Mathlib.Nat.{add-sub_of_le}
use lib.ListN.{length, drop, replicate, length-append, length-replicate, length-drop}
use lib.Seq.{take_at, drop_at}
use Rattle.rules.specs.declared.shapes.Shape.{Shape}
use Rattle.rules.specs.Stripe.{stripe_length, data_length, laid, read_back}
use Rattle.std.specs.Prelude.{Result, Ok}
use Rattle.rules.specs.declared.refusals.Refusal.{Refusal}
use Rattle.yebarg.specs.Refusal.{lay_refusal, read_back_refusal}
use Rattle.yebarg.specs.Promise.{LayMeets, ReadBackMeets}
use Rattle.rules.proofs.Lengths.{data_most}
use Rattle.yebarg.proofs.Refusals.{lay-taken, read-back-accepted}
use Rattle.yebarg.proofs.Settled.{refusal-only}

-- the data columns of a laid stripe
abbrev padded : Shape → List ℕ → List ℕ
padded sh rec = rec ++ replicate (data_length sh - length rec) 0

padded-length : (sh : Shape) (rec : List ℕ) → length rec ≤ data_length sh → length (padded sh rec) ≡ data_length sh
padded-length sh rec h = simp (length-append, length-replicate) (add-sub_of_le h)

pub lay_keeps_parity : (sh : Shape) (rec stripe : List ℕ) (x : Result (Unit {0}) Refusal) (later : List ℕ) → LayMeets sh rec stripe x later
    → drop (data_length sh) later ≡ drop (data_length sh) stripe
unfolding laid
lay_keeps_parity sh rec stripe x later p = go (lay_refusal sh rec stripe) refl
  where
    go : (refused : Option ℕ) → lay_refusal sh rec stripe ≡ refused → drop (data_length sh) later ≡ drop (data_length sh) stripe
    go none e =
        ap (drop (data_length sh)) (p.stripe-later.written e)
        ∙ drop_at (padded sh rec) (drop (data_length sh) stripe) (data_length sh) (padded-length sh rec (lay-taken sh rec stripe e).1)
    go (some q) e = ap (drop (data_length sh)) (p.stripe-later.kept q e)

module _ (sh : Shape) (rec stripe buffer : List ℕ) (taken : lay_refusal sh rec stripe ≡ none) where
  short : length rec ≤ data_length sh
  short = (lay-taken sh rec stripe taken).1

  laid-length : length (laid sh rec stripe) ≡ stripe_length sh
  unfolding laid
  laid-length =
      length-append (padded sh rec) (drop (data_length sh) stripe)
      ∙ ap₂ (λ (x y : ℕ). x + y) (padded-length sh rec short)
      (length-drop (data_length sh) stripe ∙ ap (λ n. n - data_length sh) (lay-taken sh rec stripe taken).2)
      ∙ add-sub_of_le (data_most sh)

  laid-read : read_back sh (laid sh rec stripe) ≡ padded sh rec
  unfolding laid read_back
  laid-read = take_at (padded sh rec) (drop (data_length sh) stripe) (data_length sh) (padded-length sh rec short)

  pub read-back-after-lay : length buffer ≡ data_length sh → (x y : Result (Unit {0}) Refusal) (later read : List ℕ)
      → LayMeets sh rec stripe x later → ReadBackMeets sh later buffer y read
      → (y ≡ Ok tt) × (read ≡ rec ++ replicate (data_length sh - length rec) 0)
  read-back-after-lay long x y later read p q =
      let later-is : later ≡ laid sh rec stripe = p.stripe-later.written taken in
      let accepted : read_back_refusal sh later buffer ≡ none =
      read-back-accepted sh later buffer (lay-taken sh rec stripe taken).0 (ap length later-is ∙ laid-length) long in
      (refusal-only y (Ok tt) (q.answered ∙ accepted), q.buffer_later.written accepted ∙ ap (read_back sh) later-is ∙ laid-read)

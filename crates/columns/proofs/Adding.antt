-- Bytes merged, where the merging adds a multiple: a byte that isn't there counts as 0.
-- Assumes nothing.
use Rattle.std.proofs.Common.{◌≡◌, ℕ, inl, inr, List, length, get_or, sym, ap, ◌∙◌}
use Rattle.std.proofs.lemmas.Bool.{cases_lt}
use Rattle.std.proofs.lemmas.List.{get_or_past}
use Rattle.field.specs.Number.{add, mul}
use Rattle.field.proofs.Product.{mul-zero}
use Rattle.field.proofs.Xor.{add-zero}
use Rattle.columns.specs.Kernel.{Merged}
use Rattle.columns.specs.Promise.{Multiplied}

pub multiplied-by : (c : ℕ) {may : ℕ → ℕ → ℕ → Type 0} {from before later : List ℕ}
    → ((j y : ℕ) → may (get_or before j 0) (get_or from j 0) y → y ≡ add (get_or before j 0) (mul c (get_or from j 0)))
    → Merged may from before later
    → Multiplied c from before later
multiplied-by c {may} {from} {before} {later} adds merged = record {
  same_length = merged.same_length;
  bytes = λ j h. elim (cases_lt j (length from)) [
    | inl a ↦ adds j (get_or later j 0) (merged.bytes j h a)
    | inr b ↦
        merged.kept j b
        ∙ sym
        (ap (λ x. add (get_or before j 0) (mul c x)) (get_or_past from j 0 b)
        ∙ ap (add (get_or before j 0)) (mul-zero c)
        ∙ add-zero (get_or before j 0))
  ];
}

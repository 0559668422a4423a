-- The refusals of the entries. In order: node numbers; what isn't refused has passed all tests, and what passes all isn't refused, for `lay`, `read_back`,
-- `cut`; a buffer that is written.
use mathlib.Core.Path.{◌≡◌, refl, sym, ◌∙◌}
use mathlib.Core.Bool.{Bool, true, false, cond, not}
use mathlib.Core.List.{List}
use mathlib.Core.Option.{Option, none, some, none-ne-some, some-ne-none}
use Prim.Native.Nat.{ℕ, ◌≤◌}
use lib.Dec.{eqb, ltb}
use lib.ListN.{length}
use borrow.Author.Tests.{ltb-false, eqb-true, le-ltb, eq-eqb, ne_eqb}
use Rattle.rules.specs.declared.shapes.Shape.{Shape}
use Rattle.rules.specs.Shape.{accepted, rows}
use Rattle.rules.specs.Stripe.{stripe_length, data_length}
use Rattle.rules.specs.Fraction.{fraction_length}
use Rattle.rules.specs.Refusal.{shape_refusal, not_node}
use Rattle.rules.proofs.Checks.{neither}
use Rattle.rules.proofs.Accepted.{is-accepted}
use Rattle.yebarg.specs.Refusal.{lay_refusal, read_back_refusal, cut_refusal}
use Rattle.yebarg.specs.Promise.{Writes}

pub a-node : (sh : Shape) (i : ℕ) → 1 ≤ i → i ≤ sh.n → not_node sh i ≡ false
unfolding not_node
a-node sh i h k = simp (le-ltb i 1 h, le-ltb sh.n i k)

pub is-node : (sh : Shape) (i : ℕ) → not_node sh i ≡ false → (1 ≤ i) × (i ≤ sh.n)
unfolding not_node
is-node sh i h = let (low, high) = neither (ltb i 1) (ltb sh.n i) h in (ltb-false i 1 low, ltb-false sh.n i high)

module _ (sh : Shape) (rec stripe : List ℕ) where
  three_passed : (a b c : Bool) → cond {A = Option ℕ} (not a) (some 1) (cond b (some 2) (cond (not c) (some 2) none)) ≡ none
      → (a ≡ true) × (b ≡ false) × (c ≡ true)
  three_passed true false true e = (refl, refl, refl)
  three_passed true false false e = absurd (some-ne-none 2 e)
  three_passed true true c e = absurd (some-ne-none 2 e)
  three_passed false b c e = absurd (some-ne-none 1 e)

  pub lay-taken : lay_refusal sh rec stripe ≡ none → (shape_refusal sh ≡ none) × (length rec ≤ data_length sh) × (length stripe ≡ stripe_length sh)
  unfolding lay_refusal shape_refusal
  lay-taken e =
      let h = three_passed (accepted sh) (ltb (data_length sh) (length rec)) (eqb (length stripe) (stripe_length sh)) e in
      (simp h.0, ltb-false (data_length sh) (length rec) h.1, eqb-true (length stripe) (stripe_length sh) h.2)

pub read-back-accepted : (sh : Shape) (stripe buffer : List ℕ) → shape_refusal sh ≡ none → length stripe ≡ stripe_length sh
    → length buffer ≡ data_length sh
    → read_back_refusal sh stripe buffer ≡ none
unfolding read_back_refusal
read-back-accepted sh stripe buffer h k w =
    simp (is-accepted sh h, eq-eqb (length stripe) (stripe_length sh) k, eq-eqb (length buffer) (data_length sh) w)

pub cut-accepted : (sh : Shape) (helper failed : ℕ) (col buffer : List ℕ) → shape_refusal sh ≡ none → length col ≡ rows sh
    → length buffer ≡ fraction_length sh
    → not_node sh helper ≡ false
    → not_node sh failed ≡ false
    → (helper ≡ failed → ⊥)
    → cut_refusal sh helper failed col buffer ≡ none
unfolding cut_refusal
cut-accepted sh helper failed col buffer taken column-is buffer-is h f e =
    simp (
      is-accepted sh taken,
      eq-eqb (length col) (rows sh) column-is,
      eq-eqb (length buffer) (fraction_length sh) buffer-is,
      h,
      f,
      ne_eqb helper failed e,
    )

pub accepted_writes : {refused : Option ℕ} {wanted later : List ℕ} (before : List ℕ) → refused ≡ none → later ≡ wanted → Writes refused wanted before later
accepted_writes before e w = record { written = λ h. w; kept = λ q h. absurd (none-ne-some q (sym e ∙ h)) }

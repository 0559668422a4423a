-- What isn't refused has passed all tests of `add_fraction`, and what passes all isn't refused.
use mathlib.Core.Path.{◌≡◌, refl}
use mathlib.Core.Bool.{Bool, true, false, cond, not}
use mathlib.Core.List.{List, [], ◌∷◌}
use mathlib.Core.Option.{Option, none, some, some-ne-none}
use Prim.Native.Nat.{ℕ, ◌*◌}
use lib.Dec.{eqb}
use lib.ListN.{length}
use borrow.Author.Tests.{eqb-true, eq-eqb, ne_eqb}
use Rattle.rules.specs.declared.shapes.Shape.{Shape}
use Rattle.rules.specs.Shape.{accepted}
use Rattle.rules.specs.Fraction.{fraction_length}
use Rattle.rules.specs.Refusal.{first_of, ◌given-when◌, shape_refusal, not_node}
use Rattle.rules.proofs.Accepted.{is-accepted}
use Rattle.fractions.specs.Refusal.{add_refusal}

module _ (sh : Shape) (failed helper : ℕ) (given sums : List ℕ) where
  -- where nothing is refused there are r × l / s sums
  pub add-taken : add_refusal sh failed helper given sums ≡ none → length sums ≡ sh.r * fraction_length sh
  unfolding add_refusal
  add-taken e =
      eqb-true _ _
      (go (first_of (3 given-when not_node sh helper ∷ 3 given-when not_node sh failed ∷ 3 given-when eqb helper failed ∷ [])) (accepted sh)
      (eqb (length given) (fraction_length sh)) (eqb (length sums) (sh.r * fraction_length sh)) e)
    where
      go : (rest : Option ℕ) (a b c : Bool) → cond {A = Option ℕ} (not a) (some 1) (cond (not b) (some 2) (cond (not c) (some 2) rest)) ≡ none → c ≡ true
      go rest true true true h = refl
      go rest true true false h = absurd (some-ne-none 2 h)
      go rest true false c h = absurd (some-ne-none 2 h)
      go rest false b c h = absurd (some-ne-none 1 h)

  pub add-accepted : shape_refusal sh ≡ none → length given ≡ fraction_length sh → length sums ≡ sh.r * fraction_length sh
      → not_node sh helper ≡ false
      → not_node sh failed ≡ false
      → (helper ≡ failed → ⊥)
      → add_refusal sh failed helper given sums ≡ none
  unfolding add_refusal
  add-accepted taken given_is sums-is h f e =
      simp (
        is-accepted sh taken,
        eq-eqb (length given) (fraction_length sh) given_is,
        eq-eqb (length sums) (sh.r * fraction_length sh) sums-is,
        h,
        f,
        ne_eqb helper failed e,
      )

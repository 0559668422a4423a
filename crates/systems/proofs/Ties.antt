-- The systems of this crate in theory's words, at the field of the numbers 0 to 255. In order: points that differ; sums of powers; their size.
--   field_point points j == point j as an element of the field
use mathlib.Core.Path.{◌≡◌, refl, ap₂, ◌∙◌}
use mathlib.Core.List.{List}
use Prim.Native.Nat.{ℕ, ◌<◌}
use lib.ListN.{get_or}
use Rattle.theory.specs.Power as theory
use Rattle.theory.specs.System.{Distinct}
use Rattle.theory.proofs.Sums as laws
use Rattle.field.proofs.Product.{mul-below}
use Rattle.field.proofs.Numbers.{numbers, number, number-mul, number-power, number_injective}
use Rattle.rules.proofs.Ties.{sum_tie, sum_below_lem}
use Rattle.distinct.specs.Promise.{Apart}
use Rattle.systems.specs.System.{moment}

abbrev pub field_point : List ℕ → ℕ → numbers.K
field_point points j = number (get_or points j 0)

pub apart_tie : (count : ℕ) (points : List ℕ) → ((j : ℕ) → j < count → get_or points j 0 < 256) → Apart count points → Distinct numbers (field_point points) count
apart_tie count points small apart i j hi hj e = apart i j hi hj (number_injective _ _ (small i hi) (small j hj) e)

pub moment_tie : (count : ℕ) (points : List ℕ) (x : ℕ → ℕ) (t : ℕ)
    → number (moment count points x t) ≡ theory.moment numbers count (field_point points) (λ j. number (x j)) t
unfolding moment theory.moment
moment_tie count points x t =
    sum_tie count _ ∙ laws.sum_ext numbers count _ _ (λ j l. number-mul _ _ ∙ ap₂ numbers.mul (number-power (get_or points j 0) t) refl)

pub moment-below : (count : ℕ) (points : List ℕ) (x : ℕ → ℕ) (t : ℕ) → moment count points x t < 256
unfolding moment
moment-below count points x t = sum_below_lem count _ (λ j l. mul-below _ _)

-- Powers, and sums of powers times unknowns.
--   power F x t    == x to the power t; power 0 of every number is 1, of 0 too
--   moment F n p x t == the sum over i < n of p i to the power t, times x i
--   moment_over F n L p x t == the same sum over the i < n that are in the set L
use Rattle.std.specs.Prelude.{ℕ, zero, suc, Bool}
use Rattle.theory.specs.Field.{Field}
use Rattle.theory.specs.Sum.{sum, sum_over}

module _ (F : Field) where
  open F use {K, one as 𝟙, mul as ◌⊗◌}

  infixl 70 ◌⊗◌
  unfoldable pub power : K → ℕ → K
  power x zero = 𝟙
  power x (suc t) = power x t ⊗ x

  unfoldable pub moment : ℕ → (ℕ → K) → (ℕ → K) → ℕ → K
  moment n p x t = sum F n (λ i. power (p i) t ⊗ x i)

  unfoldable pub moment_over : ℕ → (ℕ → Bool) → (ℕ → K) → (ℕ → K) → ℕ → K
  moment_over n L p x t = sum_over F n L (λ i. power (p i) t ⊗ x i)

-- Finite sums.
--   sum F n f       == f 0 + f 1 + .. + f (n - 1)
--   sum_over F n L f == the sum of f i over the i < n that are in the set L
use Rattle.std.specs.Prelude.{ℕ, zero, suc, Bool, cond}
use Rattle.theory.specs.Field.{Field}

module _ (F : Field) where
  open F use {K, zero as 𝟘, add as ◌⊕◌}

  infixl 60 ◌⊕◌
  unfoldable pub sum : ℕ → (ℕ → K) → K
  sum zero f = 𝟘
  sum (suc n) f = sum n f ⊕ f n

  unfoldable pub sum_over : ℕ → (ℕ → Bool) → (ℕ → K) → K
  sum_over n L f = sum n (λ i. cond (L i) (f i) 𝟘)

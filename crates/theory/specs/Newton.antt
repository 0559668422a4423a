-- Elimination without pivots: Newton's products. Row t of a square system has the powers t of the points. A step adds to each row from the last down to
-- row k + 1 the row before it, times point k; after k steps row k + d has these numbers, and once each row i has had its i steps the system is a triangle.
--   newton F p i j       == the product over h < i of p j plus p h
--   eliminated F p k d j == the number of row k + d at place j after k steps
use Rattle.std.specs.Prelude.{ℕ, zero, suc}
use Rattle.theory.specs.Field.{Field}
use Rattle.theory.specs.Power.{power}

module _ (F : Field) (p : ℕ → F.K) where
  open F use {K, one as 𝟙, add as ◌⊕◌, mul as ◌⊗◌}

  infixl 60 ◌⊕◌
  infixl 70 ◌⊗◌
  unfoldable pub newton : ℕ → ℕ → K
  newton zero j = 𝟙
  newton (suc i) j = newton i j ⊗ (p j ⊕ p i)

  unfoldable pub eliminated : ℕ → ℕ → ℕ → K
  eliminated k d j = newton k j ⊗ power F (p j) d

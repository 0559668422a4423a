-- Filling by corrections: a stripe that meets the equations of the rows of a lower score is corrected at the rows of score n, by what its equations there
-- are off by.
--   nothing c            == the stripe of zeros
--   correction c L y a i == what is added to the symbol of the lost node i at row a, where y has, for each lost node at each row of that score, what its weight
--                           falls short by
--   Corrected c k L n E y E' == y makes up for the k equations of the rows of score n, and E' is E with these corrections added at the lost nodes there
use Rattle.std.specs.Prelude.{◌≡◌, Bool, true, false, ℕ, ◌<◌}
use Rattle.theory.specs.Code.{Code, Stripe, nodes, rows}
use Rattle.theory.specs.Free.{no_group}
use Rattle.theory.specs.Level.{symbol_from}
use Rattle.theory.specs.Power.{moment_over}
use Rattle.theory.specs.Score.{score}
use Rattle.theory.specs.Whole.{equation}

abbrev pub nothing : (c : Code) → Stripe c
nothing c i a = c.field.zero

unfoldable pub correction : (c : Code) → (ℕ → Bool) → Stripe c → ℕ → ℕ → c.field.K
correction c L y a i = symbol_from c no_group L (nothing c) (λ b j. y j b) a i

pub record Corrected (c : Code) (k : ℕ) (L : ℕ → Bool) (n : ℕ) (E y E' : Stripe c) : Type 0 where
  pub solved : (a : ℕ) → a < rows c → score c.s c.m no_group L a ≡ n → (t : ℕ) → t < k
      → moment_over c.field (nodes c) L c.point (λ i. y i a) t ≡ equation c E a t
  pub stored : (i a : ℕ) → i < nodes c → a < rows c → L i ≡ true → score c.s c.m no_group L a ≡ n
      → E' i a ≡ c.field.add (E i a) (correction c L y a i)
  pub other-rows : (i a : ℕ) → i < nodes c → a < rows c → (score c.s c.m no_group L a ≡ n → ⊥) → E' i a ≡ E i a
  pub survivors : (i a : ℕ) → i < nodes c → a < rows c → L i ≡ false → E' i a ≡ E i a

-- Systems of equations in powers of points: the vocabulary of Vandermonde's theorem.
--   Distinct F p n         == the points of the places below n differ
--   Vanishes F p n k L x   == x is 0 outside the set L, which has at most k places, and k sums of powers times x are 0
--   Reaches F p n k L b x  == x is 0 outside the set L, and its k sums of powers are b
use Rattle.std.specs.Prelude.{◌≡◌, Bool, false, ℕ, ◌<◌, ◌≤◌}
use Rattle.theory.specs.Field.{Field}
use Rattle.theory.specs.Set.{count}
use Rattle.theory.specs.Power.{moment}

abbrev pub Distinct : (F : Field) → (ℕ → F.K) → ℕ → Type 0
Distinct F p n = (i j : ℕ) → i < n → j < n → p i ≡ p j → i ≡ j

pub record Vanishes (F : Field) (p : ℕ → F.K) (n k : ℕ) (L : ℕ → Bool) (x : ℕ → F.K) : Type 0 where
  pub few : count n L ≤ k
  pub off : (i : ℕ) → i < n → L i ≡ false → x i ≡ F.zero
  pub sums : (t : ℕ) → t < k → moment F n p x t ≡ F.zero

pub record Reaches (F : Field) (p : ℕ → F.K) (n k : ℕ) (L : ℕ → Bool) (b x : ℕ → F.K) : Type 0 where
  pub off : (i : ℕ) → L i ≡ false → x i ≡ F.zero
  pub sums : (t : ℕ) → t < k → moment F n p x t ≡ b t

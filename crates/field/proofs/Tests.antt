-- Facts about every number below a bound, by one test that is computed.
--   all f n == the test f passes at each number below n
use mathlib.Core.Path.{◌≡◌}
use mathlib.Core.Bool.{Bool, true, ◌&&◌}
use mathlib.Core.Logic.{◌⊎◌, inl, inr}
use Prim.Native.Nat.{ℕ, zero, suc, ◌<◌}
use native.Mathlib.Nat.{eq-or-lt_of_le, le_of_suc-le-suc, not-suc-le-zero}
use lib.Ieee.Fits.{and_l, and_r}
use lib.Dec.{T, eqb, eqb→eq}

abbrev pub all : (ℕ → Bool) → ℕ → Bool
all f zero = true
all f (suc n) = f n && all f n

pub all-at : (f : ℕ → Bool) (n : ℕ) → T (all f n) → (k : ℕ) → k < n → T (f k)
all-at f zero t k h = absurd (not-suc-le-zero h)
all-at f (suc n) t k h = go (eq-or-lt_of_le (le_of_suc-le-suc h)) (all-at f n (and_r (f n) (all f n) t) k)
  where
    go : (k ≡ n) ⊎ (k < n) → (k < n → T (f k)) → T (f k)
    go (inl e) below = rw e (and_l (f n) (all f n) t)
    go (inr l) below = below l

-- two functions that a test finds equal below n
pub all-equal : (f g : ℕ → ℕ) (n : ℕ) → T (all (λ k. eqb (f k) (g k)) n) → (k : ℕ) → k < n → f k ≡ g k
all-equal f g n t k h = eqb→eq (f k) (g k) (all-at (λ i. eqb (f i) (g i)) n t k h)

-- A statement about every index below 4 is four statements.
use Prim.Native.Nat.{ℕ, zero, suc, ◌<◌}
use native.Mathlib.Omega.{arith}

pub four : (P : ℕ → Type 0) → P 0 → P 1 → P 2 → P 3 → (j : ℕ) → j < 4 → P j
four P p₀ p₁ p₂ p₃ zero h = p₀
four P p₀ p₁ p₂ p₃ (suc zero) h = p₁
four P p₀ p₁ p₂ p₃ (suc (suc zero)) h = p₂
four P p₀ p₁ p₂ p₃ (suc (suc (suc zero))) h = p₃
four P p₀ p₁ p₂ p₃ (suc (suc (suc (suc j)))) h = absurd (omega arith)

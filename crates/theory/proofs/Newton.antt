-- Elimination without pivots. In order: clauses of Newton's products; they are 0 below the diagonal and not 0 from it on, where points differ; the steps of the
-- elimination, from the powers of the points to Newton's products; what solves the triangle solves the system.
use mathlib.Core.Path.{◌≡◌, refl, sym, ap, ◌∙◌}
use Prim.Native.Nat.{ℕ, zero, suc, ◌+◌, ◌<◌, ◌≤◌}
use mathlib.Core.Logic.{◌⊎◌, inl, inr}
use native.Mathlib.Nat.{eq-or-lt_of_le, le_of_suc-le-suc}
use native.Mathlib.Omega.{arith}
use Rattle.theory.specs.Field.{Field}
use Rattle.theory.specs.Sum.{sum}
use Rattle.theory.specs.Power.{power, moment}
use Rattle.theory.specs.System.{Distinct}
use Rattle.theory.specs.Newton.{newton, eliminated}
use Rattle.theory.proofs.Ring as R
use Rattle.theory.proofs.Ring.{ring}
use Rattle.theory.proofs.Sums.{sum_ext, sum-add, sum_scale}
use Rattle.theory.proofs.Powers.{power_zero, power-suc}

module _ (F : Field) (p : ℕ → F.K) where
  open F use {K, zero as 𝟘, one as 𝟙, add as ◌⊕◌, mul as ◌⊗◌}

  infixl 60 ◌⊕◌
  infixl 70 ◌⊗◌
  pub newton-zero : (j : ℕ) → newton F p 0 j ≡ 𝟙
  unfolding newton
  newton-zero j = refl

  pub newton-suc : (i j : ℕ) → newton F p (suc i) j ≡ newton F p i j ⊗ (p j ⊕ p i)
  unfolding newton
  newton-suc i j = refl

  -- below the diagonal
  pub newton_below : (i j : ℕ) → j < i → newton F p i j ≡ 𝟘
  newton_below zero j l = absurd (omega arith)
  newton_below (suc i) j l = newton-suc i j ∙ go (eq-or-lt_of_le (le_of_suc-le-suc l)) (newton_below i j)
    where
      go : (j ≡ i) ⊎ (j < i) → (j < i → newton F p i j ≡ 𝟘) → newton F p i j ⊗ (p j ⊕ p i) ≡ 𝟘
      go (inl e) ih = ap (λ w. newton F p i j ⊗ w) (R.equal→zero F (ap p e)) ∙ R.mul-zero F _
      go (inr k) ih = ap (λ w. w ⊗ (p j ⊕ p i)) (ih k) ∙ R.zero-mul F _

  -- from the diagonal on, among n points that differ
  pub newton_not_zero : (n i j : ℕ) → Distinct F p n → i ≤ j → j < n → newton F p i j ≡ 𝟘 → ⊥
  newton_not_zero n zero j d le l e = F.one_not_zero (sym (newton-zero j) ∙ e)
  newton_not_zero n (suc i) j d le l e =
      R.mul_not_zero F (newton_not_zero n i j d (omega arith) l)
      (λ z. let same : j ≡ i = d j i l (omega arith) (R.zero→equal F z) in omega arith)
      (sym (newton-suc i j) ∙ e)

  pub newton-pivot : (i : ℕ) → Distinct F p (suc i) → newton F p i i ≡ 𝟘 → ⊥
  newton-pivot i d = newton_not_zero (suc i) i i d (omega arith) (omega arith)

  pub eliminated-split : (k d j : ℕ) → eliminated F p k d j ≡ newton F p k j ⊗ power F (p j) d
  unfolding eliminated
  eliminated-split k d j = refl

  -- the rows before the first step are the powers of the points
  pub eliminated_start : (d j : ℕ) → eliminated F p 0 d j ≡ power F (p j) d
  eliminated_start d j = simp (eliminated-split, newton-zero, ring)

  -- a step: the row, and the row before it times point k
  pub eliminated-step : (k d j : ℕ) → eliminated F p (suc k) d j ≡ eliminated F p k (suc d) j ⊕ p k ⊗ eliminated F p k d j
  eliminated-step k d j = simp (eliminated-split, newton-suc, power-suc, ring)

  -- row k after k steps
  pub eliminated-done : (k j : ℕ) → eliminated F p k 0 j ≡ newton F p k j
  eliminated-done k j = simp (eliminated-split, power_zero, ring)

  -- the left sides: after k steps, row k + d of the n unknowns x
  left : ℕ → (ℕ → K) → ℕ → ℕ → K
  left n x k d = sum F n (λ j. eliminated F p k d j ⊗ x j)

  left_step : (n : ℕ) (x : ℕ → K) (k d : ℕ) → left n x (suc k) d ≡ left n x k (suc d) ⊕ p k ⊗ left n x k d
  unfolding left
  left_step n x k d =
      sum_ext F n _ _ (λ j l. ap (λ w. w ⊗ x j) (eliminated-step k d j) ∙ simp ring)
      ∙ sum-add F n (λ j. eliminated F p k (suc d) j ⊗ x j) (λ j. p k ⊗ (eliminated F p k d j ⊗ x j))
      ∙ ap (λ w. left n x k (suc d) ⊕ w) (sum_scale F n (p k) (λ j. eliminated F p k d j ⊗ x j))

  module _ (n : ℕ) (x : ℕ → K) (b : ℕ → ℕ → K)
      (steps : (k d : ℕ) → suc (k + d) < n → b (suc k) d ≡ b k (suc d) ⊕ p k ⊗ b k d)
      (triangle : (k : ℕ) → k < n → sum F n (λ j. newton F p k j ⊗ x j) ≡ b k 0) where
    left-right : (d k : ℕ) → k + d < n → left n x k d ≡ b k d
    unfolding left
    left-right zero k l = sum_ext F n _ _ (λ j jl. ap (λ w. w ⊗ x j) (eliminated-done k j)) ∙ triangle k (omega arith)
    left-right (suc d) k l =
        R.add_cancel_right F (p k ⊗ b k d)
        (ap (λ w. left n x k (suc d) ⊕ p k ⊗ w) (sym (left-right d k (omega arith)))
        ∙ sym (left_step n x k d)
        ∙ left-right d (suc k) (omega arith)
        ∙ steps k d (omega arith))

    -- what solves the triangle solves the system: b 0 has the right-hand sides, and b k what the same k steps make of them
    pub triangle-solves : (t : ℕ) → t < n → moment F n p x t ≡ b 0 t
    unfolding left moment
    triangle-solves t l = sum_ext F n _ _ (λ j jl. ap (λ w. w ⊗ x j) (sym (eliminated_start t j))) ∙ left-right t 0 (omega arith)

-- Laws of powers and of the sums of powers times unknowns. In order: clauses of powers, a power of a sum of exponents; moments: extensionality,
-- of sums, of multiples and of combinations, one point taken out of all; moments over a set.
use mathlib.Core.Path.{◌≡◌, refl, sym, ap, ◌∙◌}
use mathlib.Core.Bool.{Bool, true, false, not}
use Prim.Native.Nat.{ℕ, zero, suc, ◌+◌, ◌*◌, ◌<◌}
use native.Mathlib.Nat.{add-zero, add-suc, mul-zero, mul-suc}
use borrow.Author.Tests.{not-true}
use Rattle.theory.specs.Field.{Field}
use Rattle.theory.specs.Sum.{sum}
use Rattle.theory.specs.Power.{power, moment, moment_over}
use Rattle.theory.specs.Set.{Lists}
use Rattle.theory.proofs.Ring.{ring}
use Rattle.theory.proofs.Sums.{sum-zero, sum-suc, sum_ext, sum-none, sum-add, sum_scale, sum-swap, sum-over-split, sum-over_ext, sum-over-add, sum-over-zero, sum-over-list}

module _ (F : Field) where
  open F use {K, zero as 𝟘, one as 𝟙, add as ◌⊕◌, mul as ◌⊗◌}

  infixl 60 ◌⊕◌
  infixl 70 ◌⊗◌
  pub power_zero : (x : K) → power F x 0 ≡ 𝟙
  unfolding power
  power_zero x = refl

  pub power-suc : (x : K) (t : ℕ) → power F x (suc t) ≡ power F x t ⊗ x
  unfolding power
  power-suc x t = refl

  pub power-add : (x : K) (t k : ℕ) → power F x (t + k) ≡ power F x t ⊗ power F x k
  power-add x t zero = simp (add-zero, power_zero, ring)
  power-add x t (suc k) = rw (add-suc, power-suc x (t + k), power-suc x k, power-add x t k, F.mul_assoc)

  pub power-mul : (x y : K) (t : ℕ) → power F (x ⊗ y) t ≡ power F x t ⊗ power F y t
  power-mul x y zero = simp (power_zero, ring)
  power-mul x y (suc t) = simp (power-suc, power-mul x y t, ring)

  pub power-power : (x : K) (t k : ℕ) → power F (power F x t) k ≡ power F x (t * k)
  power-power x t zero = rw (mul-zero t, power_zero x, power_zero (power F x t))
  power-power x t (suc k) = rw (mul-suc t k, power-add x (t * k) t, power-suc (power F x t) k, power-power x t k)

  pub power_of_one : (t : ℕ) → power F 𝟙 t ≡ 𝟙
  power_of_one zero = power_zero 𝟙
  power_of_one (suc t) = simp (power-suc, power_of_one t, ring)

  pub power_of_zero : (t : ℕ) → power F 𝟘 (suc t) ≡ 𝟘
  power_of_zero t = simp (power-suc, ring)

  pub moment-suc : (n : ℕ) (p x : ℕ → K) (t : ℕ) → moment F (suc n) p x t ≡ moment F n p x t ⊕ power F (p n) t ⊗ x n
  unfolding moment
  moment-suc n p x t = sum-suc F n (λ i. power F (p i) t ⊗ x i)

  pub moment-none : (p x : ℕ → K) (t : ℕ) → moment F 0 p x t ≡ 𝟘
  unfolding moment
  moment-none p x t = sum-zero F (λ i. power F (p i) t ⊗ x i)

  pub moment-short : (n : ℕ) (p x : ℕ → K) (t : ℕ) → x n ≡ 𝟘 → moment F (suc n) p x t ≡ moment F n p x t
  moment-short n p x t e = moment-suc n p x t ∙ simp (e, ring)

  pub moment-first : (n : ℕ) (p x : ℕ → K) → moment F n p x 0 ≡ sum F n x
  unfolding moment
  moment-first n p x = sum_ext F n _ _ (λ i l. simp (power_zero, ring))

  pub moment_ext : (n : ℕ) (p x y : ℕ → K) (t : ℕ) → ((i : ℕ) → i < n → x i ≡ y i) → moment F n p x t ≡ moment F n p y t
  unfolding moment
  moment_ext n p x y t h = sum_ext F n _ _ (λ i l. ap (λ w. power F (p i) t ⊗ w) (h i l))

  pub moment-zero : (n : ℕ) (p x : ℕ → K) (t : ℕ) → ((i : ℕ) → i < n → x i ≡ 𝟘) → moment F n p x t ≡ 𝟘
  unfolding moment
  moment-zero n p x t h = sum-none F n _ (λ i l. simp (h i l, ring))

  pub moment-add : (n : ℕ) (p x y : ℕ → K) (t : ℕ) → moment F n p (λ i. x i ⊕ y i) t ≡ moment F n p x t ⊕ moment F n p y t
  unfolding moment
  moment-add n p x y t = sum_ext F n _ _ (λ i l. simp ring) ∙ sum-add F n (λ i. power F (p i) t ⊗ x i) (λ i. power F (p i) t ⊗ y i)

  pub moment_scale : (n : ℕ) (p : ℕ → K) (z : K) (x : ℕ → K) (t : ℕ) → moment F n p (λ i. z ⊗ x i) t ≡ z ⊗ moment F n p x t
  unfolding moment
  moment_scale n p z x t = sum_ext F n _ _ (λ i l. simp ring) ∙ sum_scale F n z (λ i. power F (p i) t ⊗ x i)

  -- unknowns that are combinations of k others
  pub moment-sum : (n k : ℕ) (p : ℕ → K) (x : ℕ → ℕ → K) (b : ℕ → K) (t : ℕ)
      → moment F n p (λ i. sum F k (λ u. x u i ⊗ b u)) t ≡ sum F k (λ u. b u ⊗ moment F n p (x u) t)
  unfolding moment
  moment-sum n k p x b t =
      sum_ext F n _ _ (λ i l. sym (sum_scale F k (power F (p i) t) (λ u. x u i ⊗ b u)))
      ∙ sum-swap F n k (λ i u. power F (p i) t ⊗ (x u i ⊗ b u))
      ∙ sum_ext F k _ _ (λ u l. sum_ext F n _ _ (λ i il. simp ring) ∙ sum_scale F n (b u) (λ i. power F (p i) t ⊗ x u i))

  -- the step of Vandermonde: unknowns times the difference of their points from q
  pub moment_shift : (n : ℕ) (p : ℕ → K) (q : K) (x : ℕ → K) (t : ℕ)
      → moment F n p (λ i. (p i ⊕ q) ⊗ x i) t ≡ moment F n p x (suc t) ⊕ q ⊗ moment F n p x t
  moment_shift zero p q x t = simp (moment-none, ring)
  moment_shift (suc n) p q x t =
      moment-suc n p (λ i. (p i ⊕ q) ⊗ x i) t
      ∙ ap (λ w. w ⊕ power F (p n) t ⊗ ((p n ⊕ q) ⊗ x n)) (moment_shift n p q x t)
      ∙ simp (moment-suc, power-suc, ring)

  -- sums of powers over a set
  pub moment-over-split : (n : ℕ) (L : ℕ → Bool) (p x : ℕ → K) (t : ℕ) → moment F n p x t ≡ moment_over F n L p x t ⊕ moment_over F n (λ i. not (L i)) p x t
  unfolding moment moment_over
  moment-over-split n L p x t = sum-over-split F n L (λ i. power F (p i) t ⊗ x i)

  pub moment-over_ext : (n : ℕ) (L : ℕ → Bool) (p x y : ℕ → K) (t : ℕ) → ((i : ℕ) → i < n → L i ≡ true → x i ≡ y i)
      → moment_over F n L p x t ≡ moment_over F n L p y t
  unfolding moment_over
  moment-over_ext n L p x y t h = sum-over_ext F n L _ _ (λ i l e. ap (λ w. power F (p i) t ⊗ w) (h i l e))

  pub moment-over-add : (n : ℕ) (L : ℕ → Bool) (p x y : ℕ → K) (t : ℕ) → moment_over F n L p (λ i. x i ⊕ y i) t ≡ moment_over F n L p x t ⊕ moment_over F n L p y t
  unfolding moment_over
  moment-over-add n L p x y t =
      sum-over_ext F n L _ _ (λ i l e. F.mul-add _ _ _) ∙ sum-over-add F n L (λ i. power F (p i) t ⊗ x i) (λ i. power F (p i) t ⊗ y i)

  pub moment-over-zero : (n : ℕ) (L : ℕ → Bool) (p x : ℕ → K) (t : ℕ) → ((i : ℕ) → i < n → L i ≡ true → x i ≡ 𝟘) → moment_over F n L p x t ≡ 𝟘
  unfolding moment_over
  moment-over-zero n L p x t h = sum-over-zero F n L _ (λ i l e. simp (h i l e, ring))

  -- unknowns that are 0 outside the set
  pub moment-inside : (n : ℕ) (L : ℕ → Bool) (p x : ℕ → K) (t : ℕ) → ((i : ℕ) → i < n → L i ≡ false → x i ≡ 𝟘) → moment F n p x t ≡ moment_over F n L p x t
  moment-inside n L p x t h =
      moment-over-split n L p x t
      ∙ ap (λ w. moment_over F n L p x t ⊕ w) (moment-over-zero n (λ i. not (L i)) p x t (λ i l out. h i l (not-true (L i) out)))
      ∙ F.add-zero _

  pub moment-over-list : (n : ℕ) (L : ℕ → Bool) (k : ℕ) (e : ℕ → ℕ) (p x : ℕ → K) (t : ℕ) → Lists n L k e
      → moment_over F n L p x t ≡ moment F k (λ j. p (e j)) (λ j. x (e j)) t
  unfolding moment moment_over
  moment-over-list n L k e p x t h = sum-over-list F n L k e (λ i. power F (p i) t ⊗ x i) h

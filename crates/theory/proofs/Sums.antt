-- Laws of finite sums. In order: clauses; extensionality; sums of zeros, of sums, of multiples; exchanging; splitting, by a bound, by groups, by a
-- set, at one place; a sum over a listed set.
use mathlib.Core.Path.{◌≡◌, refl, sym, ap, ap₂, ◌∙◌}
use mathlib.Core.Bool.{Bool, true, false, not, cond}
use Prim.Native.Nat.{ℕ, zero, suc, ◌+◌, ◌*◌, ◌<◌}
use native.Mathlib.Nat.{add-zero, add-suc, zero-mul, suc-mul}
use native.Mathlib.Omega.{arith}
use lib.Dec.{eqb}
use borrow.Author.Tests.{eqb-true, eqb-false, eq-eqb, ne_eqb}
use Rattle.theory.specs.Field.{Field}
use Rattle.theory.specs.Digit.{node}
use Rattle.theory.specs.Sum.{sum, sum_over}
use Rattle.theory.specs.Set.{changed, without, Lists}
use Rattle.theory.proofs.Ring.{ring}
use Rattle.theory.proofs.Counts.{lists-less}

module _ (F : Field) where
  open F use {K, zero as 𝟘, add as ◌⊕◌, mul as ◌⊗◌}

  infixl 60 ◌⊕◌
  infixl 70 ◌⊗◌
  pub sum-zero : (f : ℕ → K) → sum F 0 f ≡ 𝟘
  unfolding sum
  sum-zero f = refl

  pub sum-suc : (n : ℕ) (f : ℕ → K) → sum F (suc n) f ≡ sum F n f ⊕ f n
  unfolding sum
  sum-suc n f = refl

  pub sum_ext : (n : ℕ) (f g : ℕ → K) → ((i : ℕ) → i < n → f i ≡ g i) → sum F n f ≡ sum F n g
  sum_ext zero f g h = simp sum-zero
  sum_ext (suc n) f g h = simp (sum-suc, sum_ext n f g (λ i l. h i (omega arith)), h n (omega arith))

  pub sum-none : (n : ℕ) (f : ℕ → K) → ((i : ℕ) → i < n → f i ≡ 𝟘) → sum F n f ≡ 𝟘
  sum-none zero f h = simp sum-zero
  sum-none (suc n) f h = simp (sum-suc, sum-none n f (λ i l. h i (omega arith)), h n (omega arith), ring)

  pub sum-add : (n : ℕ) (f g : ℕ → K) → sum F n (λ i. f i ⊕ g i) ≡ sum F n f ⊕ sum F n g
  sum-add zero f g = simp (sum-zero, ring)
  sum-add (suc n) f g = simp (sum-suc, sum-add n f g, ring)

  pub sum_scale : (n : ℕ) (x : K) (f : ℕ → K) → sum F n (λ i. x ⊗ f i) ≡ x ⊗ sum F n f
  sum_scale zero x f = simp (sum-zero, ring)
  sum_scale (suc n) x f = simp (sum-suc, sum_scale n x f, ring)

  pub sum-swap : (n k : ℕ) (f : ℕ → ℕ → K) → sum F n (λ i. sum F k (λ j. f i j)) ≡ sum F k (λ j. sum F n (λ i. f i j))
  sum-swap zero k f = sum-zero (λ i. sum F k (λ j. f i j)) ∙ sym (sum-none k (λ j. sum F 0 (λ i. f i j)) (λ j l. sum-zero (λ i. f i j)))
  sum-swap (suc n) k f =
      sum-suc n (λ i. sum F k (λ j. f i j))
      ∙ ap (λ w. w ⊕ sum F k (f n)) (sum-swap n k f)
      ∙ sym (sum-add k (λ j. sum F n (λ i. f i j)) (f n))
      ∙ sum_ext k _ _ (λ j l. sym (sum-suc n (λ i. f i j)))

  pub sum-split : (n k : ℕ) (f : ℕ → K) → sum F (n + k) f ≡ sum F n f ⊕ sum F k (λ i. f (n + i))
  sum-split n zero f = simp (add-zero, sum-zero, ring)
  sum-split n (suc k) f = simp (add-suc, sum-suc, sum-split n k f, ring)

  -- by the groups of s nodes
  pub sum-groups : (m s : ℕ) (f : ℕ → K) → sum F (m * s) f ≡ sum F m (λ v. sum F s (λ u. f (node s v u)))
  unfolding node
  sum-groups zero s f = simp (zero-mul, sum-zero)
  sum-groups (suc m) s f = simp (suc-mul, sum-split, sum-suc, sum-groups m s f)

  -- a sum over a set and a sum over its complement make the sum
  pub sum-over-split : (n : ℕ) (L : ℕ → Bool) (f : ℕ → K) → sum F n f ≡ sum_over F n L f ⊕ sum_over F n (λ i. not (L i)) f
  unfolding sum_over
  sum-over-split n L f = sum_ext n _ _ (λ i l. one (L i) (f i)) ∙ sum-add n _ _
    where
      one : (b : Bool) (x : K) → x ≡ cond b x 𝟘 ⊕ cond (not b) x 𝟘
      one true x = simp ring
      one false x = simp ring

  pub sum-over_ext : (n : ℕ) (L : ℕ → Bool) (f g : ℕ → K) → ((i : ℕ) → i < n → L i ≡ true → f i ≡ g i) → sum_over F n L f ≡ sum_over F n L g
  unfolding sum_over
  sum-over_ext n L f g h = sum_ext n _ _ (λ i l. one (L i) (f i) (g i) (h i l))
    where
      one : (b : Bool) (x y : K) → (b ≡ true → x ≡ y) → cond b x 𝟘 ≡ cond b y 𝟘
      one true x y e = e refl
      one false x y e = refl

  pub sum-over-add : (n : ℕ) (L : ℕ → Bool) (f g : ℕ → K) → sum_over F n L (λ i. f i ⊕ g i) ≡ sum_over F n L f ⊕ sum_over F n L g
  unfolding sum_over
  sum-over-add n L f g = sum_ext n _ _ (λ i l. one (L i) (f i) (g i)) ∙ sum-add n _ _
    where
      one : (b : Bool) (x y : K) → cond b (x ⊕ y) 𝟘 ≡ cond b x 𝟘 ⊕ cond b y 𝟘
      one true x y = refl
      one false x y = simp ring

  pub sum-over-zero : (n : ℕ) (L : ℕ → Bool) (f : ℕ → K) → ((i : ℕ) → i < n → L i ≡ true → f i ≡ 𝟘) → sum_over F n L f ≡ 𝟘
  unfolding sum_over
  sum-over-zero n L f h = sum-none n _ (λ i l. one (L i) (f i) (h i l))
    where
      one : (b : Bool) (x : K) → (b ≡ true → x ≡ 𝟘) → cond b x 𝟘 ≡ 𝟘
      one true x e = e refl
      one false x e = refl

  -- a sum with one term, and one term taken out of a sum
  pub sum_one : (n j : ℕ) (f : ℕ → K) → j < n → ((i : ℕ) → i < n → (i ≡ j → ⊥) → f i ≡ 𝟘) → sum F n f ≡ f j
  sum_one zero j f l h = absurd (omega arith)
  sum_one (suc n) j f l h = go (eqb n j) refl (sum_one n j f)
    where
      go : (b : Bool) → eqb n j ≡ b → (j < n → ((i : ℕ) → i < n → (i ≡ j → ⊥) → f i ≡ 𝟘) → sum F n f ≡ f j) → sum F (suc n) f ≡ f j
      go true e ih =
          let same : n ≡ j = eqb-true n j e in
          sum-suc n f ∙ ap₂ ◌⊕◌ (sum-none n f (λ i k. h i (omega arith) (omega arith))) (ap f same) ∙ simp ring
      go false e ih =
          let other : (n ≡ j → ⊥) = eqb-false n j e in
          simp (sum-suc, ih (omega arith) (λ i k o. h i (omega arith) o), h n (omega arith) other, ring)

  pub sum-at : (n j : ℕ) (f : ℕ → K) → j < n → sum F n f ≡ f j ⊕ sum F n (changed j 𝟘 f)
  unfolding changed
  sum-at n j f l =
      sum_ext n f (λ i. only i ⊕ changed j 𝟘 f i) (λ i k. both (eqb i j) (f i))
      ∙ sum-add n only (changed j 𝟘 f)
      ∙ ap (λ w. w ⊕ sum F n (changed j 𝟘 f)) (sum_one n j only l (λ i k o. rw (ne_eqb i j o)) ∙ rw (eq-eqb j j refl))
    where
      only : ℕ → K
      only i = cond (eqb i j) (f i) 𝟘

      both : (b : Bool) (x : K) → x ≡ cond b x 𝟘 ⊕ cond b 𝟘 x
      both true x = simp ring
      both false x = simp ring

  -- a sum over a listed set is the sum over its list
  sum-over-less : (n : ℕ) (L : ℕ → Bool) (j : ℕ) (f : ℕ → K) → j < n → L j ≡ true → sum_over F n L f ≡ sum_over F n (without j L) f ⊕ f j
  unfolding sum_over changed
  sum-over-less n L j f l e =
      sum-at n j (λ i. cond (L i) (f i) 𝟘) l
      ∙ ap₂ ◌⊕◌ (ap (λ b. cond b (f j) 𝟘) e) (sum_ext n _ _ (λ i k. less (eqb i j) (L i) (f i)))
      ∙ F.add_comm _ _
    where
      less : (b l : Bool) (x : K) → cond b 𝟘 (cond l x 𝟘) ≡ cond (cond b false l) x 𝟘
      less true l x = refl
      less false l x = refl

  pub sum-over-list : (n : ℕ) (L : ℕ → Bool) (k : ℕ) (e : ℕ → ℕ) (f : ℕ → K) → Lists n L k e → sum_over F n L f ≡ sum F k (λ j. f (e j))
  sum-over-list n L zero e f h = sum-over-zero n L f (λ i l b. absurd (omega (arith, (h.all i l b).1))) ∙ sym (sum-zero (λ j. f (e j)))
  sum-over-list n L (suc k) e f h =
      sum-over-less n L (e k) f (h.below k (omega arith)) (h.inside k (omega arith))
      ∙ ap (λ w. w ⊕ f (e k)) (sum-over-list n (without (e k) L) k e f (lists-less n L k e h))
      ∙ sym (sum-suc k (λ j. f (e j)))

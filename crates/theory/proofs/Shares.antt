-- Laws of shares. In order: a share as a multiple of the own symbol and, at the row's digit, a spread; the shares of
-- all columns in an equation sum to the weighted sum of all weights; a zero column has zero shares, so
-- that phantoms drop out.
use mathlib.Core.Path.{◌≡◌, refl, sym, ap, ap₂, ◌∙◌}
use Prim.Native.Nat.{ℕ, compare, ◌+◌, ◌-◌, ◌<◌, ◌≤◌, Ordering}
use native.Mathlib.Nat.{add-sub_of_le}
use native.Mathlib.Omega.{arith}
use Rattle.theory.specs.Sum.{sum}
use Rattle.theory.specs.Power.{power, moment}
use Rattle.theory.specs.Code.{Code, Stripe, Lawful, nodes, rows}
use Rattle.theory.specs.Digit.{digit, with_digit, group, node}
use Rattle.theory.specs.Weight.{weight, side, mate_node, mate_row}
use Rattle.theory.specs.Pair.{factor}
use Rattle.theory.specs.Share.{spread, shared, share}
use Rattle.theory.specs.Whole.{equation}
use Rattle.theory.proofs.Ring as R
use Rattle.theory.proofs.Ring.{ring}
use Rattle.theory.proofs.Sums.{sum_ext, sum-none, sum_one, sum-add, sum-split, sum-groups}
use Rattle.theory.proofs.Powers.{moment-zero}
use Rattle.theory.proofs.Digits.{digit_lt, set_lt, group_lt, group-node, place-node}
use Rattle.theory.proofs.Mates.{compare→compared, compare_only}
use Rattle.theory.proofs.Weights.{weight-split}

-- what stands only where the place is the row's digit
unfoldable at-digit : (c : Code) → Ordering → c.field.K → c.field.K
at-digit c Ordering.lt x = c.field.zero
at-digit c Ordering.eq x = x
at-digit c Ordering.gt x = c.field.zero

module _ (c : Code) (h : Lawful c) where
  open c use {field as F, s, m, point, γ}
  open F use {K, zero as 𝟘, one as 𝟙, add as ◌⊕◌, mul as ◌⊗◌}

  infixl 60 ◌⊕◌
  infixl 70 ◌⊗◌
  -- the three cases of a share, each as an identity over any numbers
  below : (g p x : K) → g ⊗ p ⊗ x ≡ p ⊗ (g ⊗ x) ⊕ 𝟘
  below g p x = simp ring

  level : (p x y : K) → y ≡ p ⊗ (𝟘 ⊗ x) ⊕ y
  level p x y = simp ring

  above : (p x : K) → p ⊗ x ≡ p ⊗ (𝟙 ⊗ x) ⊕ 𝟘
  above p x = simp ring

  share-split : (t i : ℕ) (x : ℕ → K) (a : ℕ)
      → share c t i x a ≡ power F (point i) t ⊗ (factor c (side s a i) ⊗ x a) ⊕ at-digit c (side s a i) (spread c t (group s i) x a)
  unfolding share shared factor at-digit
  share-split t i x a = go (side s a i)
    where
      go : (o : Ordering) → shared c o t i x a ≡ power F (point i) t ⊗ (factor c o ⊗ x a) ⊕ at-digit c o (spread c t (group s i) x a)
      go Ordering.lt = below γ (power F (point i) t) (x a)
      go Ordering.eq = level (power F (point i) t) (x a) (spread c t (group s i) x a)
      go Ordering.gt = above (power F (point i) t) (x a)

  -- node u of group v, and its mate, at row a
  side-node : (a v u : ℕ) → u < s → side s a (node s v u) ≡ compare u (digit s a v)
  unfolding side
  side-node a v u l = simp (place-node s v u l, group-node s v u l)

  mate_node_lem : (a v u : ℕ) → u < s → mate_node s a (node s v u) ≡ node s v (digit s a v)
  unfolding mate_node
  mate_node_lem a v u l = simp (group-node s v u l)

  mate_row_lem : (a v u : ℕ) → u < s → mate_row s a (node s v u) ≡ with_digit s a v u
  unfolding mate_row
  mate_row_lem a v u l = simp (place-node s v u l, group-node s v u l)

  -- only the node at the row's digit spreads, over the mates of its group
  group-spread : (t v : ℕ) (C : Stripe c) (a : ℕ)
      → sum F s (λ u. at-digit c (side s a (node s v u)) (spread c t (group s (node s v u)) (C (node s v u)) a))
      ≡ sum F s (λ u. power F (point (node s v u)) t ⊗ C (mate_node s a (node s v u)) (mate_row s a (node s v u)))
  unfolding at-digit spread moment
  group-spread t v C a =
      sum_one F s d _ (digit_lt s h.some-place a v) other
      ∙ rw (side-node a v d dl, compare_only d d Ordering.eq refl, group-node s v d dl)
      (sum_ext F s _ _ (λ w l. ap (λ x. power F (point (node s v w)) t ⊗ x) (sym (ap₂ C (mate_node_lem a v w l) (mate_row_lem a v w l)))))
    where
      d : ℕ
      d = digit s a v

      dl : d < s
      dl = digit_lt s h.some-place a v

      other : (u : ℕ) → u < s → (u ≡ d → ⊥) → at-digit c (side s a (node s v u)) (spread c t (group s (node s v u)) (C (node s v u)) a) ≡ 𝟘
      other u l ne = rw (side-node a v u l) (go (compare u d) (λ e. ne (compare→compared u d e)))
        where
          go : (o : Ordering) → (o ≡ Ordering.eq → ⊥) → at-digit c o (spread c t (group s (node s v u)) (C (node s v u)) a) ≡ 𝟘
          go Ordering.lt n = refl
          go Ordering.eq n = absurd (n refl)
          go Ordering.gt n = refl

  group_shares : (t v : ℕ) (C : Stripe c) (a : ℕ)
      → sum F s (λ u. share c t (node s v u) (C (node s v u)) a) ≡ sum F s (λ u. power F (point (node s v u)) t ⊗ weight c C a (node s v u))
  group_shares t v C a =
      sum_ext F s _ _ (λ u l. share-split t (node s v u) (C (node s v u)) a)
      ∙ sum-add F s own _
      ∙ ap (λ w. sum F s own ⊕ w) (group-spread t v C a)
      ∙ sym (sum-add F s own _)
      ∙ sum_ext F s _ _ (λ u l. sym (ap (λ w. power F (point (node s v u)) t ⊗ w) (weight-split c h C a (node s v u)) ∙ F.mul-add _ _ _))
    where
      own : ℕ → K
      own u = power F (point (node s v u)) t ⊗ (factor c (side s a (node s v u)) ⊗ C (node s v u) a)

  -- an equation is the sum of the shares of all columns
  pub equation_shares : (C : Stripe c) (a t : ℕ) → equation c C a t ≡ sum F (nodes c) (λ i. share c t i (C i) a)
  unfolding equation moment
  equation_shares C a t =
      sum-groups F m s _
      ∙ sum_ext F m _ _ (λ v l. sym (group_shares t v C a))
      ∙ sym (sum-groups F m s (λ i. share c t i (C i) a))

  -- a node at the row's digit spreads
  pub share-own : (t i : ℕ) (x : ℕ → K) (a : ℕ) → side s a i ≡ Ordering.eq → share c t i x a ≡ spread c t (group s i) x a
  unfolding share shared
  share-own t i x a e = rw e

  -- a zero column has zero shares: phantoms drop out, though their points stay
  pub share-zero : (t i : ℕ) (x : ℕ → K) (a : ℕ) → i < nodes c → a < rows c → ((b : ℕ) → b < rows c → x b ≡ 𝟘) → share c t i x a ≡ 𝟘
  unfolding share shared spread
  share-zero t i x a il al z = go (side s a i)
    where
      go : (o : Ordering) → shared c o t i x a ≡ 𝟘
      go Ordering.lt = ap (λ w. γ ⊗ power F (point i) t ⊗ w) (z a al) ∙ R.mul-zero F _
      go Ordering.eq =
          moment-zero F s _ _ t (λ w l. z _ (set_lt s h.some-place m a (group s i) w (group_lt s h.some-place m i il) l al))
      go Ordering.gt = ap (λ w. power F (point i) t ⊗ w) (z a al) ∙ R.mul-zero F _

  -- the shares of the first n columns are enough where the others are zero
  pub equation-real : (n : ℕ) (C : Stripe c) (a t : ℕ) → n ≤ nodes c → a < rows c
      → ((i b : ℕ) → n ≤ i → i < nodes c → b < rows c → C i b ≡ 𝟘)
      → equation c C a t ≡ sum F n (λ i. share c t i (C i) a)
  equation-real n C a t le al z =
      equation_shares C a t
      ∙ ap (λ k. sum F k (λ i. share c t i (C i) a)) (sym (add-sub_of_le le))
      ∙ sum-split F n (nodes c - n) _
      ∙ ap (λ w. sum F n (λ i. share c t i (C i) a) ⊕ w)
      (sum-none F (nodes c - n) _ (λ i l. share-zero t (n + i) (C (n + i)) a (omega arith) al (λ b bl. z (n + i) b (omega arith) (omega arith) bl)))
      ∙ F.add-zero _

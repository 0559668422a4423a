-- Laws of weights and of the coupled pair. In order: a weight as a multiple of the own symbol plus the mate's; a weight at its row's digit; two
-- weights of a pair settle the two symbols, and every two weights are reached; the symbols of a stripe from its weights;
-- weights in free groups and in bound ones.
use mathlib.Core.Path.{◌≡◌, refl, sym, ap, ap₂, ◌∙◌}
use mathlib.Core.Bool.{Bool, true, false}
use Prim.Native.Nat.{ℕ, Ordering}
use Rattle.theory.specs.Code.{Code, Stripe, Lawful}
use Rattle.theory.specs.Digit.{group}
use Rattle.theory.specs.Free.{weight_free}
use Rattle.theory.specs.Weight.{weighed, weight, side, mate_node, mate_row}
use Rattle.theory.specs.Pair.{flipped, factor, unpaired}
use Rattle.theory.proofs.Ring as R
use Rattle.theory.proofs.Ring.{ring}
use Rattle.theory.proofs.Mates.{flipped-flipped, flipped-off, mate_own, mate_flips, mate_mate_node, mate_mate_row}

module _ (c : Code) (h : Lawful c) where
  open c use {field as F, s, γ}
  open F use {K, zero as 𝟘, one as 𝟙, add as ◌⊕◌, mul as ◌⊗◌, inverse}

  infixl 60 ◌⊕◌
  infixl 70 ◌⊗◌
  pub weight-own : (C : Stripe c) (a i : ℕ) → side s a i ≡ Ordering.eq → weight c C a i ≡ C i a
  unfolding weight weighed
  weight-own C a i e = rw e

  pub weight-split : (C : Stripe c) (a i : ℕ) → weight c C a i ≡ factor c (side s a i) ⊗ C i a ⊕ C (mate_node s a i) (mate_row s a i)
  unfolding weight weighed factor
  weight-split C a i = go (side s a i) refl
    where
      go : (o : Ordering) → side s a i ≡ o → weighed c o (C i a) (C (mate_node s a i) (mate_row s a i)) ≡ factor c o ⊗ C i a ⊕ C (mate_node s a i) (mate_row s a i)
      go Ordering.lt e = refl
      go Ordering.eq e =
          let own : (mate_node s a i ≡ i) × (mate_row s a i ≡ a) = mate_own s h.some-place a i e in
          sym (R.zero-add F (C i a)) ∙ ap₂ ◌⊕◌ (sym (R.zero-mul F (C i a))) (sym (ap₂ C own.0 own.1))
      go Ordering.gt e = simp ring

  pub factor-own : {o : Ordering} → o ≡ Ordering.eq → factor c o ≡ 𝟘
  unfolding factor
  factor-own e = rw e

  pub factor_not_zero : (o : Ordering) → (o ≡ Ordering.eq → ⊥) → factor c o ≡ 𝟘 → ⊥
  unfolding factor
  factor_not_zero Ordering.lt ne = h.γ_not_zero
  factor_not_zero Ordering.eq ne = λ e. ne refl
  factor_not_zero Ordering.gt ne = F.one_not_zero

  γ_and_one : γ ⊕ 𝟙 ≡ 𝟘 → ⊥
  γ_and_one e = h.γ_not_one (R.zero→equal F e)

  own-only : (o : Ordering) (x y : K) → (o ≡ Ordering.eq → ⊥) → unpaired c o (weighed c o x y) (weighed c (flipped o) y x) ≡ x
  unfolding unpaired weighed factor
  own-only Ordering.lt x y ne = ap (λ w. inverse (γ ⊕ 𝟙) ⊗ w) (simp ring) ∙ R.mul-inverse-left F (γ ⊕ 𝟙) x γ_and_one
  own-only Ordering.eq x y ne = absurd (ne refl)
  own-only Ordering.gt x y ne = ap (λ w. inverse (γ ⊕ 𝟙) ⊗ w) (simp ring) ∙ R.mul-inverse-left F (γ ⊕ 𝟙) x γ_and_one

  own-reached : (o : Ordering) (w w' : K) → (o ≡ Ordering.eq → ⊥) → weighed c o (unpaired c o w w') (unpaired c (flipped o) w' w) ≡ w
  unfolding unpaired weighed factor
  own-reached Ordering.lt w w' ne = ◌∙◌ {b = (γ ⊕ 𝟙) ⊗ (inverse (γ ⊕ 𝟙) ⊗ w)} (simp ring) (R.mul-inverse-right F (γ ⊕ 𝟙) w γ_and_one)
  own-reached Ordering.eq w w' ne = absurd (ne refl)
  own-reached Ordering.gt w w' ne = ◌∙◌ {b = (γ ⊕ 𝟙) ⊗ (inverse (γ ⊕ 𝟙) ⊗ w)} (simp ring) (R.mul-inverse-right F (γ ⊕ 𝟙) w γ_and_one)

  -- two weights settle two symbols
  pub pair_only : (o : Ordering) (x y : K) → (o ≡ Ordering.eq → ⊥)
      → (unpaired c o (weighed c o x y) (weighed c (flipped o) y x) ≡ x) × (unpaired c (flipped o) (weighed c (flipped o) y x) (weighed c o x y) ≡ y)
  pair_only o x y ne = (own-only o x y ne, rw flipped-flipped at (own-only (flipped o) y x (flipped-off o ne)))

  -- and every two weights are reached
  pub pair_reached : (o : Ordering) (w w' : K) → (o ≡ Ordering.eq → ⊥)
      → (weighed c o (unpaired c o w w') (unpaired c (flipped o) w' w) ≡ w) × (weighed c (flipped o) (unpaired c (flipped o) w' w) (unpaired c o w w') ≡ w')
  pair_reached o w w' ne = (own-reached o w w' ne, rw flipped-flipped at (own-reached (flipped o) w' w (flipped-off o ne)))

  pub unpaired-zero : (o : Ordering) → unpaired c o 𝟘 𝟘 ≡ 𝟘
  unfolding unpaired
  unpaired-zero o = simp ring

  -- the mate's weight, from the same two symbols
  pub weight_mate : (C : Stripe c) (a i : ℕ)
      → weight c C (mate_row s a i) (mate_node s a i) ≡ weighed c (flipped (side s a i)) (C (mate_node s a i) (mate_row s a i)) (C i a)
  unfolding weight
  weight_mate C a i = simp (mate_flips s h.some-place, mate_mate_node s h.some-place, mate_mate_row s h.some-place)

  -- the two weights of a pair settle its symbols
  pub symbol_paired : (C : Stripe c) (a i : ℕ) → (side s a i ≡ Ordering.eq → ⊥)
      → unpaired c (side s a i) (weight c C a i) (weight c C (mate_row s a i) (mate_node s a i)) ≡ C i a
  unfolding weight
  symbol_paired C a i ne = ap (unpaired c (side s a i) (weight c C a i)) (weight_mate C a i) ∙ (pair_only (side s a i) _ _ ne).0

  -- a weight and the mate's symbol settle the own
  pub symbol-single : (C : Stripe c) (a i : ℕ) → (side s a i ≡ Ordering.eq → ⊥)
      → inverse (factor c (side s a i)) ⊗ (weight c C a i ⊕ C (mate_node s a i) (mate_row s a i)) ≡ C i a
  symbol-single C a i ne =
      ap (λ w. inverse (factor c (side s a i)) ⊗ (w ⊕ C (mate_node s a i) (mate_row s a i))) (weight-split C a i)
      ∙ ap (λ w. inverse (factor c (side s a i)) ⊗ w) (R.add_twice F _ _)
      ∙ R.mul-inverse-left F _ _ (factor_not_zero (side s a i) ne)

module _ (c : Code) (free : ℕ → Bool) where
  open c use {s}

  pub weight-free : (C : Stripe c) (a i : ℕ) → free (group s i) ≡ true → weight_free c free C a i ≡ C i a
  unfolding weight_free
  weight-free C a i e = rw e

  pub weight-bound : (C : Stripe c) (a i : ℕ) → free (group s i) ≡ false → weight_free c free C a i ≡ weight c C a i
  unfolding weight_free
  weight-bound C a i e = rw e

-- Weights, shares, equations and fillings of a sum of two stripes and of a multiple of one. In order: weights; equations and whole stripes;
-- filling; shares.
use mathlib.Core.Path.{◌≡◌, refl, ap, ap₂, ◌∙◌}
use Prim.Native.Nat.{ℕ, ◌<◌, Ordering}
use mathlib.Core.Bool.{Bool}
use Rattle.theory.specs.Code.{Code, Stripe, nodes, plus, scaled}
use Rattle.theory.specs.Weight.{weighed, weight, side, mate_node, mate_row}
use Rattle.theory.specs.Pair.{unpaired}
use Rattle.theory.specs.Share.{spread, shared, share}
use Rattle.theory.specs.Whole.{equation, MeetsRow, Whole, Fills}
use Rattle.theory.proofs.Ring.{ring}
use Rattle.theory.proofs.Powers.{moment_ext, moment-add, moment_scale}

module _ (c : Code) where
  open c use {field as F, s, point}
  open F use {K, add as ◌⊕◌, mul as ◌⊗◌}

  infixl 60 ◌⊕◌
  infixl 70 ◌⊗◌
  pub weighed-add : (o : Ordering) (x y x' y' : K) → weighed c o (x ⊕ x') (y ⊕ y') ≡ weighed c o x y ⊕ weighed c o x' y'
  unfolding weighed
  weighed-add Ordering.lt x y x' y' = simp ring
  weighed-add Ordering.eq x y x' y' = refl
  weighed-add Ordering.gt x y x' y' = simp ring

  pub weighed-scaled : (o : Ordering) (z x y : K) → weighed c o (z ⊗ x) (z ⊗ y) ≡ z ⊗ weighed c o x y
  unfolding weighed
  weighed-scaled Ordering.lt z x y = simp ring
  weighed-scaled Ordering.eq z x y = refl
  weighed-scaled Ordering.gt z x y = simp ring

  -- and back from the weights
  pub unpaired-add : (o : Ordering) (w w' u u' : K) → unpaired c o (w ⊕ u) (w' ⊕ u') ≡ unpaired c o w w' ⊕ unpaired c o u u'
  unfolding unpaired
  unpaired-add o w w' u u' = simp ring

  -- a weight depends on two symbols alone
  pub weight_ext : (C D : Stripe c) (a i : ℕ) → C i a ≡ D i a → C (mate_node s a i) (mate_row s a i) ≡ D (mate_node s a i) (mate_row s a i)
      → weight c C a i ≡ weight c D a i
  unfolding weight
  weight_ext C D a i own other = ap₂ (weighed c (side s a i)) own other

  pub weight-add : (C D : Stripe c) (a i : ℕ) → weight c (plus c C D) a i ≡ weight c C a i ⊕ weight c D a i
  unfolding weight
  weight-add C D a i = weighed-add (side s a i) _ _ _ _

  pub weight_scaled : (z : K) (C : Stripe c) (a i : ℕ) → weight c (scaled c z C) a i ≡ z ⊗ weight c C a i
  unfolding weight
  weight_scaled z C a i = weighed-scaled (side s a i) z _ _

  -- an equation depends on the symbols of its row and of the mates alone
  pub equation_ext : (C D : Stripe c) (a t : ℕ)
      → ((i : ℕ) → i < nodes c → C i a ≡ D i a)
      → ((i : ℕ) → i < nodes c → C (mate_node s a i) (mate_row s a i) ≡ D (mate_node s a i) (mate_row s a i))
      → equation c C a t ≡ equation c D a t
  unfolding equation
  equation_ext C D a t own other = moment_ext F (nodes c) point _ _ t (λ i l. weight_ext C D a i (own i l) (other i l))

  pub equation-add : (C D : Stripe c) (a t : ℕ) → equation c (plus c C D) a t ≡ equation c C a t ⊕ equation c D a t
  unfolding equation
  equation-add C D a t = moment_ext F (nodes c) point _ _ t (λ i l. weight-add C D a i) ∙ moment-add F (nodes c) point (weight c C a) (weight c D a) t

  pub equation-scaled : (z : K) (C : Stripe c) (a t : ℕ) → equation c (scaled c z C) a t ≡ z ⊗ equation c C a t
  unfolding equation
  equation-scaled z C a t = moment_ext F (nodes c) point _ _ t (λ i l. weight_scaled z C a i) ∙ moment_scale F (nodes c) point z (weight c C a) t

  pub meets-add : (k : ℕ) (C D : Stripe c) (a : ℕ) → MeetsRow c k C a → MeetsRow c k D a → MeetsRow c k (plus c C D) a
  meets-add k C D a g h t l = equation-add C D a t ∙ simp (g t l, h t l, ring)

  pub meets-scaled : (k : ℕ) (z : K) (C : Stripe c) (a : ℕ) → MeetsRow c k C a → MeetsRow c k (scaled c z C) a
  meets-scaled k z C a g t l = equation-scaled z C a t ∙ simp (g t l, ring)

  pub whole-add : (r : ℕ) (C D : Stripe c) → Whole c r C → Whole c r D → Whole c r (plus c C D)
  whole-add r C D g h a l = meets-add r C D a (g a l) (h a l)

  pub whole_scaled : (r : ℕ) (z : K) (C : Stripe c) → Whole c r C → Whole c r (scaled c z C)
  whole_scaled r z C g a l = meets-scaled r z C a (g a l)

  -- filling is linear: the sum of two fillings is a filling of the sum, and so with a multiple, by 0 too
  pub fills-add : (r : ℕ) (L : ℕ → Bool) (C D C' D' : Stripe c) → Fills c r L C D → Fills c r L C' D' → Fills c r L (plus c C C') (plus c D D')
  fills-add r L C D C' D' g h = record {
    whole = whole-add r D D' g.whole h.whole;
    kept = λ i a n l o. ap₂ ◌⊕◌ (g.kept i a n l o) (h.kept i a n l o);
  }

  pub fills-scaled : (r : ℕ) (L : ℕ → Bool) (z : K) (C D : Stripe c) → Fills c r L C D → Fills c r L (scaled c z C) (scaled c z D)
  fills-scaled r L z C D g = record {
    whole = whole_scaled r z D g.whole;
    kept = λ i a n l o. ap (λ w. z ⊗ w) (g.kept i a n l o);
  }

  shared-add : (o : Ordering) (t i : ℕ) (x y : ℕ → K) (a : ℕ) → shared c o t i (λ b. x b ⊕ y b) a ≡ shared c o t i x a ⊕ shared c o t i y a
  unfolding shared spread
  shared-add Ordering.lt t i x y a = simp ring
  shared-add Ordering.eq t i x y a = moment-add F s _ _ _ t
  shared-add Ordering.gt t i x y a = simp ring

  shared-scaled : (o : Ordering) (t i : ℕ) (z : K) (x : ℕ → K) (a : ℕ) → shared c o t i (λ b. z ⊗ x b) a ≡ z ⊗ shared c o t i x a
  unfolding shared spread
  shared-scaled Ordering.lt t i z x a = simp ring
  shared-scaled Ordering.eq t i z x a = moment_scale F s _ z _ t
  shared-scaled Ordering.gt t i z x a = simp ring

  pub share-add : (t i : ℕ) (x y : ℕ → K) (a : ℕ) → share c t i (λ b. x b ⊕ y b) a ≡ share c t i x a ⊕ share c t i y a
  unfolding share
  share-add t i x y a = shared-add (side s a i) t i x y a

  pub share-scaled : (t i : ℕ) (z : K) (x : ℕ → K) (a : ℕ) → share c t i (λ b. z ⊗ x b) a ≡ z ⊗ share c t i x a
  unfolding share
  share-scaled t i z x a = shared-scaled (side s a i) t i z x a

-- Laws of the mate, to a base s of at least 1. In order: comparing; group, place and digits of the mate; the mate of the mate; bounds; place and digit
-- change sides at the mate; a node at its row's digit is its own mate.
use mathlib.Core.Path.{◌≡◌, refl, sym, ap, ◌∙◌, subst}
use Prim.Native.Nat.compare
use Prim.Native.Nat.{ℕ, zero, suc, ◌*◌, ◌^◌, ◌<◌, zero-le, suc-le-suc, compare, Ordering}
use native.Mathlib.Omega.{arith}
use Rattle.theory.specs.Digit.{digit, group, place, node}
use Rattle.theory.specs.Weight.{mate_node, mate_row, side}
use Rattle.theory.specs.Pair.{Compared, flipped}
use Rattle.theory.proofs.Digits.{digit_lt, digit-set-same, digit-set-other, set-set, set-digit, set_same, set_lt, group-node, place-node, node-split, place_lt, group_lt, node_lt}

pub compare_says : (x y : ℕ) → Compared (compare x y) x y
compare_says zero zero = refl
compare_says zero (suc y) = rw compare.zero-suc (suc-le-suc zero-le)
compare_says (suc x) zero = rw compare.suc-zero (suc-le-suc zero-le)
compare_says (suc x) (suc y) = rw compare.suc-suc (further (compare x y) (compare_says x y))
  where
    further : (o : Ordering) → Compared o x y → Compared o (suc x) (suc y)
    further Ordering.lt h = suc-le-suc h
    further Ordering.eq h = ap suc h
    further Ordering.gt h = suc-le-suc h

-- and no other answer says something true of them
pub compare_only : (x y : ℕ) (o : Ordering) → Compared o x y → compare x y ≡ o
compare_only x y o h = go (compare x y) o (compare_says x y) h
  where
    go : (o p : Ordering) → Compared o x y → Compared p x y → o ≡ p
    go Ordering.lt Ordering.lt h k = refl
    go Ordering.lt Ordering.eq h k = absurd (omega arith)
    go Ordering.lt Ordering.gt h k = absurd (omega arith)
    go Ordering.eq Ordering.lt h k = absurd (omega arith)
    go Ordering.eq Ordering.eq h k = refl
    go Ordering.eq Ordering.gt h k = absurd (omega arith)
    go Ordering.gt Ordering.lt h k = absurd (omega arith)
    go Ordering.gt Ordering.eq h k = absurd (omega arith)
    go Ordering.gt Ordering.gt h k = refl

pub compare→compared : (x y : ℕ) {o : Ordering} → compare x y ≡ o → Compared o x y
compare→compared x y e = subst (λ (o : Ordering). Compared o x y) e (compare_says x y)

pub compare_flip : (x y : ℕ) → compare y x ≡ flipped (compare x y)
compare_flip x y = compare_only y x (flipped (compare x y)) (turned (compare x y) (compare_says x y))
  where
    turned : (o : Ordering) → Compared o x y → Compared (flipped o) y x
    turned Ordering.lt h = h
    turned Ordering.eq h = sym h
    turned Ordering.gt h = h

pub flipped-flipped : (o : Ordering) → flipped (flipped o) ≡ o
flipped-flipped Ordering.lt = refl
flipped-flipped Ordering.eq = refl
flipped-flipped Ordering.gt = refl

-- seen from the other side a node off the row's digit is off it too
pub flipped-off : (o : Ordering) → (o ≡ Ordering.eq → ⊥) → flipped o ≡ Ordering.eq → ⊥
flipped-off o ne e = ne (sym (flipped-flipped o) ∙ ap flipped e)

pub on_digit : (o : Ordering) → Dec (o ≡ Ordering.eq)
on_digit Ordering.lt = no (λ e. let z : ◌≡◌ {A = ℕ} 0 1 = cc in omega arith)
on_digit Ordering.eq = yes refl
on_digit Ordering.gt = no (λ e. let z : ◌≡◌ {A = ℕ} 0 1 = cc in omega arith)

module _ (s : ℕ) (some : 0 < s) where
  pub mate_group : (a i : ℕ) → group s (mate_node s a i) ≡ group s i
  unfolding mate_node
  mate_group a i = group-node s (group s i) (digit s a (group s i)) (digit_lt s some a (group s i))

  pub mate_place : (a i : ℕ) → place s (mate_node s a i) ≡ digit s a (group s i)
  unfolding mate_node
  mate_place a i = place-node s (group s i) (digit s a (group s i)) (digit_lt s some a (group s i))

  pub mate_digit : (a i : ℕ) → digit s (mate_row s a i) (group s i) ≡ place s i
  unfolding mate_row
  mate_digit a i = digit-set-same s some a (group s i) (place s i) (place_lt s some i)

  pub mate_other : (a i v : ℕ) → (v ≡ group s i → ⊥) → digit s (mate_row s a i) v ≡ digit s a v
  unfolding mate_row
  mate_other a i v ne = digit-set-other s some a (group s i) v (place s i) (place_lt s some i) (λ e. ne (sym e))

  pub mate_mate_node : (a i : ℕ) → mate_node s (mate_row s a i) (mate_node s a i) ≡ i
  unfolding mate_node
  mate_mate_node a i = ap (λ (v : ℕ). node s v (digit s (mate_row s a i) v)) (mate_group a i) ∙ simp (mate_digit, node-split)

  pub mate_mate_row : (a i : ℕ) → mate_row s (mate_row s a i) (mate_node s a i) ≡ a
  unfolding mate_row
  mate_mate_row a i = simp (mate_group, mate_place, set-set s some a (group s i) (place s i) (digit s a (group s i)) (place_lt s some i), set-digit s some)

  pub mate_node_lt : (m a i : ℕ) → i < m * s → mate_node s a i < m * s
  unfolding mate_node
  mate_node_lt m a i h = node_lt s m (group s i) (digit s a (group s i)) (group_lt s some m i h) (digit_lt s some a (group s i))

  pub mate_row_lt : (m a i : ℕ) → i < m * s → a < s ^ m → mate_row s a i < s ^ m
  unfolding mate_row
  mate_row_lt m a i h k = set_lt s some m a (group s i) (place s i) (group_lt s some m i h) (place_lt s some i) k

  pub mate_flips : (a i : ℕ) → side s (mate_row s a i) (mate_node s a i) ≡ flipped (side s a i)
  unfolding side
  mate_flips a i = simp (mate_place, mate_group, mate_digit) (compare_flip (place s i) (digit s a (group s i)))

  pub mate_off : (a i : ℕ) → (side s a i ≡ Ordering.eq → ⊥) → side s (mate_row s a i) (mate_node s a i) ≡ Ordering.eq → ⊥
  mate_off a i ne e = flipped-off (side s a i) ne (sym (mate_flips a i) ∙ e)

  -- the node stands at its row's digit
  pub side-own : (a i : ℕ) → side s a i ≡ Ordering.eq → place s i ≡ digit s a (group s i)
  unfolding side
  side-own a i e = compare→compared (place s i) (digit s a (group s i)) e

  pub own-side : (a i : ℕ) → place s i ≡ digit s a (group s i) → side s a i ≡ Ordering.eq
  unfolding side
  own-side a i e = compare_only (place s i) (digit s a (group s i)) Ordering.eq e

  pub mate_own : (a i : ℕ) → side s a i ≡ Ordering.eq → (mate_node s a i ≡ i) × (mate_row s a i ≡ a)
  unfolding mate_node mate_row
  mate_own a i e =
      let own : place s i ≡ digit s a (group s i) = side-own a i e in
      (rw (← own) (node-split s i), set_same s some a (group s i) (place s i) (sym own))

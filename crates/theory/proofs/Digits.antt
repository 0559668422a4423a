-- Laws of digits and of nodes, to a base s of at least 1. In order: clauses; the digits of a row with one digit set; setting twice, to what it is;
-- the bound kept; digits settle the row; closed forms; nodes by group and place.
use mathlib.Core.Path.{◌≡◌, refl, sym, ap, ap₂, ◌∙◌}
use Prim.Native.Nat.{ℕ, zero, suc, ◌+◌, ◌*◌, ◌/◌, ◌%◌, ◌^◌, ◌<◌}
use native.Mathlib.Nat.{mod-lt, div-add-mod', div-lt_iff_lt-mul, div-div-eq-div-mul, pow-zero, pow-suc, pow-succ', one-le-pow, mod-one, div-one, mul-one, one-mul, add-zero, mul_comm}
use native.Mathlib.Omega.{arith}
use lib.Arith.{digits_lt, digits_div, digits_mod, mod-mul, lt-one}
use Rattle.theory.specs.Digit.{digit, with_digit, group, place, node}

module _ (s : ℕ) where
  pub digit-zero : (a : ℕ) → digit s a 0 ≡ a % s
  unfolding digit
  digit-zero a = refl

  pub digit-suc : (a v : ℕ) → digit s a (suc v) ≡ digit s (a / s) v
  unfolding digit
  digit-suc a v = refl

  pub set-zero : (a u : ℕ) → with_digit s a 0 u ≡ a / s * s + u
  unfolding with_digit
  set-zero a u = refl

  pub set-suc : (a v u : ℕ) → with_digit s a (suc v) u ≡ with_digit s (a / s) v u * s + a % s
  unfolding with_digit
  set-suc a v u = refl

module _ (s : ℕ) (some : 0 < s) where
  pub digit_lt : (a v : ℕ) → digit s a v < s
  digit_lt a zero = simp digit-zero (mod-lt a some)
  digit_lt a (suc v) = simp digit-suc (digit_lt (a / s) v)

  -- what is above and below the lowest digit of a row with digit v + 1 set
  set-above : (a v u : ℕ) → with_digit s a (suc v) u / s ≡ with_digit s (a / s) v u
  set-above a v u = simp set-suc (digits_div (with_digit s (a / s) v u) (mod-lt a some))

  set-lowest : (a v u : ℕ) → with_digit s a (suc v) u % s ≡ a % s
  set-lowest a v u = simp set-suc (digits_mod (with_digit s (a / s) v u) (mod-lt a some))

  pub digit-set-same : (a v u : ℕ) → u < s → digit s (with_digit s a v u) v ≡ u
  digit-set-same a zero u h = simp (digit-zero, set-zero) (digits_mod (a / s) h)
  digit-set-same a (suc v) u h = simp (digit-suc, set-above) (digit-set-same (a / s) v u h)

  pub digit-set-other : (a v w u : ℕ) → u < s → (v ≡ w → ⊥) → digit s (with_digit s a v u) w ≡ digit s a w
  digit-set-other a zero zero u h ne = absurd (ne refl)
  digit-set-other a zero (suc w) u h ne = simp (digit-suc, set-zero, digits_div (a / s) h)
  digit-set-other a (suc v) zero u h ne = simp (digit-zero, set-lowest)
  digit-set-other a (suc v) (suc w) u h ne = simp (digit-suc, set-above) (digit-set-other (a / s) v w u h (λ e. ne (ap suc e)))

  set_both : (a v w x y : ℕ) → with_digit s (with_digit s a (suc v) x) (suc w) y ≡ with_digit s (with_digit s (a / s) v x) w y * s + a % s
  set_both a v w x y = set-suc s (with_digit s a (suc v) x) w y ∙ simp (set-above, set-lowest)

  pub set-set : (a v x u : ℕ) → x < s → with_digit s (with_digit s a v x) v u ≡ with_digit s a v u
  set-set a zero x u h = simp (set-zero, digits_div (a / s) h)
  set-set a (suc v) x u h = rw (set_both, set-set (a / s) v x u h, set-suc)

  pub set-digit : (a v : ℕ) → with_digit s a v (digit s a v) ≡ a
  set-digit a zero = simp (set-zero, digit-zero) (div-add-mod' a s)
  set-digit a (suc v) = simp (set-suc, digit-suc, set-digit (a / s) v) (div-add-mod' a s)

  pub set_same : (a v u : ℕ) → digit s a v ≡ u → with_digit s a v u ≡ a
  set_same a v u e = rw (← e) (set-digit a v)

  shorter : (m a : ℕ) → a < s ^ suc m → a / s < s ^ m
  shorter m a h = (div-lt_iff_lt-mul some).1 (rw pow-suc at h)

  pub set_lt : (m a v u : ℕ) → v < m → u < s → a < s ^ m → with_digit s a v u < s ^ m
  set_lt zero a v u h k l = absurd (omega arith)
  set_lt (suc m) a zero u h k l = rw (set-zero, pow-suc) (digits_lt (shorter m a l) k)
  set_lt (suc m) a (suc v) u h k l = rw (set-suc, pow-suc) (digits_lt (set_lt m (a / s) v u (omega arith) k (shorter m a l)) (mod-lt a some))

  pub digits-equal : (m a b : ℕ) → a < s ^ m → b < s ^ m → ((v : ℕ) → v < m → digit s a v ≡ digit s b v) → a ≡ b
  digits-equal zero a b h k e = lt-one (rw pow-zero at h) ∙ sym (lt-one (rw pow-zero at k))
  digits-equal (suc m) a b h k e =
      sym (div-add-mod' a s)
      ∙ ap₂ (λ (q d : ℕ). q * s + d)
      (digits-equal m (a / s) (b / s) (shorter m a h) (shorter m b k) (λ v l. simp digit-suc at (e (suc v) (omega arith))))
      (simp digit-zero at (e 0 (omega arith)))
      ∙ div-add-mod' b s

  pub digit_closed : (a v : ℕ) → digit s a v ≡ a / s ^ v % s
  digit_closed a zero = simp (digit-zero, pow-zero, div-one)
  digit_closed a (suc v) = simp (digit-suc, digit_closed (a / s) v, div-div-eq-div-mul, pow-succ')

  -- for every u, a digit or not
  pub set_closed : (a v u : ℕ) → with_digit s a v u ≡ a / (s ^ v * s) * (s ^ v * s) + u * s ^ v + a % s ^ v
  set_closed a zero u = simp (set-zero, pow-zero, one-mul, mul-one, mod-one, add-zero)
  set_closed a (suc v) u = simp (set-suc, set_closed (a / s) v u, pow-suc, mod-mul a (one-le-pow v s some) some, div-div-eq-div-mul, mul_comm s (s ^ v * s)) (omega arith)

  pub place_lt : (i : ℕ) → place s i < s
  unfolding place
  place_lt i = mod-lt i some

  pub group_lt : (m i : ℕ) → i < m * s → group s i < m
  unfolding group
  group_lt m i h = (div-lt_iff_lt-mul some).1 h

module _ (s : ℕ) where
  pub group-node : (v u : ℕ) → u < s → group s (node s v u) ≡ v
  unfolding group node
  group-node v u h = digits_div v h

  pub place-node : (v u : ℕ) → u < s → place s (node s v u) ≡ u
  unfolding place node
  place-node v u h = digits_mod v h

  pub node-split : (i : ℕ) → node s (group s i) (place s i) ≡ i
  unfolding group place node
  node-split i = div-add-mod' i s

  pub node_lt : (m v u : ℕ) → v < m → u < s → node s v u < m * s
  unfolding node
  node_lt m v u h k = digits_lt h k

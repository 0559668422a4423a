-- The rows read to rebuild a node, in closed form. In order: rows by one digit, where a 1 as that digit counts w and the digit has s values: how many
-- with the digit u are below a row, and which is the j-th of them; a list read through `map`; sizes of an accepted shape; the rows read and the
-- fractions of an accepted shape.
--   marked s w u a == the digit of row a is u
--   blocks sh f    == how many values the digits above that of node f's group have together
use mathlib.Core.Path.{◌≡◌, refl, sym, ap, ap₂, ◌∙◌}
use mathlib.Core.Bool.{Bool, true, false}
use mathlib.Core.List.{List, [], ◌∷◌, map}
use Prim.Native.Nat.{ℕ, zero, suc, ◌+◌, ◌-◌, ◌*◌, ◌/◌, ◌%◌, ◌^◌, ◌<◌, ◌≤◌}
use native.Mathlib.Nat.{mod-lt, mod-eq_of_lt, div-add-mod', div-lt_iff_lt-mul, mul-div_cancel, mul-mod_left, mul-add-div_right}
use native.Mathlib.Nat.{add-mul-div_right, add-mul-mod_self_right, one-le-pow, pow-suc, pow-le-pow_right}
use native.Mathlib.Nat.{add-zero, zero-add, zero-mul, add-mul, suc-mul, mul_comm, mul_assoc, add-sub_of_le, not-suc-le-zero, le_of_suc-le-suc}
use native.Mathlib.Omega.{arith}
use lib.Arith.{digits_lt, digits_div, mod-mul}
use lib.Dec.{eqb}
use lib.ListN.{length, get_or, length-map}
use lib.Pow.{pow-add}
use borrow.Author.Tests.{eq-eqb, ne_eqb, eqb-true}
use Rattle.theory.specs.Set.{count}
use Rattle.theory.proofs.Counts.{count-zero, count_none, count-all, count_ext, count-split}
use Rattle.rules.specs.declared.shapes.Shape.{Shape}
use Rattle.rules.specs.Rising.{rising}
use Rattle.rules.specs.Shape.{group_size, groups, rows, group, place, worth, digit}
use Rattle.rules.specs.Fraction.{is_read, rows_read, fraction_length, fraction}
use Rattle.rules.proofs.Accepted.{Bounds, size-some, nodes-least}
use Rattle.rules.proofs.Risings.{length-rising, get_or_rising}

abbrev pub marked : ℕ → ℕ → ℕ → ℕ → Bool
marked s w u a = eqb (a / w % s) u

module _ (s w u : ℕ) (some : 0 < w) (small : u < s) where
  marked-period : (q i : ℕ) → marked s w u (q * (w * s) + i) ≡ marked s w u i
  marked-period q i =
      ap (marked s w u) (omega arith)
      ∙ ap (λ x. eqb (x % s) u) (add-mul-div_right i (q * s) some)
      ∙ ap (λ x. eqb x u) (add-mul-mod_self_right (i / w) q s)

  marked-below : (i : ℕ) → i < u * w → marked s w u i ≡ false
  marked-below i h = ne_eqb (i / w % s) u (go ((div-lt_iff_lt-mul some).1 h))
    where
      go : i / w < u → i / w % s ≡ u → ⊥
      go l e = absurd (omega (arith, mod-eq_of_lt {n = i / w} {m = s} (omega arith)))

  marked_block : (i : ℕ) → i < w → marked s w u (u * w + i) ≡ true
  marked_block i h = eq-eqb ((u * w + i) / w % s) u (ap (λ x. x % s) (digits_div u h) ∙ mod-eq_of_lt small)

  marked-above : (i : ℕ) → i < (s - suc u) * w → marked s w u (suc u * w + i) ≡ false
  marked-above i h = ne_eqb ((suc u * w + i) / w % s) u (go ((div-lt_iff_lt-mul some).1 h) (mul-add-div_right some (suc u) i))
    where
      go : i / w < s - suc u → (suc u * w + i) / w ≡ suc u + i / w → (suc u * w + i) / w % s ≡ u → ⊥
      go l q e = absurd (omega (arith, mod-eq_of_lt {n = (suc u * w + i) / w} {m = s} (omega arith)))

  -- as far as place e among the rows with digit u of one period
  count_block : (e : ℕ) → e ≤ w → count (u * w + e) (marked s w u) ≡ e
  count_block e h =
      count-split (u * w) e (marked s w u)
      ∙ ap₂ ◌+◌ (count_none (u * w) (marked s w u) marked-below)
      (count-all e (λ i. marked s w u (u * w + i)) (λ i l. marked_block i (omega arith)))
      ∙ zero-add e

  -- a period is the rows with a smaller digit, with digit u, and with a greater one
  values : w * s ≡ suc u * w + (s - suc u) * w
  values = ap (λ x. w * x) (sym (add-sub_of_le small)) ∙ mul_comm w (suc u + (s - suc u)) ∙ add-mul (suc u) (s - suc u) w

  count-values : count (w * s) (marked s w u) ≡ w
  count-values =
      ap (λ n. count n (marked s w u)) values
      ∙ count-split (suc u * w) ((s - suc u) * w) (marked s w u)
      ∙ ap₂ ◌+◌ (ap (λ n. count n (marked s w u)) (suc-mul u w) ∙ count_block w (omega arith))
      (count_none ((s - suc u) * w) (λ i. marked s w u (suc u * w + i)) marked-above)
      ∙ add-zero w

  count-later : (q n : ℕ) → count (q * (w * s) + n) (marked s w u) ≡ count (q * (w * s)) (marked s w u) + count n (marked s w u)
  count-later q n =
      count-split (q * (w * s)) n (marked s w u)
      ∙ ap (λ k. count (q * (w * s)) (marked s w u) + k) (count_ext n (λ i. marked s w u (q * (w * s) + i)) (marked s w u) (λ i l. marked-period q i))

  count-period : (q : ℕ) → count (q * (w * s)) (marked s w u) ≡ q * w
  count-period zero = simp (zero-mul, count-zero)
  count-period (suc q) =
      ap (λ n. count n (marked s w u)) (suc-mul q (w * s)) ∙ count-later q (w * s) ∙ ap₂ ◌+◌ (count-period q) count-values ∙ sym (suc-mul q w)

  -- whole periods, then the place in one
  count-place : (q e : ℕ) → e ≤ w → count (q * (w * s) + (u * w + e)) (marked s w u) ≡ q * w + e
  count-place q e h = count-later q (u * w + e) ∙ ap₂ ◌+◌ (count-period q) (count_block e h)

  -- a row by the digits above, the digit u and the digits below
  marked-split : (a : ℕ) → marked s w u a ≡ true → a ≡ a / (w * s) * (w * s) + (u * w + a % w)
  marked-split a e =
      sym (div-add-mod' a (w * s))
      ∙ ap (λ x. a / (w * s) * (w * s) + x)
      (ap (λ n. a % n) (mul_comm w s) ∙ mod-mul a (omega arith) some ∙ ap (λ d. d * w + a % w) (eqb-true (a / w % s) u e))

  pub count-marked : (a : ℕ) → marked s w u a ≡ true → count a (marked s w u) ≡ a / (w * s) * w + a % w
  count-marked a e = ap (λ n. count n (marked s w u)) (marked-split a e) ∙ count-place (a / (w * s)) (a % w) (omega (arith, mod-lt a some))

  pub length_marked : (h : ℕ) → length (rising (h * (w * s)) (marked s w u)) ≡ h * w
  length_marked h = length-rising (h * (w * s)) (marked s w u) ∙ count-period h

  -- the j-th of the rows with digit u
  row-marked : (j : ℕ) → marked s w u (j / w * (w * s) + u * w + j % w) ≡ true
  row-marked j = ap (marked s w u) (omega arith) ∙ marked-period (j / w) (u * w + j % w) ∙ marked_block (j % w) (mod-lt j some)

  row_count : (j : ℕ) → count (j / w * (w * s) + u * w + j % w) (marked s w u) ≡ j
  row_count j = ap (λ n. count n (marked s w u)) (omega arith) ∙ count-place (j / w) (j % w) (omega (arith, mod-lt j some)) ∙ div-add-mod' j w

  pub row_lt : (h j : ℕ) → j < h * w → j / w * (w * s) + u * w + j % w < h * (w * s)
  row_lt h j l =
      omega
      (arith, digits_lt {q = j / w} {m = h} {r = u * w + j % w} {c = w * s} ((div-lt_iff_lt-mul some).1 l) (omega (arith, digits_lt small (mod-lt j some))))

  pub get_or_marked : (h j : ℕ) → j < h * w → get_or (rising (h * (w * s)) (marked s w u)) j 0 ≡ j / w * (w * s) + u * w + j % w
  get_or_marked h j l =
      ap (λ k. get_or (rising (h * (w * s)) (marked s w u)) k 0) (sym (row_count j))
      ∙ get_or_rising (h * (w * s)) (marked s w u) (j / w * (w * s) + u * w + j % w) (row_lt h j l) (row-marked j)

abbrev blocks : Shape → ℕ → ℕ
blocks sh f = group_size sh ^ (groups sh - group sh f)

-- neither default is read
pub get_or-map : (f : ℕ → ℕ) (l : List ℕ) (j d e : ℕ) → j < length l → get_or (map f l) j d ≡ f (get_or l j e)
get_or-map f [] j d e h = absurd (not-suc-le-zero h)
get_or-map f (x ∷ l) zero d e h = refl
get_or-map f (x ∷ l) (suc j) d e h = get_or-map f l j d e (le_of_suc-le-suc h)

pub worth-some : (sh : Shape) → Bounds sh → (v : ℕ) → 0 < worth sh v
unfolding worth
worth-some sh b v = one-le-pow _ (group_size sh) (size-some sh b)

pub worth-most : (sh : Shape) → Bounds sh → (v : ℕ) → v ≤ groups sh → worth sh v ≤ rows sh
unfolding worth rows
worth-most sh b v h = pow-le-pow_right (size-some sh b) (omega (arith, h))

pub place_lt : (sh : Shape) → Bounds sh → (f : ℕ) → place sh f < group_size sh
unfolding place
place_lt sh b f = mod-lt (f - 1) (size-some sh b)

pub group_from_1 : (sh : Shape) (f : ℕ) → 1 ≤ group sh f
unfolding group
group_from_1 sh f = omega arith

-- "group v (1 to m)": of every node, phantoms too
pub group-all-most : (sh : Shape) → Bounds sh → (i : ℕ) → 1 ≤ i → i ≤ groups sh * group_size sh → group sh i ≤ groups sh
unfolding group
group-all-most sh b i h k = omega (arith, (div-lt_iff_lt-mul {x = i - 1} {y = groups sh} (size-some sh b)).1 (omega arith))

pub group-most : (sh : Shape) → Bounds sh → (f : ℕ) → 1 ≤ f → f ≤ sh.n → group sh f ≤ groups sh
group-most sh b f h k = group-all-most sh b f h (omega (arith, k, nodes-least sh b))

module _ (sh : Shape) (b : Bounds sh) (f : ℕ) (first : 1 ≤ f) (last : f ≤ sh.n) where
  -- the digits above that of node f's group, the digits below and that digit
  rows_split : rows sh ≡ blocks sh f * (worth sh (group sh f) * group_size sh)
  unfolding rows worth
  rows_split =
      ap (λ e. group_size sh ^ e) (parts (group_from_1 sh f) (group-most sh b f first last))
      ∙ pow-add (group_size sh) (groups sh - group sh f) (suc (group sh f - 1))
      ∙ ap (λ x. blocks sh f * x) (pow-suc (group_size sh) (group sh f - 1))
    where
      parts : 1 ≤ group sh f → group sh f ≤ groups sh → groups sh ≡ groups sh - group sh f + suc (group sh f - 1)
      parts h k = omega arith

  fraction-split : fraction_length sh ≡ blocks sh f * worth sh (group sh f)
  unfolding fraction_length
  fraction-split =
      ap (λ n. n / group_size sh) (rows_split ∙ sym (mul_assoc (blocks sh f) (worth sh (group sh f)) (group_size sh)))
      ∙ mul-div_cancel (blocks sh f * worth sh (group sh f)) (size-some sh b)

  fractions-make-rows : fraction_length sh * group_size sh ≡ rows sh
  fractions-make-rows = ap (λ n. n * group_size sh) fraction-split ∙ mul_assoc (blocks sh f) (worth sh (group sh f)) (group_size sh) ∙ sym rows_split

  pub fraction-worth : fraction_length sh % worth sh (group sh f) ≡ 0
  fraction-worth = rw fraction-split (mul-mod_left (blocks sh f) (worth sh (group sh f)))

  rows-read-marked :
      rows_read sh f
      ≡ rising (blocks sh f * (worth sh (group sh f) * group_size sh))
      (marked (group_size sh) (worth sh (group sh f)) (place sh f))
  unfolding rows_read is_read digit
  rows-read-marked = ap (λ n. rising n (marked (group_size sh) (worth sh (group sh f)) (place sh f))) rows_split

  pub rows-read-length : length (rows_read sh f) ≡ fraction_length sh
  rows-read-length =
      ap length rows-read-marked
      ∙ length_marked (group_size sh) (worth sh (group sh f)) (place sh f) (worth-some sh b (group sh f)) (place_lt sh b f) (blocks sh f)
      ∙ sym fraction-split

  pub rows-read-at : (j : ℕ) → j < fraction_length sh
      → get_or (rows_read sh f) j 0
      ≡ j / worth sh (group sh f) * (worth sh (group sh f) * group_size sh) + place sh f * worth sh (group sh f) + j % worth sh (group sh f)
  rows-read-at j h =
      ap (λ (l : List ℕ). get_or l j 0) rows-read-marked
      ∙ get_or_marked (group_size sh) (worth sh (group sh f)) (place sh f) (worth-some sh b (group sh f)) (place_lt sh b f) (blocks sh f) j
      (rw fraction-split at h)

  pub fraction-length : (col : List ℕ) → length (fraction sh f col) ≡ fraction_length sh
  unfolding fraction
  fraction-length col = length-map (rows_read sh f) (λ a. get_or col a 0) ∙ rows-read-length

  pub fraction-at : (col : List ℕ) (j : ℕ) → j < fraction_length sh
      → get_or (fraction sh f col) j 0
      ≡ get_or col (j / worth sh (group sh f) * (worth sh (group sh f) * group_size sh) + place sh f * worth sh (group sh f) + j % worth sh (group sh f)) 0
  unfolding fraction
  fraction-at col j h = get_or-map (λ a. get_or col a 0) (rows_read sh f) j 0 0 (omega (arith, rows-read-length)) ∙ ap (λ a. get_or col a 0) (rows-read-at j h)

-- by the group of node 1, as of any other
pub fraction-times : (sh : Shape) → Bounds sh → fraction_length sh * group_size sh ≡ rows sh
fraction-times sh b = fractions-make-rows sh b 1 (omega arith) (omega (arith, b.n-least))

-- the place of a row read within a fraction
pub position_read : (sh : Shape) → Bounds sh → (f a : ℕ) → is_read sh f a ≡ true
    → length (rising a (is_read sh f)) ≡ a / (worth sh (group sh f) * group_size sh) * worth sh (group sh f) + a % worth sh (group sh f)
unfolding is_read digit
position_read sh b f a e =
    length-rising a (is_read sh f)
    ∙ count-marked (group_size sh) (worth sh (group sh f)) (place sh f) (worth-some sh b (group sh f)) (place_lt sh b f) a e

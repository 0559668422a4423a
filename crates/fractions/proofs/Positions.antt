-- The rows read, by their positions in rising order: `row_at s w u j` is the j-th row with the digit u where a 1 counts w. In order: a number with one
-- digit set; the digit and the position of such a row; its digits below and above that one, which are digits of its position; the same of an accepted
-- shape; the rows read for a node.
--   with_part s w a u == the number a with the digit that counts w set to u
--   worth_left sh v g == what a 1 as group g's digit counts in the position of a row read for a node of group v
--   row_of sh f j     == the j-th row read for node f
use mathlib.Core.Path.{◌≡◌, refl, sym, ap, ap₂, ◌∙◌}
use mathlib.Core.Bool.{Bool, true, false, cond}
use Prim.Native.Nat.{ℕ, suc, ◌+◌, ◌-◌, ◌*◌, ◌/◌, ◌%◌, ◌^◌, ◌<◌, ◌≤◌}
use mathlib.Core.Logic.{◌⊎◌, inl, inr}
use native.Mathlib.Nat.{mod-lt, mod-eq_of_lt, div-add-mod', div-lt_iff_lt-mul, div-div-eq-div-mul, mul-mod_right, mul-div_cancel, one-le-pow, pow-suc}
use native.Mathlib.Nat.{add-mul-div_right, add-mul-mod_self_right, one-le-mul}
use native.Mathlib.Omega.{arith}
use lib.Arith.{digits_lt, digits_div, digits_mod}
use lib.Dec.{ltb}
use lib.ListN.{length, get_or}
use lib.Pow.{pow-add}
use borrow.Author.Tests.{eq-eqb, lt-ltb, le-ltb, ltb-true, ltb-false}
use Rattle.rules.specs.declared.shapes.Shape.{Shape}
use Rattle.rules.specs.Rising.{rising}
use Rattle.rules.specs.Shape.{group_size, groups, rows, group, place, worth, digit, with_digit}
use Rattle.rules.specs.Fraction.{is_read, rows_read, fraction_length}
use Rattle.rules.proofs.Accepted.{Bounds, size-some}
use Rattle.rules.proofs.RowsRead.{worth-some, place_lt, group_from_1, group-most, rows-read-at, position_read}
use Rattle.rules.proofs.Ties.{digit-off}
use Rattle.columns.proofs.Carrying.{digit-most}
use Rattle.yebarg.specs.Kernel.{row_at}
use Rattle.fractions.specs.Kernel.{left_out}

pub lt_or_gt : (g v : ℕ) → (g ≡ v → ⊥) → (g < v) ⊎ (v < g)
lt_or_gt g v ne = go (ltb g v) refl
  where
    go : (c : Bool) → ltb g v ≡ c → (g < v) ⊎ (v < g)
    go true e = inl (ltb-true g v e)
    go false e = inr (omega (arith, ltb-false g v e, ne))

abbrev pub with_part : ℕ → ℕ → ℕ → ℕ → ℕ
with_part s w a u = a - a / w % s * w + u * w

module _ (s w : ℕ) (some : 0 < s) (counts : 0 < w) where
  -- whole periods make no difference to the digit
  digit-period : (q a : ℕ) → (q * (w * s) + a) / w % s ≡ a / w % s
  digit-period q a =
      ap (λ x. x / w % s) (omega arith) ∙ ap (λ x. x % s) (add-mul-div_right a (q * s) counts) ∙ add-mul-mod_self_right (a / w) q s

  -- with the digit set, the number stays below what is whole periods
  pub set-within : (n a u : ℕ) → n % (w * s) ≡ 0 → u < s → a < n → with_part s w a u < n
  set-within n a u whole small h =
      rw (digit-off a w s)
      (omega (
        arith,
        whole_is,
        digits_lt {q = a / (w * s)} {m = n / (w * s)} {r = u * w + a % w} {c = w * s}
            ((div-lt_iff_lt-mul {k = w * s} {x = a} {y = n / (w * s)} (one-le-mul counts some)).1 (omega (arith, h, whole_is)))
            (omega (arith, digits_lt small (mod-lt a counts))),
      ))
    where
      whole_is : n / (w * s) * (w * s) ≡ n
      whole_is = omega (arith, div-add-mod' n (w * s), whole)

module _ (s w u : ℕ) (some : 0 < s) (counts : 0 < w) (small : u < s) where
  -- a row by its digits above, the digit and its digits below
  row_of_lem : (q e : ℕ) → e < w → row_at s w u (q * w + e) ≡ q * (w * s) + u * w + e
  unfolding row_at
  row_of_lem q e h = ap₂ (λ x y. x * (w * s) + u * w + y) (digits_div q h) (digits_mod q h)

  row-split : (j : ℕ) → row_at s w u j ≡ j / w * (w * s) + (u * w + j % w)
  unfolding row_at
  row-split j = omega arith

  within : (j : ℕ) → u * w + j % w < w * s
  within j = omega (arith, digits_lt small (mod-lt j counts))

  pub row-digit : (j : ℕ) → row_at s w u j / w % s ≡ u
  row-digit j =
      ap (λ a. a / w % s) (row-split j)
      ∙ digit-period s w some counts (j / w) (u * w + j % w)
      ∙ ap (λ q. q % s) (digits_div u (mod-lt j counts))
      ∙ mod-eq_of_lt small

  row-above : (j : ℕ) → row_at s w u j / (w * s) ≡ j / w
  row-above j = ap (λ a. a / (w * s)) (row-split j) ∙ digits_div (j / w) (within j)

  row_below : (j : ℕ) → row_at s w u j % w ≡ j % w
  row_below j = ap (λ a. a % w) (row-split j ∙ omega arith) ∙ digits_mod (j / w * s + u) (mod-lt j counts)

  -- how many such rows come before
  pub row_position : (j : ℕ) → row_at s w u j / (w * s) * w + row_at s w u j % w ≡ j
  row_position j = ap₂ (λ q e. q * w + e) (row-above j) (row_below j) ∙ div-add-mod' j w

  -- a row with this digit set to another place: the row at the same position with that digit
  pub row-set-own : (j x : ℕ) → with_part s w (row_at s w u j) x ≡ row_at s w x j
  unfolding row_at
  row-set-own j x = rw (digit-off (row_at s w u j) w s, row-above j, row_below j) (omega arith)

-- a digit below the one that is set: w counts less
module _ (s w k u : ℕ) (some : 0 < s) (counts : 0 < w) (more : 0 < k) (small : u < s) where
  counts_more : 0 < w * s * k
  counts_more = one-le-mul (one-le-mul counts some) more

  lower : (j : ℕ) → j / w % s ≡ j % (w * s * k) / w % s
  lower j =
      ap (λ a. a / w % s) (sym (div-add-mod' j (w * s * k)) ∙ omega arith)
      ∙ digit-period s w some counts (j / (w * s * k) * k) (j % (w * s * k))

  pub below-digit : (j : ℕ) → row_at s (w * s * k) u j / w % s ≡ j / w % s
  below-digit j =
      ap (λ a. a / w % s) (row-split s (w * s * k) u some counts_more small j ∙ omega arith)
      ∙ digit-period s w some counts (j / (w * s * k) * s * k + u * k) (j % (w * s * k))
      ∙ sym (lower j)

  pub below_set : (j x : ℕ) → x < s → with_part s w (row_at s (w * s * k) u j) x ≡ row_at s (w * s * k) u (with_part s w j x)
  below_set j x hx =
      ap (λ d. row_at s (w * s * k) u j - d * w + x * w) (below-digit j ∙ lower j)
      ∙ ap (λ a. a - e / w % s * w + x * w) (row-split s (w * s * k) u some counts_more small j)
      ∙ omega (arith, digit-most e w s)
      ∙ sym (row_of_lem s (w * s * k) u some counts_more small (j / (w * s * k)) (with_part s w e x) inside)
      ∙ ap (row_at s (w * s * k) u) set
    where
      e : ℕ
      e = j % (w * s * k)

      inside : with_part s w e x < w * s * k
      inside = set-within s w some counts (w * s * k) e x (mul-mod_right (w * s) k) hx (mod-lt j counts_more)

      set : j / (w * s * k) * (w * s * k) + with_part s w e x ≡ with_part s w j x
      set =
          omega (arith, digit-most e w s)
          ∙ ap (λ a. a - e / w % s * w + x * w) (div-add-mod' j (w * s * k))
          ∙ ap (λ d. j - d * w + x * w) (sym (lower j))

-- a digit above it: in a row it counts s times as much as in the position
module _ (s w k u : ℕ) (some : 0 < s) (counts : 0 < w) (small : u < s) where
  pub above-digit : (j : ℕ) → row_at s w u j / (w * s * k) % s ≡ j / (w * k) % s
  above-digit j =
      ap (λ a. a % s)
      (sym (div-div-eq-div-mul (row_at s w u j) (w * s) k) ∙ ap (λ a. a / k) (row-above s w u some counts small j) ∙ div-div-eq-div-mul j w k)

  -- the numbers of the digits above, less those of digit d
  rest-set : (q d x e y : ℕ) → e < w → q ≡ d * k + y
      → q * (w * s) + (u * w + e) - d * (w * s * k) + x * (w * s * k) ≡ row_at s w u (q * w + e - d * (w * k) + x * (w * k))
  rest-set q d x e y he is-q =
      rw is-q
      (omega arith
      ∙ sym (row_of_lem s w u some counts small (y + x * k) e he)
      ∙ ap (row_at s w u) (omega arith))

  pub above-set : (j x : ℕ) → 0 < k → with_part s (w * s * k) (row_at s w u j) x ≡ row_at s w u (with_part s (w * k) j x)
  above-set j x more =
      ap₂ (λ a d. a - d * (w * s * k) + x * (w * s * k)) (row-split s w u some counts small j) (above-digit j)
      ∙ rest-set (j / w) (j / (w * k) % s) x (j % w) (j / w - j / (w * k) % s * k) (mod-lt j counts) (omega (arith, most))
      ∙ ap (λ a. row_at s w u (a - j / (w * k) % s * (w * k) + x * (w * k))) (div-add-mod' j w)
    where
      most : j / (w * k) % s * k ≤ j / w
      most = rw (← div-div-eq-div-mul j w k) (digit-most (j / w) k s)

-- what a digit above another counts
worth-apart : (sh : Shape) (v g : ℕ) → 1 ≤ v → v < g → worth sh g ≡ worth sh v * group_size sh * group_size sh ^ (g - suc v)
unfolding worth
worth-apart sh v g h l =
    ap (λ e. group_size sh ^ e) (parts h l)
    ∙ pow-add (group_size sh) (suc (v - 1)) (g - suc v)
    ∙ ap (λ x. x * group_size sh ^ (g - suc v)) (pow-suc (group_size sh) (v - 1))
  where
    parts : 1 ≤ v → v < g → g - 1 ≡ suc (v - 1) + (g - suc v)
    parts h l = omega arith

-- and the digit below it
worth-less : (sh : Shape) (v g : ℕ) → 1 ≤ v → v < g → worth sh (g - 1) ≡ worth sh v * group_size sh ^ (g - suc v)
unfolding worth
worth-less sh v g h l = ap (λ e. group_size sh ^ e) (parts h l) ∙ pow-add (group_size sh) (v - 1) (g - suc v)
  where
    parts : 1 ≤ v → v < g → g - 1 - 1 ≡ v - 1 + (g - suc v)
    parts h l = omega arith

-- what group g's digit counts among the rows read for a node of group v
abbrev pub worth_left : Shape → ℕ → ℕ → ℕ
worth_left sh v g = worth sh (left_out (g - 1) (v - 1))

left_below : (g v : ℕ) → 1 ≤ g → g < v → left_out (g - 1) (v - 1) ≡ g
unfolding left_out
left_below g v h l = rw (lt-ltb (g - 1) (v - 1) (omega arith)) (omega arith)

left-above : (g v : ℕ) → 1 ≤ v → v < g → left_out (g - 1) (v - 1) ≡ g - 1
unfolding left_out
left-above g v h l = rw (le-ltb (g - 1) (v - 1) (omega arith))

-- a digit is left where the digits are all but one
pub left-out-bounds : (g v m : ℕ) → g < m → v < m → (g ≡ v → ⊥) → (1 ≤ left_out g v) × (left_out g v < m)
unfolding left_out
left-out-bounds g v m hg hv ne = go (lt_or_gt g v ne)
  where
    go : (g < v) ⊎ (v < g) → (1 ≤ cond (ltb g v) (g + 1) g) × (cond (ltb g v) (g + 1) g < m)
    go (inl l) = rw (lt-ltb g v l) (omega arith, omega arith)
    go (inr l) = rw (le-ltb g v (omega (arith, l))) (omega arith, omega arith)

-- the positions go through all digits but one, so that what is left of them makes whole periods
module _ (sh : Shape) (b : Bounds sh) where
  fraction-is : fraction_length sh ≡ worth sh (groups sh)
  unfolding fraction_length rows worth
  fraction-is =
      ap (λ e. group_size sh ^ e / group_size sh) parts
      ∙ ap (λ x. x / group_size sh) (pow-suc (group_size sh) (groups sh - 1))
      ∙ mul-div_cancel (group_size sh ^ (groups sh - 1)) (size-some sh b)
    where
      parts : groups sh ≡ suc (groups sh - 1)
      parts = omega (arith, group_from_1 sh 1, group-most sh b 1 (omega arith) (omega (arith, b.n-least)))

  pub fraction_periods : (d : ℕ) → 1 ≤ d → d < groups sh → fraction_length sh % (worth sh d * group_size sh) ≡ 0
  fraction_periods d h l =
      rw (fraction-is, worth-apart sh d (groups sh) h l) (mul-mod_right (worth sh d * group_size sh) (group_size sh ^ (groups sh - suc d)))

module _ (sh : Shape) (b : Bounds sh) (v u : ℕ) (first : 1 ≤ v) (small : u < group_size sh) where
  power-some : (e : ℕ) → 0 < group_size sh ^ e
  power-some e = one-le-pow e (group_size sh) (size-some sh b)

  -- the digits of other groups
  pub other-digit : (g j : ℕ) → 1 ≤ g → (g ≡ v → ⊥) → digit sh (row_at (group_size sh) (worth sh v) u j) g ≡ j / worth_left sh v g % group_size sh
  unfolding digit
  other-digit g j h ne = go (lt_or_gt g v ne)
    where
      go : (g < v) ⊎ (v < g) → row_at (group_size sh) (worth sh v) u j / worth sh g % group_size sh ≡ j / worth_left sh v g % group_size sh
      go (inl l) =
          rw (left_below g v h l, worth-apart sh g v h l)
          (below-digit (group_size sh) (worth sh g) (group_size sh ^ (v - suc g)) u (size-some sh b) (worth-some sh b g) (power-some (v - suc g)) small j)
      go (inr l) =
          rw (left-above g v first l, worth-less sh v g first l, worth-apart sh v g first l)
          (above-digit (group_size sh) (worth sh v) (group_size sh ^ (g - suc v)) u (size-some sh b) (worth-some sh b v) small j)

  pub other-set : (g j x : ℕ) → 1 ≤ g → (g ≡ v → ⊥) → x < group_size sh
      → with_digit sh (row_at (group_size sh) (worth sh v) u j) g x
      ≡ row_at (group_size sh) (worth sh v) u (with_part (group_size sh) (worth_left sh v g) j x)
  unfolding with_digit digit
  other-set g j x h ne hx = go (lt_or_gt g v ne)
    where
      go : (g < v) ⊎ (v < g)
          → with_part (group_size sh) (worth sh g) (row_at (group_size sh) (worth sh v) u j) x
          ≡ row_at (group_size sh) (worth sh v) u (with_part (group_size sh) (worth_left sh v g) j x)
      go (inl l) =
          rw (left_below g v h l, worth-apart sh g v h l)
          (below_set (group_size sh) (worth sh g) (group_size sh ^ (v - suc g)) u (size-some sh b) (worth-some sh b g) (power-some (v - suc g)) small j x hx)
      go (inr l) =
          rw (left-above g v first l, worth-less sh v g first l, worth-apart sh v g first l)
          (above-set (group_size sh) (worth sh v) (group_size sh ^ (g - suc v)) u (size-some sh b) (worth-some sh b v) small j x (power-some (g - suc v)))

  -- the digit of the group itself
  pub own-set : (j x : ℕ) → with_digit sh (row_at (group_size sh) (worth sh v) u j) v x ≡ row_at (group_size sh) (worth sh v) x j
  unfolding with_digit digit
  own-set j x = row-set-own (group_size sh) (worth sh v) u (size-some sh b) (worth-some sh b v) small j x

-- the j-th row read for node f
abbrev pub row_of : Shape → ℕ → ℕ → ℕ
row_of sh f j = row_at (group_size sh) (worth sh (group sh f)) (place sh f) j

module _ (sh : Shape) (b : Bounds sh) (f : ℕ) where
  pub row-own-digit : (j : ℕ) → digit sh (row_of sh f j) (group sh f) ≡ place sh f
  unfolding digit
  row-own-digit j = row-digit (group_size sh) (worth sh (group sh f)) (place sh f) (size-some sh b) (worth-some sh b (group sh f)) (place_lt sh b f) j

  pub row_read : (j : ℕ) → is_read sh f (row_of sh f j) ≡ true
  unfolding is_read
  row_read j = eq-eqb _ _ (row-own-digit j)

  pub row_before : (j : ℕ) → length (rising (row_of sh f j) (is_read sh f)) ≡ j
  row_before j =
      position_read sh b f (row_of sh f j) (row_read j)
      ∙ row_position (group_size sh) (worth sh (group sh f)) (place sh f) (size-some sh b) (worth-some sh b (group sh f)) (place_lt sh b f) j

  pub read_at : (j : ℕ) → 1 ≤ f → f ≤ sh.n → j < fraction_length sh → get_or (rows_read sh f) j 0 ≡ row_of sh f j
  unfolding row_at
  read_at j first last h = rows-read-at sh b f first last j h

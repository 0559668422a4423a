-- A column from its sums. In order: sizes; the positions of rows; the points of the group; unknowns that are found, put at their rows, are the column; there is
-- one such column.
use mathlib.Core.Path.{◌≡◌, refl, sym, ap, ap₂, ◌∙◌, subst}
use mathlib.Core.List.{List, [], ◌∷◌}
use Prim.Native.Nat.{ℕ, suc, ◌+◌, ◌-◌, ◌*◌, ◌/◌, ◌%◌, ◌<◌, ◌≤◌}
use native.Mathlib.Nat.{div-add-mod', div-div-eq-div-mul, div-lt_iff_lt-mul, mod-lt, one-le-mul, pow-suc, pow-le-pow_right}
use native.Mathlib.Omega.{arith}
use lib.Arith.{digits_lt, digits_div, digits_mod}
use lib.ListN.{length, get_or}
use lib.Seq.{ext_get_or}
use Rattle.field.specs.Number.{mul, power}
use Rattle.rules.specs.declared.shapes.Shape.{Shape}
use Rattle.rules.specs.Shape.{group_size, groups, rows, node, group, place, worth, with_digit}
use Rattle.rules.specs.Point.{point_of}
use Rattle.rules.specs.Stripe.{IsBytes}
use Rattle.rules.specs.Fraction.{rows_read, fraction_length}
use Rattle.rules.proofs.Accepted.{Bounds, size-some, nodes-least, nodes-most}
use Rattle.rules.proofs.House.{point-below, points-distinct}
use Rattle.rules.proofs.RowsRead.{worth-some, place_lt, group_from_1, fraction-worth, fraction-times, row_lt}
use Rattle.rules.proofs.Ties.{sum_same}
use Rattle.rules.proofs.Lengths.{fraction-most, group-within}
use Rattle.yebarg.specs.Kernel.{row_at}
use Rattle.fractions.proofs.Alone.{node-next, group-less}
use Rattle.fractions.proofs.Positions.{row-digit, row_position, own-set, read_at}
use Rattle.columns.proofs.Kernels.{entry-within}
use Rattle.distinct.specs.Promise.{Apart}
use Rattle.distinct.proofs.Indices.{four}
use Rattle.systems.proofs.Settled.{moments_only}
use Rattle.systems.specs.System.{moment}
use Rattle.std.specs.Prelude.{Ok}
use Rattle.solver.specs.Promise.{Solvable, UnknownsAre}
use Rattle.solver.specs.Solve.{Solved, columns_at}
use Rattle.recover.specs.Promise.{spread, RowsSolved}
use Rattle.recover.specs.Kernel.{PointsAre, position_of, Put}

size-most : (sh : Shape) → Bounds sh → group_size sh ≤ 4
unfolding group_size
size-most sh b = b.r-most

pub worth-room : (sh : Shape) → Bounds sh → (v : ℕ) → 1 ≤ v → v ≤ groups sh → worth sh v * group_size sh ≤ rows sh
unfolding worth rows
worth-room sh b v h k = rw (← pow-suc (group_size sh) (v - 1)) (pow-le-pow_right (size-some sh b) (omega (arith, h, k)))

-- the position of a row among those with its digit
pub position_lt : (s w size a : ℕ) → 0 < s → 0 < w → size % w ≡ 0 → a < s * size → position_of s w a < size
position_lt s w size a some counts whole h =
    omega (
      arith,
      whole_is,
      digits_lt {q = a / (w * s)} {m = size / w} {r = a % w} {c = w}
          ((div-lt_iff_lt-mul {k = w * s} {x = a} {y = size / w} (one-le-mul counts some)).1 (omega (arith, h, ap (λ x. x * s) whole_is)))
          (mod-lt a counts),
    )
  where
    whole_is : size / w * w ≡ size
    whole_is = omega (arith, div-add-mod' size w, whole)

module _ (sh : Shape) (b : Bounds sh) (f : ℕ) (first : 1 ≤ f) (last : f ≤ sh.n) where
  -- the nodes of the group, after as many as stand before it
  abbrev nodes_before : ℕ
  nodes_before = (f - 1) / group_size sh * group_size sh

  node-after : (u : ℕ) → suc (nodes_before + u) ≡ node sh (group sh f) u
  node-after u = ap (λ v. suc (v * group_size sh + u)) (sym (group-less sh f)) ∙ node-next sh (group sh f) u

  before-most : (u : ℕ) → u < group_size sh → nodes_before + u < 16
  before-most u hu =
      omega (
        arith,
        hu,
        group-within (f - 1) (groups sh) (group_size sh) (size-some sh b) (omega (arith, first, last, nodes-least sh b)),
        nodes-most sh b,
      )

  -- a row read, with the group's digit set to a place: the row with that digit at the same position
  row-at : (u j : ℕ) → j < fraction_length sh
      → with_digit sh (get_or (rows_read sh f) j 0) (group sh f) u ≡ row_at (group_size sh) (worth sh (group sh f)) u j
  row-at u j hj =
      ap (λ a. with_digit sh a (group sh f) u) (read_at sh b f j first last hj)
      ∙ own-set sh b (group sh f) (place sh f) (group_from_1 sh f) (place_lt sh b f) j u

  row_below : (u j : ℕ) → u < group_size sh → j < fraction_length sh → row_at (group_size sh) (worth sh (group sh f)) u j < rows sh
  unfolding row_at
  row_below u j hu hj =
      omega (
        arith,
        row_lt (group_size sh) (worth sh (group sh f)) u (worth-some sh b (group sh f)) hu (fraction_length sh / worth sh (group sh f)) j (omega (arith, hj, whole)),
        ap (λ x. x * group_size sh) whole,
        fraction-times sh b,
      )
    where
      whole : fraction_length sh / worth sh (group sh f) * worth sh (group sh f) ≡ fraction_length sh
      whole = omega (arith, div-add-mod' (fraction_length sh) (worth sh (group sh f)), fraction-worth sh b f first last)

  -- numbers that are the points of the group differ, and what a column brings is a sum of their powers
  module _ (points : List ℕ) (is : (u : ℕ) → u < group_size sh → get_or points u 0 ≡ point_of sh (node sh (group sh f) u)) where
    group-apart : Apart (group_size sh) points
    group-apart i j hi hj e =
        omega (
          arith,
          points-distinct sh (suc (nodes_before + i)) (suc (nodes_before + j)) (omega arith) (before-most i hi) (omega arith) (before-most j hj)
              (ap (point_of sh) (node-after i) ∙ sym (is i hi) ∙ e ∙ is j hj ∙ ap (point_of sh) (sym (node-after j))),
        )

    spread-moment : (col : List ℕ) (a t : ℕ) → spread sh f col a t ≡ moment (group_size sh) points (λ u. get_or col (with_digit sh a (group sh f) u) 0) t
    unfolding spread moment
    spread-moment col a t =
        sum_same (group_size sh) _ _ (λ u hu. ap (λ p. mul (power p t) (get_or col (with_digit sh a (group sh f) u) 0)) (sym (is u hu)))

  module _ (points : List ℕ) (are : PointsAre sh nodes_before points) where
    point-is : (u : ℕ) → u < group_size sh → get_or points u 0 ≡ point_of sh (node sh (group sh f) u)
    point-is u hu =
        (are.each u (omega (arith, hu, size-most sh b))).inside (omega arith) (omega (arith, before-most u hu))
        ∙ ap (point_of sh) (omega arith)
        ∙ ap (point_of sh) (node-after u)

    pub points-apart : Apart (group_size sh) points
    points-apart = group-apart points point-is

    module _ (sums found before later : List ℕ) (solved : Solved (group_size sh) points (fraction_length sh) sums found)
        (put : Put (group_size sh) (worth sh (group sh f)) (fraction_length sh) found before later) (long : length before ≡ rows sh) where
      found_at : (u j : ℕ) → u < group_size sh → j < fraction_length sh
          → get_or later (with_digit sh (get_or (rows_read sh f) j 0) (group sh f) u) 0 ≡ columns_at (fraction_length sh) found j u
      found_at u j hu hj =
          ap (λ a. get_or later a 0) (row-at u j hj)
          ∙ put.bytes (row_at (group_size sh) (worth sh (group sh f)) u j) (omega (arith, row_below u j hu hj, long))
          ∙ ap₂ (λ d p. get_or found (d * fraction_length sh + p) 0)
          (row-digit (group_size sh) (worth sh (group sh f)) u (size-some sh b) (worth-some sh b (group sh f)) hu j)
          (row_position (group_size sh) (worth sh (group sh f)) u (size-some sh b) (worth-some sh b (group sh f)) hu j)

      pub put-spread : (t j : ℕ) → t < group_size sh → j < fraction_length sh
          → spread sh f later (get_or (rows_read sh f) j 0) t ≡ get_or sums (t * fraction_length sh + j) 0
      unfolding moment
      put-spread t j ht hj =
          spread-moment points point-is later (get_or (rows_read sh f) j 0) t
          ∙ sum_same (group_size sh) _ _ (λ u hu. ap (mul (power (get_or points u 0) t)) (found_at u j hu hj))
          ∙ solved j t hj ht

  -- the points differ, so that there is one solution
  can_solve : (points sums before : List ℕ) → PointsAre sh nodes_before points → length sums ≡ group_size sh * fraction_length sh
      → length before ≡ group_size sh * fraction_length sh
      → Solvable (group_size sh) points (fraction_length sh) sums before
  can_solve points sums before are sums-long room = record {
    few = size-most sh b;
    short = fraction-most sh b;
    sums-exact = sums-long;
    found-exact = room;
    apart = points-apart points are;
  }

  rows-solved : (points sums before found old later : List ℕ) → PointsAre sh nodes_before points
      → UnknownsAre (group_size sh) points (fraction_length sh) sums before (Ok tt) found
      → Put (group_size sh) (worth sh (group sh f)) (fraction_length sh) found old later
      → length old ≡ rows sh
      → RowsSolved sh f sums later
  unfolding group_size
  rows-solved points sums before found old later are unknowns put long = record {
    bytes = record {
      exact = put.same_length ∙ long;
      bytes = λ a h.
          subst (λ x. x < 256) (sym (put.bytes a (omega (arith, h, long))))
          (unknowns.bytes.bytes _
          (entry-within (mod-lt (a / worth sh (group sh f)) (size-some sh b))
          (position_lt (group_size sh) (worth sh (group sh f)) (fraction_length sh) a (size-some sh b) (worth-some sh b (group sh f))
          (fraction-worth sh b f first last) (omega (arith, h, fraction-times sh b)))));
    };
    solved = λ t j ht hj. put-spread points are sums found old later unknowns.solved put long t j ht hj;
  }

  -- the same in the numbers of the code
  module _ (s size : ℕ) (s-is : s ≡ group_size sh) (size-is : size ≡ fraction_length sh) where
    pub solvable : (points sums before : List ℕ) → PointsAre sh ((f - 1) / s * s) points → length sums ≡ s * size → length before ≡ s * size
        → Solvable s points size sums before
    solvable = rw (s-is, size-is) can_solve

    pub solving : (w : ℕ) → w ≡ worth sh (group sh f) → (points sums before found old later : List ℕ) → PointsAre sh ((f - 1) / s * s) points
        → UnknownsAre s points size sums before (Ok tt) found
        → Put s w size found old later
        → length old ≡ rows sh
        → RowsSolved sh f sums later
    solving w w-is = rw (s-is, size-is, w-is) rows-solved

-- a row is the one with its digit at its position
row_back : (s w a : ℕ) → 0 < s → 0 < w → row_at s w (a / w % s) (position_of s w a) ≡ a
unfolding row_at
row_back s w a some counts =
    ap₂ (λ x y. x * (w * s) + a / w % s * w + y) (digits_div (a / (w * s)) (mod-lt a counts)) (digits_mod (a / (w * s)) (mod-lt a counts))
    ∙ omega (arith, div-add-mod' a w, ap (λ x. x * w) (div-add-mod' (a / w) s), ap (λ x. x * s * w) (div-div-eq-div-mul a w s))

-- one column brings these sums
module _ (sh : Shape) (b : Bounds sh) (f : ℕ) (first : 1 ≤ f) (last : f ≤ sh.n) where
  abbrev group_point : ℕ → ℕ
  group_point u = point_of sh (node sh (group sh f) u)

  abbrev group_points : List ℕ
  group_points = group_point 0 ∷ group_point 1 ∷ group_point 2 ∷ group_point 3 ∷ []

  points_are : (u : ℕ) → u < 4 → get_or group_points u 0 ≡ group_point u
  points_are = four (λ u. get_or group_points u 0 ≡ group_point u) refl refl refl refl

  points-bytes : IsBytes 4 group_points
  points-bytes = record { exact = refl; bytes = λ u hu. subst (λ x. x < 256) (sym (points_are u hu)) (point-below sh (node sh (group sh f) u)) }

  pub rows-only : (sums x y : List ℕ) → RowsSolved sh f sums x → RowsSolved sh f sums y → x ≡ y
  unfolding group_size
  rows-only sums x y p q = ext_get_or 0 x y (p.bytes.exact ∙ sym q.bytes.exact) (λ a h. at a (omega (arith, h, p.bytes.exact)))
    where
      is : (u : ℕ) → u < group_size sh → get_or group_points u 0 ≡ group_point u
      is u hu = points_are u (omega (arith, hu, size-most sh b))

      set : ℕ → ℕ → ℕ
      set j u = with_digit sh (get_or (rows_read sh f) j 0) (group sh f) u

      small : (z : List ℕ) → IsBytes (rows sh) z → (j u : ℕ) → u < group_size sh → j < fraction_length sh → get_or z (set j u) 0 < 256
      small z bytes j u hu hj = bytes.bytes (set j u) (omega (arith, row-at sh b f first last u j hj, row_below sh b f first last u j hu hj))

      at : (a : ℕ) → a < rows sh → get_or x a 0 ≡ get_or y a 0
      at a h =
          let s = group_size sh in
          let w = worth sh (group sh f) in
          let u = a / w % s in
          let j = position_of s w a in
          let hu : u < s = mod-lt (a / w) (size-some sh b) in
          let hj : j < fraction_length sh =
          position_lt s w (fraction_length sh) a (size-some sh b) (worth-some sh b (group sh f)) (fraction-worth sh b f first last)
          (omega (arith, h, fraction-times sh b)) in
          let back : set j u ≡ a = row-at sh b f first last u j hj ∙ row_back s w a (size-some sh b) (worth-some sh b (group sh f)) in
          ap (λ k. get_or x k 0) (sym back)
          ∙ moments_only s group_points (λ v. get_or x (set j v) 0) (λ v. get_or y (set j v) 0) (size-most sh b) points-bytes
          (group-apart sh b f first last group_points is)
          (λ v hv. small x p.bytes j v hv hj)
          (λ v hv. small y q.bytes j v hv hj)
          (λ t ht.
          sym (spread-moment sh b f first last group_points is x (get_or (rows_read sh f) j 0) t)
          ∙ p.solved t j ht hj
          ∙ sym (q.solved t j ht hj)
          ∙ spread-moment sh b f first last group_points is y (get_or (rows_read sh f) j 0) t)
          u hu
          ∙ ap (λ k. get_or y k 0) back

-- The loop over the columns of a stripe that are corrected. In order: where the group of node i ends, and its columns;
-- the correction that is taken from the group's columns is that from all columns; one turn with a chosen column, one with another.
--   Room z i == the group is among 16 nodes, and its columns lie among those of all m × s nodes
--   corrected_in sh flags scores level short before i a == the byte to come at row a of column i
-- Assumes nothing.
use mathlib.Core.Path.{◌≡◌, sym, ap, ap₂, ◌∙◌, subst}
use mathlib.Core.Bool.{Bool, true, false, cond}
use mathlib.Core.List.{List}
use Prim.Native.Nat.{ℕ, suc, ◌+◌, ◌-◌, ◌*◌, ◌/◌, ◌%◌, ◌<◌, ◌≤◌, compare}
use native.Mathlib.Nat.{mul-le-mul_right, div-add-mod', div-lt_iff_lt-mul, mod-lt}
use native.Mathlib.Numerals.{add-one}
use native.Mathlib.Omega.{arith}
use lib.Dec.{eqb}
use lib.ListN.{length, get_or, take, drop}
use borrow.Rule.Slice.PartMut.{put_mid}
use Rattle.field.specs.Number.{add}
use Rattle.rules.specs.declared.shapes.Shape.{Shape}
use Rattle.rules.specs.declared.shapes.Sizes.{Sizes}
use Rattle.rules.specs.Shape.{group_size, groups, rows, worth, digit, with_digit}
use Rattle.rules.proofs.Accepted.{Bounds, bounds, size-some, nodes-least}
use Rattle.rules.proofs.Measures.{own-sizes, sizes_of, sizes_are}
use Rattle.rules.proofs.Layouts.{set_below}
use Rattle.rules.proofs.Lengths.{group-within}
use Rattle.columns.proofs.Kernels.{entry-within}
use Rattle.columns.proofs.Parts.{part_length, part-byte}
use Rattle.corrections.specs.Correction.{chosen, correction_by, correction_in}
use Rattle.corrections.specs.Kernel.{correction_at, ColumnCorrected}
use Rattle.columns.proofs.Columns.{ColumnsTo, columns-put, columns_skip}

pub record Room (z : Sizes) (i : ℕ) : Type 0 where
  pub first-most : i / z.s * z.s + z.s ≤ 16
  pub part-within : i / z.s * z.s * z.l + z.s * z.l ≤ z.m * z.s * z.l

group-columns : (i m s l : ℕ) → 0 < s → i < m * s → i / s * s * l + s * l ≤ m * s * l
group-columns i m s l pos h = omega (arith, mul-le-mul_right {m = i / s * s + s} {n = m * s} l (group-within i m s pos h))

pub room : (z : Sizes) (i : ℕ) → i < z.shape.n → Room z i
room z i h =
    let some : 0 < z.s = omega arith in
    let node : i < z.m * z.s = omega arith in
    record { first-most = omega (arith, group-within i z.m z.s some node); part-within = group-columns i z.m z.s z.l some node }

-- the columns of node i's group among all
abbrev group_part : Shape → List ℕ → ℕ → List ℕ
group_part sh short i =
    take (i / group_size sh * group_size sh * rows sh + group_size sh * rows sh - i / group_size sh * group_size sh * rows sh)
    (drop (i / group_size sh * group_size sh * rows sh) short)

-- a byte of theirs, by its place among all
own_index : (i s l a : ℕ) → i / s * s * l + (i % s * l + a) ≡ i * l + a
own_index i s l a = omega (arith, ap (λ (q : ℕ). q * l) (div-add-mod' i s))

module _ (sh : Shape) (b : Bounds sh) (short : List ℕ) (exact : length short ≡ groups sh * group_size sh * rows sh) (flags : List Bool) where
  pub part-correction : (i a : ℕ) → i < groups sh * group_size sh → a < rows sh
      → correction_at (group_size sh) (worth sh (suc (i / group_size sh))) (rows sh) (group_part sh short i) (i / group_size sh * group_size sh) flags (i % group_size sh) a
      ≡ correction_in sh flags short i a
  unfolding correction_at correction_in digit with_digit
  part-correction i a hi ha =
      ap₂ (correction_by (compare (i % group_size sh) d) (chosen flags (i / group_size sh * group_size sh + d)))
      (part-byte first size short fits (i % group_size sh * rows sh + a) (entry-within (mod-lt i (size-some sh b)) ha)
      ∙ ap (λ k. get_or short k 0) (own_index i (group_size sh) (rows sh) a))
      (part-byte first size short fits (d * rows sh + with_digit sh a (suc (i / group_size sh)) (i % group_size sh))
      (entry-within (mod-lt (a / worth sh (suc (i / group_size sh))) (size-some sh b))
      (set_below sh b a (suc (i / group_size sh)) (i % group_size sh) (omega arith) hv (mod-lt i (size-some sh b)) ha))
      ∙ ap (λ k. get_or short k 0) (omega arith))
    where
      first : ℕ
      first = i / group_size sh * group_size sh * rows sh

      size : ℕ
      size = group_size sh * rows sh

      d : ℕ
      d = digit sh a (suc (i / group_size sh))

      fits : first + size ≤ length short
      fits = omega (arith, group-columns i (groups sh) (group_size sh) (rows sh) (size-some sh b) hi, exact)

      hv : i / group_size sh < groups sh
      hv = (div-lt_iff_lt-mul {k = group_size sh} {x = i} {y = groups sh} (size-some sh b)).1 hi

-- the byte, z being the correction
abbrev byte_in : List Bool → List ℕ → ℕ → ℕ → ℕ → ℕ → ℕ → ℕ
byte_in flags scores level i a x z = cond (chosen flags i) (cond (eqb (get_or scores a 0) level) (add x z) x) x

abbrev pub corrected_in : Shape → List Bool → List ℕ → ℕ → List ℕ → List ℕ → ℕ → ℕ → ℕ
corrected_in sh flags scores level short before i a =
    byte_in flags scores level i a (get_or before (i * rows sh + a) 0) (correction_in sh flags short i a)

-- One turn with a chosen column: it is lent as a part, with the columns of its group in `short`, and comes back as ys.
abbrev ColumnStep : Shape → List Bool → List ℕ → ℕ → List ℕ → List ℕ → Sizes → Type 0
ColumnStep sh flags scores level short before z = (i w : ℕ) (xs ys : List ℕ)
    → i < z.shape.n
    → chosen flags i ≡ true
    → length short ≡ groups sh * group_size sh * rows sh
    → w ≡ worth sh (i / z.s + 1)
    → i * z.l + z.l ≤ length xs
    → ColumnsTo (corrected_in sh flags scores level short before) z.l i before xs
    → ColumnCorrected z.s w
    (take (i / z.s * z.s * z.l + z.s * z.l - i / z.s * z.s * z.l) (drop (i / z.s * z.s * z.l) short))
    (i / z.s * z.s) flags (i % z.s) scores level (take (i * z.l + z.l - i * z.l) (drop (i * z.l) xs)) ys
    → ColumnsTo (corrected_in sh flags scores level short before) z.l (i + 1) before (put_mid (i * z.l) (i * z.l + z.l - i * z.l) xs ys)

module _ (sh : Shape) (b : Bounds sh) (flags : List Bool) (scores : List ℕ) (level : ℕ) (short before : List ℕ) where
  column-step-at : ColumnStep sh flags scores level short before (sizes_of sh b)
  column-step-at i w xs ys inside into exact is-worth fits was turn =
      columns-put _ (rows sh) i before xs was fits ys (turn.same_length ∙ long) byte
    where
      long : length (take (i * rows sh + rows sh - i * rows sh) (drop (i * rows sh) xs)) ≡ rows sh
      long = part_length (i * rows sh) (rows sh) xs fits

      -- the correction, whose length of a column and worth are known by equations
      corrects : (a : ℕ) → a < rows sh
          → correction_at (group_size sh) w (length (take (i * rows sh + rows sh - i * rows sh) (drop (i * rows sh) xs))) (group_part sh short i)
          (i / group_size sh * group_size sh) flags (i % group_size sh) a
          ≡ correction_in sh flags short i a
      corrects a ha =
          ap₂ (λ k l. correction_at (group_size sh) k l (group_part sh short i) (i / group_size sh * group_size sh) flags (i % group_size sh) a)
          (is-worth ∙ ap (worth sh) (add-one (i / group_size sh))) long
          ∙ part-correction sh b short exact flags i a (omega (arith, inside, nodes-least sh b)) ha

      old : (a : ℕ) → a < rows sh → get_or (take (i * rows sh + rows sh - i * rows sh) (drop (i * rows sh) xs)) a 0 ≡ get_or before (i * rows sh + a) 0
      old a ha = part-byte (i * rows sh) (rows sh) xs fits a ha ∙ was.kept i a (omega arith) ha

      byte : (a : ℕ) → a < rows sh → get_or ys a 0 ≡ corrected_in sh flags scores level short before i a
      byte a ha =
          turn.bytes a (omega (arith, ha, long))
          ∙ ap₂ (λ x z. cond (eqb (get_or scores a 0) level) (add x z) x) (old a ha) (corrects a ha)
          ∙ ap
          (λ t.
          cond t
          (cond (eqb (get_or scores a 0) level) (add (get_or before (i * rows sh + a) 0) (correction_in sh flags short i a)) (get_or before (i * rows sh + a) 0))
          (get_or before (i * rows sh + a) 0))
          (sym into)

pub column-step : (z : Sizes) (flags : List Bool) (scores : List ℕ) (level : ℕ) (short before : List ℕ) → ColumnStep z.shape flags scores level short before z
column-step z flags scores level short before =
    let b = bounds z.shape z.of_shape.taken in
    subst (ColumnStep z.shape flags scores level short before) (sym (sizes_are z.shape z (own-sizes z) b)) (column-step-at z.shape b flags scores level short before)

-- one with another, which stays
pub column-stays : (sh : Shape) (l : ℕ) → l ≡ rows sh → (flags : List Bool) (scores : List ℕ) (level : ℕ) (short before xs : List ℕ) (i : ℕ)
    → chosen flags i ≡ false
    → ColumnsTo (corrected_in sh flags scores level short before) l i before xs
    → ColumnsTo (corrected_in sh flags scores level short before) l (i + 1) before xs
column-stays sh l is-l flags scores level short before xs i out was = columns_skip _ l i before xs was byte
  where
    byte : (a : ℕ) → a < l → get_or before (i * l + a) 0 ≡ corrected_in sh flags scores level short before i a
    byte a ha =
        ap (λ (k : ℕ). get_or before (i * k + a) 0) is-l
        ∙ ap
        (λ t.
        cond t
        (cond (eqb (get_or scores a 0) level) (add (get_or before (i * rows sh + a) 0) (correction_in sh flags short i a)) (get_or before (i * rows sh + a) 0))
        (get_or before (i * rows sh + a) 0))
        (sym out)

-- A fraction that is cut. In order: what the code takes it by; that bytes taken at the rows which have the failed node's place as the digit of its group are
-- the fraction.
--   Cutting sh f s w n l == node f is one of the shape's, s and w are the base and what the digit of its group counts, and a fraction of n bytes is cut from
--                           a column of l
use mathlib.Core.Path.{◌≡◌, sym, ap, ap₂, ◌∙◌}
use mathlib.Core.List.{List}
use mathlib.Core.Option.{none}
use Prim.Native.Nat.{ℕ, ◌+◌, ◌-◌, ◌*◌, ◌/◌, ◌%◌, ◌^◌, ◌≤◌, ◌<◌}
use native.Mathlib.Omega.{arith}
use lib.ListN.{length, get_or}
use lib.Seq.{ext_get_or}
use Rattle.rules.specs.declared.shapes.Shape.{Shape}
use Rattle.rules.specs.declared.shapes.Sizes.{Sizes}
use Rattle.rules.specs.Shape.{group_size, rows, group, place, worth}
use Rattle.rules.specs.Fraction.{fraction_length, fraction}
use Rattle.rules.specs.Refusal.{shape_refusal}
use Rattle.rules.proofs.Accepted.{Bounds, bounds}
use Rattle.rules.proofs.RowsRead.{worth-some, worth-most, group-most, fraction-worth, fraction-times, fraction-length, fraction-at}
use Rattle.yebarg.specs.Kernel.{row_at, Taken}

-- what a 1 as the digit of a node's group counts, as the code works it out
pub digit-counts : (sh : Shape) (s f : ℕ) → s ≡ group_size sh → s ^ ((f - 1) / s) ≡ worth sh (group sh f)
unfolding group worth
digit-counts sh s f base =
    let group-is : (f - 1) / s + 1 ≡ group sh f = ap (λ s. (f - 1) / s + 1) base in
    let power : (f - 1) / s ≡ group sh f - 1 = omega (arith, group-is) in
    ap₂ (λ (x y : ℕ). x ^ y) base power

-- and that is small
pub digit-fits : (z : Sizes) (f : ℕ) → 1 ≤ f → f ≤ z.shape.n → z.s ^ ((f - 1) / z.s) ≤ 256
digit-fits z f first last =
    let b = bounds z.shape z.of_shape.taken in
    let most = worth-most z.shape b (group z.shape f) (group-most z.shape b f first last) in
    omega (arith, digit-counts z.shape z.s f z.of_shape.s-is, most, z.of_shape.l-is, z.of_shape.l-most)

pub record Cutting (sh : Shape) (f s w n l : ℕ) : Type 0 where
  pub taken : shape_refusal sh ≡ none
  pub first : 1 ≤ f
  pub last : f ≤ sh.n
  pub base : s ≡ group_size sh
  pub counted : w ≡ worth sh (group sh f)
  pub at : (f - 1) % s ≡ place sh f
  pub part : n ≡ fraction_length sh
  -- what follows
  pub counts : 0 < w
  pub short : l ≤ 256
  pub whole : n * s ≡ l
  pub periods : n % w ≡ 0

pub cutting : (sh : Shape) (z : Sizes) {f w n l : ℕ} → z.shape ≡ sh → 1 ≤ f → f ≤ z.shape.n → w ≡ z.s ^ ((f - 1) / z.s)
    → n ≡ fraction_length z.shape
    → l ≡ z.l
    → Cutting sh f z.s w n l
unfolding place
cutting sh z {f} {w} {n} {l} same first last is part-is l-is =
    let taken : shape_refusal sh ≡ none = sym (ap shape_refusal same) ∙ z.of_shape.taken in
    let b = bounds sh taken in
    let last-is : f ≤ sh.n = omega (arith, ap (λ (x : Shape). x.n) same) in
    let base : z.s ≡ group_size sh = z.of_shape.s-is ∙ ap group_size same in
    let counted : w ≡ worth sh (group sh f) = is ∙ digit-counts sh z.s f base in
    let part : n ≡ fraction_length sh = part-is ∙ ap fraction_length same in record {
      taken = taken;
      first = first;
      last = last-is;
      base = base;
      counted = counted;
      at = ap (λ s. (f - 1) % s) base;
      part = part;
      counts = omega (arith, counted, worth-some sh b (group sh f));
      short = omega (arith, z.of_shape.l-most);
      whole = ap₂ (λ (x y : ℕ). x * y) part base ∙ fraction-times sh b ∙ sym (l-is ∙ z.of_shape.l-is ∙ ap rows same);
      periods = ap₂ (λ (x y : ℕ). x % y) part counted ∙ fraction-worth sh b f first last-is;
    }

pub taken→fraction : {sh : Shape} {f s w l : ℕ} {col before later : List ℕ} → Cutting sh f s w (length before) l
    → Taken s w ((f - 1) % s) col before later
    → later ≡ fraction sh f col
unfolding row_at
taken→fraction {sh} {f} {s} {w} {l} {col} {before} {later} h t =
    ext_get_or 0 later (fraction sh f col) (t.same_length ∙ h.part ∙ sym (fraction-length sh b f h.first h.last col)) byte
  where
    b : Bounds sh
    b = bounds sh h.taken

    row-taken : (j : ℕ) → row_at s w ((f - 1) % s) j ≡ row_at (group_size sh) (worth sh (group sh f)) (place sh f) j
    row-taken j =
        ap (λ x. row_at x w ((f - 1) % s) j) h.base
        ∙ ap (λ x. row_at (group_size sh) x ((f - 1) % s) j) h.counted
        ∙ ap (λ x. row_at (group_size sh) (worth sh (group sh f)) x j) h.at

    byte : (j : ℕ) → j < length later → get_or later j 0 ≡ get_or (fraction sh f col) j 0
    byte j k =
        t.bytes j (omega (arith, t.same_length))
        ∙ ap (λ a. get_or col a 0) (row-taken j)
        ∙ sym (fraction-at sh b f h.first h.last col j (omega (arith, t.same_length, h.part)))

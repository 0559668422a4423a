-- `lost::copy_columns` meets its contract: below i the columns are as they are to be, from i on as they were. A chosen column is lent on and comes back as the
-- part of `from`.
use Rattle.std.proofs.Common.{◌≡◌, ℕ, ◌+◌, ◌-◌, ◌*◌, ◌≤◌, Bool, true, cond, List, length, get_or, take, drop, arith, ◌∙◌, sym, ap}
use borrow.Rule.Slice.PartMut.{put_mid}
use Rattle.columns.proofs.Kernels.{column-within}
use Rattle.columns.proofs.Parts.{part_length, part-byte, parts_as_long}
use Rattle.columns.proofs.Columns.{ColumnsTo, columns-put, columns_skip, columns-within}
use Rattle.yebarg.proofs.Lists.{copied-whole}
use Rattle.corrections.specs.Correction.{chosen}
use Rattle.lost.proofs.copying.copy_columns.Goals as goal
use Rattle.lost.proofs.copying.copy_columns.Goals.{then-flags-i, else-flags-i}
use Rattle.lost.proofs.copying.copy_columns.Invariants.{copied_at}

-- a turn with a chosen column
put_step : (flags : List Bool) (l i : ℕ) (from before xs ys : List ℕ)
    → i * l + l ≤ length from
    → i * l + l ≤ length xs
    → chosen flags i ≡ true
    → ys ≡ take (i * l + l - i * l) (drop (i * l) from)
    → ColumnsTo (copied_at flags l from before) l i before xs
    → ColumnsTo (copied_at flags l from before) l (i + 1) before (put_mid (i * l) (i * l + l - i * l) xs ys)
put_step flags l i from before xs ys inside fits e is was =
    columns-put _ l i before xs was fits ys (ap length is ∙ part_length (i * l) l from inside)
    (λ a h. ap (λ (zs : List ℕ). get_or zs a 0) is ∙ part-byte (i * l) l from inside a h
    ∙ ap (λ b. cond b (get_or from (i * l + a) 0) (get_or before (i * l + a) 0)) (sym e))

pub loop-i-preserved : goal.loop-i-preserved
loop-i-preserved c =
    let x = c.loop-i in
    let to-ends = columns-within _ _ _ _ _ x.invariant c.loop-i-test.true c.if-to-n.false in
    let from-ends : x.i * c.args.l + c.args.l ≤ length c.args.from.now = omega (arith, column-within c.args.l c.loop-i-test.true) in
    elim c.if-flags-i.branch [
      | then-flags-i w ↦ rw w.to-is
          (put_step c.args.flags c.args.l x.i c.args.from.now c.args.to.now x.to _ from-ends to-ends w.if-flags-i.true
          (copied-whole (parts_as_long c.args.l (x.i * c.args.l) (x.i * c.args.l) x.to c.args.from.now to-ends from-ends) w.copy.ensures) x.invariant)
      | else-flags-i w ↦ rw w.to-is
          (columns_skip _ c.args.l x.i c.args.to.now x.to x.invariant
          (λ a h. ap (λ b. cond b (get_or c.args.from.now (x.i * c.args.l + a) 0) (get_or c.args.to.now (x.i * c.args.l + a) 0)) (sym w.if-flags-i.false)))
    ]

-- `correct_chosen` meets its contract: below i the columns are as they are to be, from i on as they were. One turn is `column-step`, or `column-stays`.
use mathlib.Core.Path.{◌≡◌, sym, ◌∙◌, subst}
use Prim.Native.Nat.{ℕ, ◌≤◌, ◌+◌, ◌<◌, ◌/◌}
use native.Mathlib.Omega.{arith}
use Rattle.rules.specs.Shape.{worth}
use Rattle.rules.specs.Promise.{WorthIs}
use Rattle.rules.proofs.Measures.{own-sizes}
use Rattle.rules.proofs.Lengths.{all-nodes, counts}
use Rattle.columns.proofs.Columns.{ColumnsTo, columns-within}
use Rattle.corrections.proofs.Groups.{Room, room, corrected_in, column-step, column-stays}
use Rattle.corrections.proofs.correcting.correct_chosen.Goals as goal
use Rattle.corrections.proofs.correcting.correct_chosen.Goals.{then-asked-i, else-asked-i}
use Rattle.corrections.proofs.correcting.correct_chosen.Goals.{In-loop-i}

room_at : (c : In-loop-i) → Room c.args.z c.loop-i.i
room_at c = room c.args.z c.loop-i.i c.loop-i-test.true

pub slice_bounds-short-end : goal.slice_bounds-short-end
slice_bounds-short-end c = omega (arith, room_at (goal.at.slice_bounds-short-end c).In-loop-i)

-- the node is one of m × s, and what its group's digit counts is small
worth-is : (c : In-loop-i) → {w : ℕ} → WorthIs c.args.z.shape (c.loop-i.i / c.args.z.s + 1) w
    → (0 < w) × (w ≤ 256) × (w ≡ worth c.args.z.shape (c.loop-i.i / c.args.z.s + 1))
worth-is c is = counts c.args.z.shape c.args.z (own-sizes c.args.z) c.loop-i.i (omega arith) is

pub invariant_of-group : goal.invariant_of-group
invariant_of-group c =
    let here = (goal.at.invariant_of-group c).In-loop-i in
    let w = worth-is here c.worth-w.ensures in
    record { nodes = (room_at here).first-most; worth_some = w.0; worth_most = w.1 }

pub loop-i-preserved : goal.loop-i-preserved
loop-i-preserved c =
    let now = c.loop-i in
    let z = c.args.z in
    let asked = c.args.asked.now in
    let new = corrected_in z.shape asked.flags asked.scores.now asked.level c.args.short.now c.args.stripe.now in
    elim c.if-asked-i.branch [
      | then-asked-i w ↦ subst (ColumnsTo new z.l (now.i + 1) c.args.stripe.now) (sym w.stripe-is)
          (column-step z asked.flags asked.scores.now asked.level c.args.short.now c.args.stripe.now now.i _ now.stripe _
          c.loop-i-test.true w.if-asked-i.true (c.requires.short_exact ∙ all-nodes z.shape z (own-sizes z))
          (worth-is (goal.at.loop-i-preserved c).In-loop-i w.worth-w.ensures).2
          (columns-within _ _ _ _ _ now.invariant c.loop-i-test.true c.requires.exact) now.invariant w.correct_column.ensures)
      | else-asked-i w ↦ subst (ColumnsTo new z.l (now.i + 1) c.args.stripe.now) (sym w.stripe-is)
          (column-stays z.shape z.l z.of_shape.l-is asked.flags asked.scores.now asked.level c.args.short.now c.args.stripe.now now.stripe now.i
          w.if-asked-i.false now.invariant)
    ]

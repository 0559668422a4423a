-- `WellFormed::place` meets its contract: after the nodes 1 to i those that are held stand in their places (`PlacedTo`), and `at` is where the next
-- column begins. A column is lent as a part of the pack and of the stripe, and comes back copied whole.
use Rattle.std.proofs.Common.{◌≡◌, suc, ◌+◌, ◌*◌, ◌<◌, ◌≤◌, true, length, arith, ap, subst, ◌∙◌}
use native.Mathlib.Nat.{le_antisymm}
use Rattle.rules.specs.declared.shapes.Shape.{Shape}
use Rattle.rules.specs.Shape.{rows}
use Rattle.rules.specs.Stripe.{stripe_length}
use Rattle.rules.proofs.Lengths.{stripe-is}
use Rattle.rules.proofs.Measures.{own-sizes}
use Rattle.columns.proofs.Kernels.{column-within}
use Rattle.columns.proofs.Parts.{parts_as_long}
use Rattle.yebarg.proofs.Lists.{copied-whole}
use Rattle.entries.specs.Pack.{has}
use Rattle.entries.proofs.Sets.{in_set, not_in_set}
use Rattle.layout.proofs.Packs.{found-accepted, largest_pack_lem}
use Rattle.pack.proofs.Placings.{PlacedTo, placed_start, placed_skip, placed-within, placed-step, placed-all}
use Rattle.pack.proofs.placing.WellFormed.place.Goals as goal
use Rattle.pack.proofs.placing.WellFormed.place.Goals.{In-loop-i, then-self-i-eq1, else-self-i-eq1}

pub loop-i-init : goal.loop-i-init
loop-i-init c = placed_start _ _ _

-- the rows, by the shape that is found
rows_are : (c : In-loop-i) → c.args.self.now.z.l ≡ rows c.args.self.now.found.shape
rows_are c = c.args.self.now.z.of_shape.l-is ∙ ap rows c.args.self.now.same_shape

-- the node of this turn is one of n
inside : (c : In-loop-i) → c.loop-i.i < c.args.self.now.found.shape.n
inside c = subst (λ (sh : Shape). c.loop-i.i < sh.n) c.args.self.now.same_shape c.loop-i-test.true

-- its column ends within the stripe
stripe-within : (c : In-loop-i) → c.loop-i.i * c.args.self.now.z.l + c.args.self.now.z.l ≤ length c.loop-i.stripe
stripe-within c =
    omega (arith, column-within c.args.self.now.z.l c.loop-i-test.true, stripe-is _ _ (own-sizes c.args.self.now.z), ap stripe_length c.args.self.now.same_shape, c.requires.stripe_len, c.loop-i.auto.stripe)

-- it is held, and ends within the pack
pack-within : (c : In-loop-i) → has c.args.self.now.found.held (suc c.loop-i.i) ≡ true → c.loop-i.at + c.args.self.now.z.l ≤ length c.args.self.now.pack.now
pack-within c held = placed-within _ _ _ _ _ _ c.loop-i.invariant held (inside c) c.args.self.now.z.l (rows_are c) c.args.self.now.layout_is

pub overflow_add-stop : goal.overflow_add-stop
overflow_add-stop c =
    record { fits = omega (arith, pack-within (goal.at.overflow_add-stop c).In-loop-i (in_set _ _ c.if-self-i-eq1.true), largest_pack_lem c.args.self.now.pack.now (found-accepted c.args.self.now.pack.now c.args.self.now.found c.args.self.now.layout_is)) }

pub slice_bounds-copy-end : goal.slice_bounds-copy-end
slice_bounds-copy-end c = pack-within (goal.at.slice_bounds-copy-end c).In-loop-i (in_set _ _ c.if-self-i-eq1.true)

pub slice_bounds-copy-end-then-self-i-eq1 : goal.slice_bounds-copy-end-then-self-i-eq1
slice_bounds-copy-end-then-self-i-eq1 c = stripe-within (goal.at.slice_bounds-copy-end-then-self-i-eq1 c).In-loop-i

pub loop-i-preserved : goal.loop-i-preserved
loop-i-preserved c =
    let t = (goal.at.loop-i-preserved c).In-loop-i in
    elim c.if-self-i-eq1.branch [
      | then-self-i-eq1 w ↦ rw (w.at-is, w.stripe-is)
          (let held = in_set _ _ w.if-self-i-eq1.true in
          placed-step c.args.self.now.found c.args.self.now.pack.now c.args.stripe.now c.loop-i.i c.loop-i.at c.loop-i.stripe c.loop-i.invariant
          held (inside t) c.args.self.now.z.l (rows_are t) c.requires.stripe_len c.args.self.now.layout_is _
          (copied-whole (parts_as_long c.args.self.now.z.l (c.loop-i.i * c.args.self.now.z.l) c.loop-i.at c.loop-i.stripe c.args.self.now.pack.now (stripe-within t) (pack-within t held)) w.copy.ensures))
      | else-self-i-eq1 w ↦ rw (w.at-is, w.stripe-is)
          (placed_skip c.args.self.now.found c.args.self.now.pack.now c.args.stripe.now c.loop-i.i c.loop-i.at c.loop-i.stripe c.loop-i.invariant
          (not_in_set _ _ w.if-self-i-eq1.false))
    ]

pub returns : goal.returns
returns c =
    let done : c.loop-i.i ≡ c.args.self.now.found.shape.n = le_antisymm c.loop-i.auto.i-end c.loop-i-test.false ∙ ap (λ (sh : Shape). sh.n) c.args.self.now.same_shape in
    placed-all _ _ _ c.loop-i.at _ c.args.self.now.layout_is
    (subst (λ i. PlacedTo c.args.self.now.found c.args.self.now.pack.now c.args.stripe.now i c.loop-i.at c.loop-i.stripe) done c.loop-i.invariant)

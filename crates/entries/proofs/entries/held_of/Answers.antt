-- `entries::held_of` meets its contract: at entry e the set is that of the nodes of the entries before it. Each node is above them all, so that its bit is
-- added to a set of lower ones.
use mathlib.Core.Path.{◌≡◌, sym, ap, subst, ◌∙◌}
use mathlib.Core.Bool.{false}
use Prim.Native.Nat.{◌≤◌, ◌+◌, ◌-◌, ◌*◌, ◌%◌, ◌^◌}
use native.Mathlib.Nat.{pow-le-pow_right}
use native.Mathlib.Omega.{arith}
use Rattle.entries.specs.Pack.{entry_at}
use Rattle.entries.specs.Parts.{node_in}
use Rattle.entries.specs.Refusal.{first_bad_entry}
use Rattle.entries.specs.Promise.{is_shorter, EntriesGood}
use Rattle.entries.proofs.Positions.{node_in_lem}
use Rattle.entries.proofs.Good.{GoodEntry}
use Rattle.entries.proofs.Checking.{first-none, is-formed, good_at, HeldTo, held_more, held_step, held_all}
use Rattle.entries.proofs.entries.held_of.Goals as goal
use Rattle.entries.proofs.entries.held_of.Goals.{Else-is_some, Else-pack-gt16, In-loop-e}

-- past the tests the pack is well formed
past : (c : Else-is_some) → (is_shorter c.args.pack.now ≡ false) × (first_bad_entry c.args.pack.now ≡ 0)
past c = first-none _ c.first_bad_entry.ensures (sym c.is_some.ensures ∙ c.if-is_some.false)

formed : (c : Else-pack-gt16) → EntriesGood c.args.pack.now
formed c =
    let p = past (goal.at.Else-pack-gt16 c).Else-is_some in
    record { there = p.0; nodes = c.if-pack-gt16.false; good = p.1 }

good : (c : In-loop-e) → GoodEntry c.args.pack.now c.loop-e.e
good c = good_at c.args.pack.now (formed (goal.at.In-loop-e c).Else-pack-gt16) c.loop-e.e (omega arith)

node-few : (c : In-loop-e) → node_in c.args.pack.now c.loop-e.e ≤ 16
node-few c = omega (arith, (good c).most, (formed (goal.at.In-loop-e c).Else-pack-gt16).nodes)

-- the bit that is added
bit_is : (c : In-loop-e) → 1 * 2 ^ (node_in c.args.pack.now c.loop-e.e - 1) % 65536 ≡ 2 ^ (node_in c.args.pack.now c.loop-e.e - 1)
bit_is c =
    let low : node_in c.args.pack.now c.loop-e.e - 1 ≤ 15 = omega (arith, node-few c) in
    omega (arith, pow-le-pow_right {n = 2} (omega arith) low)

pub overflow_sub-held : goal.overflow_sub-held
overflow_sub-held c = omega (arith, node_in_lem c.args.pack.now c.loop-e.e, (good (goal.at.overflow_sub-held c).In-loop-e).least)

pub overflow_shl-held : goal.overflow_shl-held
unfolding node_in entry_at
overflow_shl-held c = omega (arith, node-few (goal.at.overflow_shl-held c).In-loop-e, (good (goal.at.overflow_shl-held c).In-loop-e).least)

pub overflow_add-held : goal.overflow_add-held
unfolding node_in entry_at
overflow_add-held c =
    let i = (goal.at.overflow_add-held c).In-loop-e in
    omega (arith, bit_is i, held_more _ _ _ c.loop-e.invariant (good i), pow-le-pow_right {n = 2} (omega arith) (node-few i))

pub loop-e-preserved : goal.loop-e-preserved
unfolding node_in entry_at
loop-e-preserved c =
    let i = (goal.at.loop-e-preserved c).In-loop-e in
    subst (HeldTo c.args.pack.now (c.loop-e.e + 1)) (ap (λ b. c.loop-e.held + b) (sym (bit_is i)))
    (held_step _ _ _ c.loop-e.invariant (good i) (omega arith))

pub returns : goal.returns
returns c =
    let last = c.loop-e in
    is-formed _ (formed (goal.at.returns c).Else-pack-gt16)
    (held_all _ _ (subst (λ e. HeldTo c.args.pack.now e last.held) (omega arith) last.invariant))

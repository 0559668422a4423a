-- `listed` meets its contract: the chosen nodes below i are listed, and j is how many they are.
use mathlib.Core.Path.{◌≡◌, sym}
use mathlib.Core.List.{List}
use mathlib.Core.Bool.{Bool, true}
use Prim.Native.Nat.{ℕ, suc, ◌<◌}
use native.Mathlib.Omega.{arith}
use native.Mathlib.Numerals.{add-one}
use Rattle.theory.specs.Set.{count}
use Rattle.theory.proofs.Counts.{count-zero, count-suc, count_up}
use Rattle.corrections.specs.Correction.{chosen}
use Rattle.choices.proofs.Listing.{listed_start, listed_skip, listed_more, listed-first}
use Rattle.choices.proofs.choosing.listed.Goals as goal
use Rattle.choices.proofs.choosing.listed.Goals.{then-flags-i, else-flags-i}
use Rattle.choices.proofs.choosing.listed.Goals.{Then-flags-i}

pub loop-i-init : goal.loop-i-init
loop-i-init c = record { counted = sym (count-zero _); listed = listed_start _ }

-- before one more is listed there are fewer than four
room_at : (n : ℕ) (flags : List Bool) (i : ℕ) → chosen flags i ≡ true → i < n → count i (chosen flags) < count n (chosen flags)
room_at n flags i taken within = omega (arith, count_up (suc i) n (chosen flags) within, simp taken at (count-suc i (chosen flags)))

room : (c : Then-flags-i) → c.loop-i.j < 4
room c = omega (arith, c.count_of.ensures.value, room_at c.args.n c.args.flags c.loop-i.i c.if-flags-i.true (omega arith))

pub offset_bounds-nodes-j : goal.offset_bounds-nodes-j
offset_bounds-nodes-j c = record { fits = omega (arith, room (goal.at.offset_bounds-nodes-j c).Then-flags-i) }

pub bounds-nodes-j : goal.bounds-nodes-j
bounds-nodes-j c = room (goal.at.bounds-nodes-j c).Then-flags-i

pub overflow_add-j : goal.overflow_add-j
overflow_add-j c = record { fits = omega (arith, room (goal.at.overflow_add-j c).Then-flags-i) }

pub loop-i-preserved : goal.loop-i-preserved
loop-i-preserved c =
    let flags = c.args.flags in
    let i = c.loop-i.i in
    let inv = c.loop-i.invariant in
    elim c.if-flags-i.branch [
      | then-flags-i w ↦ rw (w.nodes-is, w.j-is, add-one i)
          (record {
            counted = omega (arith, inv.counted, simp w.if-flags-i.true at (count-suc i (chosen flags)));
            listed = rw inv.counted (listed_more inv.listed w.if-flags-i.true (omega (arith, c.count_of.ensures.value, room_at c.args.n flags i w.if-flags-i.true (omega arith))));
          })
      | else-flags-i w ↦ rw (w.nodes-is, w.j-is, add-one i)
          (record { counted = omega (arith, inv.counted, simp w.if-flags-i.false at (count-suc i (chosen flags))); listed = listed_skip inv.listed w.if-flags-i.false })
    ]

pub returns : goal.returns
returns c =
    record {
      few = λ few. listed-first c.args.n c.well_formed.0.1.0.1 (omega arith) c.loop-i.invariant.listed;
      many = λ many. absurd (omega (arith, many, c.count_of.ensures.value));
    }

-- `entries::first_bad_entry` meets its contract: of a pack that isn't shorter than its entries, no entry before e is bad.
use mathlib.Core.Path.{◌≡◌, sym, ◌∙◌}
use mathlib.Core.Bool.{true≢false}
use Prim.Native.Nat.{ℕ}
use Rattle.std.specs.Prelude.{Option}
use Rattle.entries.specs.Refusal.{bad_entry, first_bad_entry}
use Rattle.entries.specs.Promise.{found, FirstBadIs}
use Rattle.entries.proofs.Checking.{first_is, none_is}
use Rattle.entries.proofs.entries.first_bad_entry.Goals as goal
use Rattle.entries.proofs.entries.first_bad_entry.Goals.{Else-shorter}

-- what is found, of a pack that isn't shorter than its entries
found-is : {answer : Option ℕ} (c : Else-shorter) → answer ≡ found (first_bad_entry c.args.pack.now) → FirstBadIs c.args.pack.now answer
found-is c is =
    record { there = λ q. is; short = λ q. absurd (true≢false (sym q ∙ sym c.shorter.ensures.value ∙ c.if-shorter.false)) }

pub returns-then-bad_entry : goal.returns-then-bad_entry
unfolding first_bad_entry
returns-then-bad_entry c =
    found-is (goal.at.returns-then-bad_entry c).Else-shorter
    (first_is (bad_entry c.args.pack.now) _ c.loop-e.e _ c.from-e-end.ensures c.loop-e-test.true (sym c.bad_entry.ensures ∙ c.if-bad_entry.true) c.loop-e.invariant)

pub returns : goal.returns
unfolding first_bad_entry
returns c =
    found-is (goal.at.returns c).Else-shorter
    (none_is (bad_entry c.args.pack.now) _ _ _ c.from-e-end.ensures c.loop-e-test.false c.loop-e.invariant)

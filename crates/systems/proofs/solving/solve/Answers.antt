-- `systems::solve` meets its contract: the three stages make a triangle of the table of powers, and what back substitution finds solves the system that
-- the stages began from.
use Rattle.systems.specs.System.{entry}
use Rattle.systems.specs.Kernel.{staged}
use Rattle.distinct.proofs.Indices.{four}
use Rattle.systems.proofs.Arrays.{array_byte}
use Rattle.systems.proofs.Elimination.{Stages, after, firsts, stages, triangle-zero, triangle-pivot, elimination_solves}
use Rattle.distinct.specs.Promise.{FewApart}
use mathlib.Core.Path.{◌≡◌, refl}
use mathlib.Core.List.{List}
use Prim.Native.Nat.{ℕ, ◌<◌}
use native.Mathlib.Omega.{arith}
use lib.ListN.{get_or}
use Rattle.systems.proofs.solving.solve.Goals as goal
use Rattle.systems.proofs.solving.solve.Goals.{After-stage-sides}

pub returns-then-not-apart : goal.returns-then-not-apart
returns-then-not-apart c =
    record {
      solves = λ way. absurd (c.apart.ensures.isnt c.if-not-apart.true way);
      cannot = λ none. refl;
    }

abbrev points : After-stage-sides → List ℕ
points c = c.args.points

points-small : (c : After-stage-sides) → (j : ℕ) → get_or (points c) j 0 < 256
points-small c = array_byte 4 (points c) _ c.well_formed.1.0

given-small : (c : After-stage-sides) → (j : ℕ) → get_or c.args.given j 0 < 256
given-small c = array_byte 4 c.args.given _ c.well_formed.1.1.0

abbrev table : After-stage-sides → ℕ → ℕ → ℕ → ℕ
table c k i j =
    after (λ h. entry c.powers.result h j) (λ h. entry c.stage.result h j)
    (λ h. entry c.stage-2.result h j)
    (λ h. entry c.stage-rows.result h j)
    k i

table-stages : (c : After-stage-sides) → (j : ℕ) → j < 4 → Stages (points c) (λ k i. table c k i j)
table-stages c j h =
    stages (points c) _ _ _ _ (λ i l. c.stage.ensures.each i j l h) (λ i l. c.stage-2.ensures.each i j l h)
    (λ i l. c.stage-rows.ensures.each i j l h)

abbrev sides : After-stage-sides → ℕ → ℕ → ℕ
sides c =
    after (λ h. get_or c.args.given h 0) (λ h. entry c.stage-3.result h 0) (λ h. entry c.stage-4.result h 0) (λ h. entry c.stage-sides.result h 0)

-- the numbers given are a table of one column
given_staged : (c : After-stage-sides) → (i : ℕ) → i < 4
    → entry c.stage-3.result i 0 ≡ staged (firsts (points c)) (λ h. get_or c.args.given h 0) i
unfolding staged
given_staged c =
    let each = c.stage-3.ensures.each in
    four _ (each 0 0 (omega arith) (omega arith)) (each 1 0 (omega arith) (omega arith)) (each 2 0 (omega arith) (omega arith))
    (each 3 0 (omega arith) (omega arith))

sides-stages : (c : After-stage-sides) → Stages (points c) (sides c)
sides-stages c =
    stages (points c) _ _ _ _ (given_staged c) (λ i l. c.stage-4.ensures.each i 0 l (omega arith)) (λ i l. c.stage-sides.ensures.each i 0 l (omega arith))

few-apart : (c : After-stage-sides) → FewApart c.args.count (points c)
few-apart c =
    c.apart.ensures.is c.if-not-apart.false

pub substituted-requires : goal.substituted-requires
substituted-requires c =
    let powers = c.powers.ensures.each in
    let few = (few-apart (goal.at.substituted-requires c).After-stage-sides).few in record {
      count_bound = few;
      triangle = record {
        below = λ i j hi hj. triangle-zero c.args.points (table (goal.at.substituted-requires c).After-stage-sides) (table-stages (goal.at.substituted-requires c).After-stage-sides) powers i j (omega (arith, few)) hj;
        pivot = triangle-pivot c.args.points (table (goal.at.substituted-requires c).After-stage-sides) (table-stages (goal.at.substituted-requires c).After-stage-sides) powers (points-small (goal.at.substituted-requires c).After-stage-sides) c.args.count few (few-apart (goal.at.substituted-requires c).After-stage-sides).apart;
      };
    }

pub returns : goal.returns
returns c =
    let powers = c.powers.ensures.each in
    let found = c.substituted.ensures in
    record {
      solves = λ way. record {
        bytes = found.bytes;
        sums =
            elimination_solves c.args.points (table (goal.at.returns c).After-stage-sides) (table-stages (goal.at.returns c).After-stage-sides) powers (points-small (goal.at.returns c).After-stage-sides) c.args.count way.few way.apart
            (sides (goal.at.returns c).After-stage-sides)
            (sides-stages (goal.at.returns c).After-stage-sides)
            (given-small (goal.at.returns c).After-stage-sides)
            (λ j. get_or c.substituted.result j 0)
            found.rest
            found.sums;
        rest = found.rest;
      };
      cannot = λ none. absurd (none (few-apart (goal.at.returns c).After-stage-sides));
    }

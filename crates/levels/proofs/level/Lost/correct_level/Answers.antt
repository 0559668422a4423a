-- `Lost::correct_level` meets its contract: the sums that `sums_of` gives are solved for what the lost nodes' weights fall short by, and the lost columns
-- are corrected by it. No call is refused: the shape is accepted, the lengths are exact, and the points differ.
use mathlib.Core.Path.{◌≡◌, refl, sym, ap, ◌∙◌}
use mathlib.Core.Option.{none, none-ne-some}
use mathlib.Core.List.{◌++◌}
use Prim.Native.Nat.{ℕ, ◌*◌}
use native.Mathlib.Omega.{arith}
use lib.ListN.{length, take, drop, replicate, length-append}
use lib.Seq.{length-take-le}
use Rattle.std.specs.Prelude.{Result, Ok, Err, IsOk}
use Rattle.std.proofs.lemmas.Result.{IfOk-at_ok}
use Rattle.rules.specs.Stripe.{stripe_length, symbol}
use Rattle.rules.specs.declared.refusals.Refusal.{Refusal}
use Rattle.rules.specs.Refusal.{number_of, refusal_of}
use Rattle.rules.proofs.Measures.{own-sizes}
use Rattle.rules.proofs.Lengths.{all-nodes}
use Rattle.columns.proofs.Parts.{zeros-length, front_length}
use Rattle.sums.specs.Refusal.{sums_refusal}
use Rattle.sums.specs.Promise.{SumsOf}
use Rattle.sums.proofs.Refusals.{sums-accepted}
use Rattle.solver.specs.Solve.{Solved}
use Rattle.solver.proofs.Settled.{unknowns-ok, unknowns-length}
use Rattle.corrections.specs.Correction.{ColumnsCorrected}
use Rattle.corrections.proofs.Settled.{corrections_ok}
use Rattle.levels.proofs.Losses.{fits, count_most, sums-most, found-most, found-within, nodes-most, lists}
use Rattle.levels.proofs.Shortfalls.{listed-apart, level_from}
use Rattle.levels.proofs.level.Lost.correct_level.Goals as goal
use Rattle.levels.proofs.level.Lost.correct_level.Goals.{After-correct_columns, After-place, After-sums_of, After-unknowns}

-- the sums are made
summable : (c : After-sums_of) → sums_refusal c.args.self.now.z.shape c.args.stripe.now (take (c.args.self.now.z.shape.r * c.args.self.now.z.l) (replicate 1024 0)) ≡ none
summable c =
    let lost = c.args.self.now in
    sums-accepted lost.z.shape c.args.stripe.now _ lost.z.of_shape.taken c.requires
    (zeros-length (lost.z.shape.r * lost.z.l) 1024 (sums-most lost) ∙ ap (λ (y : ℕ). lost.z.shape.r * y) lost.z.of_shape.l-is)

summed : (c : After-sums_of) → SumsOf c.args.self.now.z.shape (symbol c.args.self.now.z.shape c.args.stripe.now) c.sums_of.new.sums
summed c = c.sums_of.ensures.written (summable c)

-- what isn't refused is done
done : (answer : Result (Unit {0}) Refusal) → refusal_of answer ≡ none → IsOk answer
done (Ok _) e = refl
done (Err q) e = absurd (none-ne-some (number_of q) (sym e))

pub unwrap-requires : goal.unwrap-requires
unwrap-requires c = done c.sums_of.result (c.sums_of.ensures.answered ∙ summable (goal.at.unwrap-requires c).After-sums_of)

-- the unknowns are found
solvable : (c : After-unknowns) → IsOk c.unknowns.result
solvable c =
    let lost = c.args.self.now in
    let sums = summed (goal.at.After-unknowns c).After-sums_of in
    unknowns-ok c.unknowns.result c.unknowns.ensures (record {
      few = count_most lost;
      short = lost.z.of_shape.l-most;
      sums-exact = length-take-le (lost.count * lost.z.l) (c.sums_of.new.sums ++ drop (lost.z.shape.r * lost.z.l) (replicate 1024 0))
          (omega (arith, length-append c.sums_of.new.sums (drop (lost.z.shape.r * lost.z.l) (replicate 1024 0)), sums.all, ap (λ (y : ℕ). lost.z.shape.r * y) lost.z.of_shape.l-is, found-within lost));
      found-exact = zeros-length (lost.count * lost.z.l) 1024 (found-most lost);
      apart = listed-apart lost.z.shape (fits lost) lost.flags lost.nodes lost.count (lists lost) lost.points lost.points_are (count_most lost);
    })

pub unwrap-requires-2 : goal.unwrap-requires-2
unwrap-requires-2 c = solvable (goal.at.unwrap-requires-2 c).After-unknowns

short-length : (c : After-place) → length c.place.new.to ≡ c.args.self.now.z.m * c.args.self.now.z.s * c.args.self.now.z.l
short-length c =
    let z = c.args.self.now.z in
    c.place.ensures.same_length ∙ zeros-length (z.m * z.s * z.l) 4096 (nodes-most c.args.self.now)

-- what is corrected has its lengths
correctable : (c : After-correct_columns) → c.correct_columns.result ≡ Ok tt
unfolding stripe_length
correctable c =
    let lost = c.args.self.now in
    let z = lost.z in
    corrections_ok z.shape lost.flags lost.scores c.args.level _ c.args.stripe.now c.correct_columns.result c.correct_columns.new.stripe c.correct_columns.ensures (record {
      taken = z.of_shape.taken;
      scores_enough = omega (arith, lost.scores_are.all, z.of_shape.l-is);
      short-exact =
          front_length c.place.new.to _ (z.m * z.s * z.l) (short-length (goal.at.After-correct_columns c).After-place) ∙ all-nodes z.shape z (own-sizes z);
      exact = c.requires;
    })

pub unwrap-requires-3 : goal.unwrap-requires-3
unwrap-requires-3 c = rw (correctable (goal.at.unwrap-requires-3 c).After-correct_columns) refl

pub returns : goal.returns
returns c =
    let lost = c.args.self.now in
    level_from lost c.args.level c.args.stripe.now c.correct_columns.new.stripe
    c.sums_of.new.sums (drop (lost.z.shape.r * lost.z.l) (replicate 1024 0)) c.unknowns.new.found _ _ c.place.new.to _
    (summed (goal.at.returns c).After-sums_of)
    (unknowns-length c.unknowns.result c.unknowns.ensures (zeros-length (lost.count * lost.z.l) 1024 (found-most lost)))
    (IfOk-at_ok (λ _. Solved lost.count lost.points lost.z.l (take (lost.count * lost.z.l) (c.sums_of.new.sums ++ drop (lost.z.shape.r * lost.z.l) (replicate 1024 0))) c.unknowns.new.found)
    c.unwrap-2.ensures c.unknowns.ensures.solved)
    (short-length (goal.at.returns c).After-place) c.place.ensures
    (IfOk-at_ok (λ _. ColumnsCorrected lost.z.shape lost.flags lost.scores c.args.level _ c.args.stripe.now c.correct_columns.new.stripe) c.unwrap-3.ensures
    c.correct_columns.ensures.corrected)

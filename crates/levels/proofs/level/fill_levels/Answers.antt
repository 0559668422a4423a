-- `fill_levels` meets its contract: each test finds what cannot be filled, and past all of them `correct_levels` fills.
use mathlib.Core.Path.{◌≡◌, refl, ap}
use native.Mathlib.Omega.{arith}
use Rattle.corrections.specs.Correction.{chosen}
use Rattle.theory.proofs.Counts.{count-beyond}
use Rattle.rules.specs.declared.shapes.Shape.{Shape}
use Rattle.levels.proofs.Nodes.{none_from}
use Rattle.levels.proofs.level.fill_levels.Goals as goal

-- more are chosen than r, or one from n on
pub returns-then-count-count_of : goal.returns-then-count-count_of
returns-then-count-count_of c = record {
  can = tt;
  bytes = tt;
  filled = tt;
  cannot = λ way.
      let n : c.in-Ok.z.shape.n ≡ c.args.shape.n = ap (λ (sh : Shape). sh.n) c.in-Ok.ensures in
      let r : c.in-Ok.z.shape.r ≡ c.args.shape.r = ap (λ (sh : Shape). sh.r) c.in-Ok.ensures in
      let counted = rw n at c.count_of-count.ensures.value in
      omega (arith, c.then-count-count_of.either, counted, c.count_of.ensures.value, count-beyond c.args.shape.n 16 (chosen c.args.flags) way.none_above (omega arith));
  kept = refl;
}

pub new-requires-clause-none_above : goal.new-requires-clause-none_above
new-requires-clause-none_above c =
    none_from c.in-Ok.z.shape.n c.args.flags c.well_formed.1.0.1.0.1 (omega (arith, c.if-count-count_of.false, c.count_of-count.ensures.value, c.count_of.ensures.value))

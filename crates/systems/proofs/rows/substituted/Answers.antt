-- `systems::substituted` meets its contract: what is stored at index h is what its row lacks, and the rows past it have 0 there.
use lib.Bits.{bit_xor}
use Rattle.field.specs.Number.{add, Divided}
use Rattle.systems.specs.System.{entry}
use Rattle.systems.proofs.Substitution.{unfinished_step}
use mathlib.Core.Path.{ap, ◌∙◌}
use Prim.Native.Nat.{◌-◌}
use native.Mathlib.Omega.{arith}
use Rattle.systems.proofs.rows.substituted.Goals as goal

pub loop-h-preserved : goal.loop-h-preserved
unfolding add
loop-h-preserved c =
    let x = c.loop-h in
    let h = x.h - 1 in
    let lacks = bit_xor (entry c.args.given h 0) c.dot.result in
    let divided : Divided lacks (entry c.args.rows h h) c.unwrap.result = rw c.unwrap.ensures at c.divide.ensures in
    unfinished_step c.args.count x.h h c.unwrap.result c.args.rows c.args.given x.found c.requires.count_bound c.requires.triangle
    (omega (arith, c.loop-h-test.true))
    x.invariant
    c.unwrap.type_inv
    (divided.value ∙ ap (bit_xor (entry c.args.given h 0)) c.dot.ensures.value)

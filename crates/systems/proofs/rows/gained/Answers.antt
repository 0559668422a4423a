-- `systems::gained` meets its contract: each number that is stored gains, and those past it stay.
use mathlib.Core.Path.{ap₂, ◌∙◌}
use Prim.Native.Nat.{◌<◌}
use native.Mathlib.Omega.{arith}
use borrow.Author.Count.{below_more}
use lib.Bits.{bit_xor}
use lib.ListN.{length, length-set}
use lib.Seq.{get_or-set_same, get_or-set_other}
use Rattle.field.specs.Number.{add}
use Rattle.systems.proofs.rows.gained.Goals as goal

pub loop-j-preserved : goal.loop-j-preserved
unfolding add
loop-j-preserved g c =
    let x = c.loop-j in
    let within : x.j < length x.row = omega arith in
    record {
      exact = length-set x.row x.j _ ∙ x.invariant.exact;
      done =
          below_more _ _
          (λ k h. get_or-set_other x.row x.j k _ 0 (λ e. omega (arith, h)) ∙ x.invariant.done k h)
          (get_or-set_same x.row x.j _ 0 within ∙ ap₂ bit_xor (x.invariant.kept x.j (omega arith)) c.times.ensures.value);
      kept = λ k h. get_or-set_other x.row x.j k _ 0 (λ e. omega arith) ∙ x.invariant.kept k (omega arith);
    }

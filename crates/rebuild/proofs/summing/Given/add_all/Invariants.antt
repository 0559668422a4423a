use Rattle.rebuild.specs.Kernel.{SumsAre}
use Rattle.rebuild.proofs.summing.Given.add_all.Given as goal

abbrev pub invariant-loop-i : goal.invariant-loop-i
invariant-loop-i l = SumsAre l.self.z.shape l.self.failed l.self.bytes.now l.i l.sums

-- `rules::point` meets its contract: the table is the computed list of the powers of 2, whose rule holds at each entry.
use mathlib.Core.Logic.{inl, inr}
use Prim.Native.Nat.{◌-◌}
use native.Mathlib.Omega.{arith}
use Rattle.field.specs.Number.{modulus, add, double}
use Rattle.field.proofs.Lists.{powers}
use Rattle.field.proofs.Logarithms.{power_at}
use Rattle.rules.specs.Point.{point_of}
use Rattle.rules.proofs.points.point.Goals as goal

pub returns : goal.returns
unfolding point_of powers double add modulus
returns c = record {
  inside = λ h k. power_at 16 (c.args.i - 1) (omega arith);
  outside = elim [ inl h ↦ absurd (omega (arith, c.if-i-lt1.false, h)) | inr h ↦ absurd (omega (arith, c.if-i-gt16.false, h)) ];
}

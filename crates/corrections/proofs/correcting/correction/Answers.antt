-- `corrections::correction` meets its contract: what the tests found is how the place compares with the digit, and whether the mate is lost. γ is 2.
use mathlib.Core.Path.{◌≡◌, refl, sym, ap, ap₂, ◌∙◌}
use mathlib.Core.Bool.{Bool, true, false}
use Prim.Native.Nat.{ℕ, compare, Ordering}
use native.Mathlib.Omega.{arith}
use lib.Bits.{bit_xor}
use Rattle.theory.specs.Pair.{Compared}
use Rattle.theory.proofs.Mates.{compare_only}
use Rattle.field.specs.Number.{add, mul}
use Rattle.field.proofs.Product.{mul_comm}
use Rattle.rules.specs.Point.{γ}
use Rattle.corrections.specs.Correction.{correction_by}
use Rattle.corrections.proofs.correcting.correction.Goals as goal

-- the case that the tests pick is the correction
picked : (o : Ordering) (lost : Bool) (u d : ℕ) (paired : Bool) (own other : ℕ) → Compared o u d → paired ≡ lost
    → correction_by o lost own other ≡ correction_by (compare u d) paired own other
picked o lost u d paired own other h e = ap₂ (λ p b. correction_by p b own other) (sym (compare_only u d o h)) (sym e)

pub returns-then-u-d : goal.returns-then-u-d
unfolding correction_by
returns-then-u-d c =
    picked Ordering.eq c.args.paired c.args.u c.args.d c.args.paired c.args.own c.args.other c.if-u-d.true refl

pub returns-then-d-u : goal.returns-then-d-u
unfolding correction_by add γ
returns-then-d-u c =
    c.times.ensures.value
    ∙ mul_comm _ 244
    ∙ ap (λ x. mul 244 (bit_xor x c.args.other)) (c.double-scaled.ensures.value ∙ mul_comm c.args.own 2)
    ∙ picked Ordering.gt true c.args.u c.args.d c.args.paired c.args.own c.args.other c.if-d-u.true c.if-paired.true

pub returns-then-paired : goal.returns-then-paired
unfolding correction_by add
returns-then-paired c =
    c.times-then-paired.ensures.value
    ∙ mul_comm _ 244
    ∙ picked Ordering.lt true c.args.u c.args.d c.args.paired c.args.own c.args.other (omega arith) c.if-paired.true

pub returns-then-d-u-2 : goal.returns-then-d-u-2
unfolding correction_by
returns-then-d-u-2 c =
    picked Ordering.gt false c.args.u c.args.d c.args.paired c.args.own c.args.other c.if-d-u-2.true c.if-paired.false

pub returns : goal.returns
unfolding correction_by
returns c =
    c.times-2.ensures.value
    ∙ mul_comm _ 142
    ∙ picked Ordering.lt false c.args.u c.args.d c.args.paired c.args.own c.args.other (omega arith) c.if-paired.false

-- `weights::coupled` meets its contract: what the tests found is how the place compares with the digit, and γ is 2.
use Rattle.std.proofs.Common.{◌≡◌, ℕ, arith, sym, ap, ◌∙◌, bit_xor}
use Prim.Native.Nat.{compare, Ordering}
use Rattle.theory.specs.Pair.{Compared}
use Rattle.theory.proofs.Mates.{compare_only}
use Rattle.field.specs.Number.{add}
use Rattle.field.proofs.Product.{mul_comm}
use Rattle.rules.specs.Point.{γ}
use Rattle.rules.specs.Equation.{weighed}
use Rattle.weights.proofs.weighing.coupled.Goals as goal

-- the case that a true comparison picks is the weight
picked : (o : Ordering) (u d own other : ℕ) → Compared o u d → weighed o own other ≡ weighed (compare u d) own other
picked o u d own other h = ap (λ p. weighed p own other) (sym (compare_only u d o h))

pub returns-then-u-d : goal.returns-then-u-d
unfolding weighed
returns-then-u-d c = picked Ordering.eq c.args.u c.args.d c.args.own c.args.other c.if-u-d.true

pub returns-then-d-u : goal.returns-then-d-u
unfolding weighed add
returns-then-d-u c = picked Ordering.gt c.args.u c.args.d c.args.own c.args.other c.if-d-u.true

pub returns-else-d-u : goal.returns-else-d-u
unfolding weighed add γ
returns-else-d-u c =
    ap (λ x. bit_xor x c.args.other) (c.double.ensures.value ∙ mul_comm c.args.own 2)
    ∙ picked Ordering.lt c.args.u c.args.d c.args.own c.args.other (omega arith)

-- `tables::mul` meets its contract: where neither factor is 0, the power of 2 whose exponent is the sum of the logarithms is the product.
use mathlib.Core.Path.{sym, ap, ap₂, ◌∙◌}
use Rattle.field.specs.Number.{mul}
use Rattle.field.proofs.Product.{mul-zero, zero-mul}
use Rattle.field.proofs.Powers.{power-add}
use Rattle.tables.proofs.multiplying.mul.Goals as goal
use Rattle.tables.proofs.multiplying.mul.Goals.{then-a-eq0-via-then-a-eq0, then-a-eq0-via-else-a-eq0+then-b-eq0}

pub returns-then-a-eq0 : goal.returns-then-a-eq0
returns-then-a-eq0 c =
    elim c.then-a-eq0.branch [
      | then-a-eq0-via-then-a-eq0 w ↦ record { value = sym (ap (λ x. mul x c.args.b) w.if-a-eq0.true ∙ zero-mul c.args.b) }
      | then-a-eq0-via-else-a-eq0+then-b-eq0 w ↦ record { value = sym (ap (mul c.args.a) w.if-b-eq0.true ∙ mul-zero c.args.a) }
    ]

pub returns : goal.returns
returns c =
    record { value = c.power_of_two.ensures ∙ power-add 2 c.logarithm.result c.logarithm-2.result ∙ ap₂ mul c.logarithm.ensures.1 c.logarithm-2.ensures.1 }

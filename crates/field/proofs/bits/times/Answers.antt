-- `field::times` meets its contract: the product goes by the eight bits of the second factor.
use borrow.Author.Rules.{rules}
use Rattle.field.specs.Number.{add}
use Rattle.field.proofs.Product.{mul_eight_bits}
use Rattle.field.proofs.bits.times.Goals as goal

pub returns : goal.returns
unfolding add
returns c =
    record {
      value =
          mul_eight_bits c.args.a c.args.c (search rules)
          c.double-a1.ensures.value
          c.double-a2.ensures.value
          c.double-a3.ensures.value
          c.double-a4.ensures.value
          c.double-a5.ensures.value
          c.double-a6.ensures.value
          c.double-a7.ensures.value
          c.where_odd.ensures
          c.where_odd-2.ensures
          c.where_odd-3.ensures
          c.where_odd-4.ensures
          c.where_odd-5.ensures
          c.where_odd-6.ensures
          c.where_odd-7.ensures
          c.where_odd-8.ensures;
    }

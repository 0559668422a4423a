-- `field::double` meets its contract: `double-byte` says what doubling is on bytes.
use mathlib.Core.Path.{sym, ◌∙◌}
use Rattle.field.specs.Number.{add}
use Rattle.field.proofs.Product.{double-byte, mul_two}
use borrow.Author.Rules.{rules}
use Rattle.field.proofs.bits.double.Goals as goal

pub returns : goal.returns
unfolding add
returns c = record { value = sym (mul_two c.args.a (search rules) ∙ double-byte c.args.a (search rules)) }

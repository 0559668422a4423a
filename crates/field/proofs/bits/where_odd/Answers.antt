-- `field::where_odd` meets its contract: a bit times a byte is a byte.
use Rattle.field.proofs.Product.{bit_below}
use native.Mathlib.Omega.{arith}
use Prim.Native.Nat.{◌%◌}
use borrow.Author.Rules.{rules}
use Rattle.field.proofs.bits.where_odd.Goals as goal

pub overflow_mul-result : goal.overflow_mul-result
overflow_mul-result c = record { fits = bit_below (c.args.c % 2) c.args.x (omega arith) (search rules) }

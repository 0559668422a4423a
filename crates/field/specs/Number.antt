-- The numbers 0 to 255. Document 01, "Field, points and γ": addition is exclusive or, multiplication is that of polynomials with
-- bits as coefficients, bit 0 the constant term, modulo the polynomial whose bits make 285. Power 0 of every number is 1, of 0 too.
--   modulus    == 285, that is x⁸ + x⁴ + x³ + x² + 1
--   add a b    == the sum
--   double a   == the product of a and 2: a shifted by one bit, less the modulus where bit 7 of a is set
--   by_bits k x b == the sum, over the bits i < k of b that are set, of x doubled i times
--   mul a b    == the product. It reads the low eight bits of a and of b
--   power a t  == a to the power t
--   Divided a b q == q is the quotient of a and b, which isn't 0: the number whose product with b is a
-- This is the working definition of the product. `Polynomial` has the printed one, and `product-agrees` says that they are the same.
use Rattle.std.specs.Prelude.{◌≡◌, ℕ, zero, suc, ◌*◌, ◌/◌, ◌%◌, ◌<◌}
use Rattle.std.specs.Int.Bits.{bit_xor}

unfoldable pub modulus : ℕ
modulus = 285

unfoldable pub add : ℕ → ℕ → ℕ
add a b = bit_xor a b

unfoldable pub double : ℕ → ℕ
double a = add (a * 2) (a / 128 % 2 * modulus)

unfoldable pub by_bits : ℕ → ℕ → ℕ → ℕ
by_bits zero x b = 0
by_bits (suc k) x b = add (b % 2 * x) (by_bits k (double x) (b / 2))

unfoldable pub mul : ℕ → ℕ → ℕ
mul a b = by_bits 8 (a % 256) b

unfoldable pub power : ℕ → ℕ → ℕ
power a zero = 1
power a (suc t) = mul (power a t) a

pub record Divided (a b q : ℕ) : Type 0 where
  pub divisor : 0 < b
  pub small : q < 256
  pub value : mul q b ≡ a

-- The product as it is printed: polynomials with bits as coefficients, multiplied out, then divided by the polynomial of 285
-- (ISO/IEC 18004: x⁸ + x⁴ + x³ + x² + 1). Sums of polynomials are exclusive or.
--   coefficient n i == the coefficient of xⁱ in n: bit i
--   product k a b   == a times the terms of b below xᵏ: the sum over i < k of (coefficient of xⁱ in b) times a times xⁱ
--   without j n     == n, less the modulus times xʲ where n has a term x⁸⁺ʲ
--   remainder j n   == what the long division of n by the modulus leaves, for n of degree below 8 + j
--   printed a b     == the remainder of the product of a and b, for a and b of degree below 8
use Rattle.std.specs.Prelude.{ℕ, zero, suc, ◌+◌, ◌*◌, ◌/◌, ◌%◌, ◌^◌}
use Rattle.field.specs.Number.{modulus, add}

unfoldable pub coefficient : ℕ → ℕ → ℕ
coefficient n i = n / 2 ^ i % 2

unfoldable pub product : ℕ → ℕ → ℕ → ℕ
product zero a b = 0
product (suc k) a b = add (product k a b) (coefficient b k * (a * 2 ^ k))

unfoldable pub without : ℕ → ℕ → ℕ
without j n = add n (coefficient n (8 + j) * (modulus * 2 ^ j))

unfoldable pub remainder : ℕ → ℕ → ℕ
remainder zero n = n
remainder (suc j) n = remainder j (without j n)

unfoldable pub printed : ℕ → ℕ → ℕ
printed a b = remainder 7 (product 8 a b)

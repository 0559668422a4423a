-- The product that the crate works with is the printed one: polynomials multiplied out and divided by the modulus. Both keep sums in
-- each factor, so that 64 computed cases are enough.
use mathlib.Core.Path.{◌≡◌, refl, ap, ◌∙◌}
use Prim.Native.Nat.{ℕ, zero, suc, ◌+◌, ◌*◌, ◌/◌, ◌%◌, ◌^◌, ◌<◌}
use native.Mathlib.Omega.{arith}
use Rattle.field.specs.Number.{modulus, add, double, by_bits, mul}
use Rattle.field.specs.Polynomial.{coefficient, product, without, remainder, printed}
use Rattle.field.proofs.Xor.{sums, add_shr}
use Rattle.field.proofs.Linear.{Linear, Bilinear, linear_add, linear_shift, linear_bit, linear_times, agree₂}
use Rattle.field.proofs.Product.{mul_bilinear}

-- the coefficient of xⁱ, times a number
pub linear_coefficient : (i c : ℕ) → Linear (λ n. coefficient n i * c)
unfolding coefficient
linear_coefficient i c a b = ap (λ x. x % 2 * c) (add_shr i a b) ∙ linear_bit c (a / 2 ^ i) (b / 2 ^ i)

product-left : (k b : ℕ) → Linear (λ a. product k a b)
unfolding product coefficient
product-left zero b = λ x y. simp sums
product-left (suc k) b =
    linear_add (λ a. product k a b) (λ a. coefficient b k * (a * 2 ^ k)) (product-left k b)
    (λ x y. ap (λ z. coefficient b k * z) (linear_shift k x y) ∙ linear_times (coefficient b k) (omega arith) (x * 2 ^ k) (y * 2 ^ k))

pub product-right : (k a : ℕ) → Linear (product k a)
unfolding product
product-right zero a = λ x y. simp sums
product-right (suc k) a = linear_add (product k a) (λ b. coefficient b k * (a * 2 ^ k)) (product-right k a) (linear_coefficient k (a * 2 ^ k))

linear_without : (j : ℕ) → Linear (without j)
unfolding without
linear_without j =
    linear_add (λ n. n) (λ n. coefficient n (8 + j) * (modulus * 2 ^ j)) (λ x y. refl)
    (linear_coefficient (8 + j) (modulus * 2 ^ j))

linear_remainder : (j : ℕ) → Linear (remainder j)
unfolding remainder
linear_remainder zero x y = refl
linear_remainder (suc j) x y = ap (remainder j) (linear_without j x y) ∙ linear_remainder j (without j x) (without j y)

printed_bilinear : Bilinear printed
unfolding printed
printed_bilinear = record {
  left = λ b x y. ap (remainder 7) (product-left 8 b x y) ∙ linear_remainder 7 (product 8 x b) (product 8 y b);
  right = λ a x y. ap (remainder 7) (product-right 8 a x y) ∙ linear_remainder 7 (product 8 a x) (product 8 a y);
}

pub product-agrees : (a b : ℕ) → a < 256 → b < 256 → mul a b ≡ printed a b
unfolding mul by_bits double add modulus printed product coefficient remainder without
product-agrees = agree₂ mul printed mul_bilinear printed_bilinear 8 tt

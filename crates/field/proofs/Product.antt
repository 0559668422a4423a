-- Laws of the product. Those of a ring hold for every number, since the product reads the low eight bits alone; only what gives a
-- number back, as `mul-one`, wants it below 256. In order: doubling; the product keeps sums in each factor; it reads eight bits;
-- commutative, associative; unit; the product by the eight bits of one factor, as `times` has it.
-- Not here: inverses and powers (`Inverses`, `Powers`).
use mathlib.Core.Path.{◌≡◌, refl, ap, ◌∙◌}
use Prim.Native.Nat.{ℕ, zero, suc, ◌*◌, ◌/◌, ◌%◌, ◌^◌, ◌<◌}
use native.Mathlib.Nat as N
use native.Mathlib.Omega.{arith}
use native.Mathlib.Numerals.{add-one}
use lib.Pow.{mod-mod-pow, field}
use Rattle.field.specs.Number.{modulus, add, double, by_bits, mul}
use Rattle.field.proofs.Xor.{sums, add-below, add_shr, add-mod}
use Rattle.field.proofs.Linear.{Linear, linear_zero, linear_add, linear_shift, linear_bit, linear_times, Bilinear, Trilinear, agree₁, agree₂, agree₃}
use Rattle.field.proofs.Tests.{all-equal}

-- doubling with bytes alone: the bits below bit 7 shifted, and 29 where bit 7 is set
pub double-byte : (a : ℕ) → a < 256 → double a ≡ add (a % 128 * 2) (a / 128 * 29)
unfolding double add modulus
double-byte = all-equal (λ a. double a) (λ a. add (a % 128 * 2) (a / 128 * 29)) 256 tt

pub double-below : (a : ℕ) → a < 256 → double a < 256
double-below a h = rw (double-byte a h) (add-below 8 (a % 128 * 2) (a / 128 * 29) (omega arith) (omega arith))

pub linear_double : Linear double
unfolding double
linear_double =
    linear_add (λ a. a * 2) (λ a. a / 128 % 2 * modulus) (linear_shift 1)
    (λ a b. ap (λ x. x % 2 * modulus) (add_shr 7 a b) ∙ linear_bit modulus (a / 128) (b / 128))

by_bits-suc : (k x b : ℕ) → by_bits (suc k) x b ≡ add (b % 2 * x) (by_bits k (double x) (b / 2))
unfolding by_bits
by_bits-suc k x b = refl

by_bits-zero : (x b : ℕ) → by_bits 0 x b ≡ 0
unfolding by_bits
by_bits-zero x b = refl

by_bits_linear_left : (k b : ℕ) → Linear (λ x. by_bits k x b)
by_bits_linear_left zero b x y = simp (by_bits-zero, sums)
by_bits_linear_left (suc k) b x y =
    simp (by_bits-suc, linear_double x y, by_bits_linear_left k (b / 2) (double x) (double y), linear_times (b % 2) (omega arith) x y, sums)

by_bits_linear_right : (k x : ℕ) → Linear (λ b. by_bits k x b)
by_bits_linear_right zero x a b = simp (by_bits-zero, sums)
by_bits_linear_right (suc k) x a b =
    simp (by_bits-suc, linear_bit x a b, add_shr 1 a b, by_bits_linear_right k (double x) (a / 2) (b / 2), sums)

pub add-mul : (a b c : ℕ) → mul (add a b) c ≡ add (mul a c) (mul b c)
unfolding mul
add-mul a b c = rw (add-mod 8 a b) (by_bits_linear_left 8 c (a % 256) (b % 256))

pub mul-add : (a b c : ℕ) → mul a (add b c) ≡ add (mul a b) (mul a c)
unfolding mul
mul-add a b c = by_bits_linear_right 8 (a % 256) b c

pub mul-zero : (a : ℕ) → mul a 0 ≡ 0
mul-zero a = linear_zero (mul a) (mul-add a)

pub zero-mul : (b : ℕ) → mul 0 b ≡ 0
zero-mul b = linear_zero (λ a. mul a b) (λ x y. add-mul x y b)

pub bit_below : (q x : ℕ) → q < 2 → x < 256 → q * x < 256
bit_below zero x h k = omega arith
bit_below (suc zero) x h k = omega arith
bit_below (suc (suc q)) x h k = absurd (omega arith)

by_bits-below : (k x b : ℕ) → x < 256 → by_bits k x b < 256
by_bits-below zero x b h = rw by_bits-zero (omega arith)
by_bits-below (suc k) x b h =
    rw by_bits-suc
    (add-below 8 (b % 2 * x) (by_bits k (double x) (b / 2)) (bit_below (b % 2) x (omega arith) h)
    (by_bits-below k (double x) (b / 2) (double-below x h)))

pub mul-below : (a b : ℕ) → mul a b < 256
unfolding mul
mul-below a b = by_bits-below 8 (a % 256) b (omega arith)

by_bits-low : (k x b : ℕ) → by_bits k x (b % 2 ^ k) ≡ by_bits k x b
by_bits-low zero x b = simp by_bits-zero
by_bits-low (suc k) x b =
    simp (by_bits-suc, ← add-one k, mod-mod-pow b k 1, field b k 1, by_bits-low k (double x) (b / 2))

-- the product reads eight bits of each factor
pub mul_low : (a b : ℕ) → mul a (b % 256) ≡ mul a b
unfolding mul
mul_low a b = by_bits-low 8 (a % 256) b

pub low-mul : (a b : ℕ) → mul (a % 256) b ≡ mul a b
unfolding mul
low-mul a b =
    let e : a % 256 % 256 ≡ a % 256 = omega arith in
    ap (λ x. by_bits 8 x b) e

pub mul_bilinear : Bilinear mul
mul_bilinear = record { left = λ c a b. add-mul a b c; right = mul-add }

swapped_bilinear : Bilinear (λ a b. mul b a)
swapped_bilinear = record { left = mul-add; right = λ c a b. add-mul a b c }

comm_byte : (a b : ℕ) → a < 256 → b < 256 → mul a b ≡ mul b a
unfolding mul by_bits double add modulus
comm_byte = agree₂ mul (λ a b. mul b a) mul_bilinear swapped_bilinear 8 tt

pub mul_comm : (a b : ℕ) → mul a b ≡ mul b a
mul_comm a b = simp (mul_low, low-mul) at (comm_byte (a % 256) (b % 256) (omega arith) (omega arith))

left_trilinear : Trilinear (λ a b c. mul (mul a b) c)
left_trilinear = record {
  first = λ b c x y. ap (λ z. mul z c) (add-mul x y b) ∙ add-mul (mul x b) (mul y b) c;
  rest = λ a. record {
    left = λ c x y. ap (λ z. mul z c) (mul-add a x y) ∙ add-mul (mul a x) (mul a y) c;
    right = λ b. mul-add (mul a b);
  };
}

right_trilinear : Trilinear (λ a b c. mul a (mul b c))
right_trilinear = record {
  first = λ b c x y. add-mul x y (mul b c);
  rest = λ a. record {
    left = λ c x y. ap (mul a) (add-mul x y c) ∙ mul-add a (mul x c) (mul y c);
    right = λ b x y. ap (mul a) (mul-add b x y) ∙ mul-add a (mul b x) (mul b y);
  };
}

assoc_byte : (a b c : ℕ) → a < 256 → b < 256 → c < 256 → mul (mul a b) c ≡ mul a (mul b c)
unfolding mul by_bits double add modulus
assoc_byte = agree₃ (λ a b c. mul (mul a b) c) (λ a b c. mul a (mul b c)) left_trilinear right_trilinear 8 tt

pub mul_assoc : (a b c : ℕ) → mul (mul a b) c ≡ mul a (mul b c)
mul_assoc a b c =
    simp (mul_low, low-mul) at (assoc_byte (a % 256) (b % 256) (c % 256) (omega arith) (omega arith) (omega arith))

pub mul-one : (a : ℕ) → a < 256 → mul a 1 ≡ a
unfolding mul by_bits double add modulus
mul-one = agree₁ (λ a. mul a 1) (λ a. a) (λ x y. add-mul x y 1) (λ x y. refl) 8 tt

pub one-mul : (a : ℕ) → a < 256 → mul 1 a ≡ a
one-mul a h = mul_comm 1 a ∙ mul-one a h

pub mul_two : (a : ℕ) → a < 256 → mul a 2 ≡ double a
unfolding mul by_bits double add modulus
mul_two = agree₁ (λ a. mul a 2) double (λ x y. add-mul x y 2) linear_double 8 tt

-- the product by the bits of one factor, where each doubling is a product by 2
unfoldable pub bit_sum : ℕ → ℕ → ℕ → ℕ
bit_sum zero x b = 0
bit_sum (suc k) x b = add (b % 2 * x) (bit_sum k (mul x 2) (b / 2))

by_bits-sum : (k x b : ℕ) → x < 256 → by_bits k x b ≡ bit_sum k x b
unfolding bit_sum
by_bits-sum zero x b h = by_bits-zero x b
by_bits-sum (suc k) x b h =
    rw (by_bits-suc, ← mul_two x h) (ap (add (b % 2 * x)) (by_bits-sum k (mul x 2) (b / 2) (mul-below x 2)))

pub mul-bits : (a b : ℕ) → a < 256 → mul a b ≡ bit_sum 8 a b
unfolding mul
mul-bits a b h =
    let e : a % 256 ≡ a = omega arith in
    ap (λ x. by_bits 8 x b) e ∙ by_bits-sum 8 a b h

eight_bits : (a b : ℕ) → a < 256
    → let a1 = mul a 2 in
    let a2 = mul a1 2 in
    let a3 = mul a2 2 in
    let a4 = mul a3 2 in
    let a5 = mul a4 2 in
    let a6 = mul a5 2 in
    let a7 = mul a6 2 in
    mul a b
    ≡ add (add (add (add (b % 2 * a) (b / 2 % 2 * a1)) (b / 4 % 2 * a2)) (b / 8 % 2 * a3))
    (add (add (add (b / 16 % 2 * a4) (b / 32 % 2 * a5)) (b / 64 % 2 * a6)) (b / 128 % 2 * a7))
unfolding bit_sum
eight_bits a b h = mul-bits a b h ∙ simp (N.div-div-eq-div-mul, sums)

-- the same step by step: seven doublings, eight terms, and their sum
pub mul_eight_bits : (a b : ℕ) {a1 a2 a3 a4 a5 a6 a7 b0 b1 b2 b3 b4 b5 b6 b7 : ℕ} → a < 256
    → a1 ≡ mul a 2
    → a2 ≡ mul a1 2
    → a3 ≡ mul a2 2
    → a4 ≡ mul a3 2
    → a5 ≡ mul a4 2
    → a6 ≡ mul a5 2
    → a7 ≡ mul a6 2
    → b0 ≡ b % 2 * a
    → b1 ≡ b / 2 % 2 * a1
    → b2 ≡ b / 4 % 2 * a2
    → b3 ≡ b / 8 % 2 * a3
    → b4 ≡ b / 16 % 2 * a4
    → b5 ≡ b / 32 % 2 * a5
    → b6 ≡ b / 64 % 2 * a6
    → b7 ≡ b / 128 % 2 * a7
    → add (add (add (add b0 b1) b2) b3) (add (add (add b4 b5) b6) b7) ≡ mul a b
mul_eight_bits a b h p1 p2 p3 p4 p5 p6 p7 q0 q1 q2 q3 q4 q5 q6 q7 = cc (eight_bits a b h)

-- The numbers 0 to 255 are a field of characteristic 2 in theory's sense. The instance is sealed: outside this file it is known by the
-- names below alone, so that goals over it stay readable.
--   numbers  == the field
--   number n == the element that n stands for: its low eight bits
--   value x  == the number below 256 that an element is
-- In order: the carrier; the field; `number` and `value` undo one another; they keep 0, 1, sums, products, powers and quotients;
-- cancelling; γ = 2.
use mathlib.Core.Path.{◌≡◌, refl, sym, ap, ◌∙◌}
use mathlib.Core.HLevel.{is_prop→PathP}
use Prim.Native.Nat.{ℕ, zero, suc, ◌%◌, ◌<◌}
use native.Mathlib.Bridge.{le_prop}
use native.Mathlib.Nat.{mod-eq_of_lt}
use native.Mathlib.Omega.{arith}
use Rattle.theory.specs.Field.{Field}
use Rattle.theory.specs.Power as theory
use Rattle.theory.proofs.Ring.{mul_cancel_right}
use Rattle.field.specs.Number.{add, mul, power, Divided}
use Rattle.field.proofs.Xor.{add_assoc, add_comm, add-zero, add_self, add-below, add-mod}
use Rattle.field.proofs.Product.{mul-below, mul_assoc, mul_comm, mul-one, mul-add, mul_low, low-mul}
use Rattle.field.proofs.Inverses.{inverse, inverse-below, mul-inverse}

record Byte : Type 0 where
  at : ℕ
  small : at < 256

byte_path : {x y : Byte} → x.at ≡ y.at → x ≡ y
byte_path {x} {y} p = λ i. record {
  at = p i;
  small = is_prop→PathP (λ j. p j < 256) (λ j. le_prop {n = suc (p j)} {m = 256}) x.small y.small i;
}

byte : ℕ → Byte
byte n = record { at = n % 256; small = omega arith }

sum_of : Byte → Byte → Byte
sum_of x y = record { at = add x.at y.at; small = add-below 8 x.at y.at x.small y.small }

product_of : Byte → Byte → Byte
product_of x y = record { at = mul x.at y.at; small = mul-below x.at y.at }

inverse_of : Byte → Byte
inverse_of x = record { at = inverse x.at; small = inverse-below x.at }

positive : (x : Byte) → (x ≡ byte 0 → ⊥) → 0 < x.at
unfolding byte
positive x n = go x.at refl
  where
    go : (k : ℕ) → x.at ≡ k → 0 < x.at
    go zero e = absurd (n (byte_path e))
    go (suc k) e = omega arith

pub numbers : Field
unfolding byte sum_of product_of inverse_of
numbers = record {
  K = Byte;
  zero = byte 0;
  one = byte 1;
  add = sum_of;
  mul = product_of;
  inverse = inverse_of;
  add_assoc = λ x y z. byte_path (add_assoc x.at y.at z.at);
  add_comm = λ x y. byte_path (add_comm x.at y.at);
  add-zero = λ x. byte_path (add-zero x.at);
  add_self = λ x. byte_path (add_self x.at);
  mul_assoc = λ x y z. byte_path (mul_assoc x.at y.at z.at);
  mul_comm = λ x y. byte_path (mul_comm x.at y.at);
  mul-one = λ x. byte_path (mul-one x.at x.small);
  mul-add = λ x y z. byte_path (mul-add x.at y.at z.at);
  one_not_zero = λ e. let z : ◌≡◌ {A = ℕ} 1 0 = ap (λ (x : Byte). x.at) e in omega arith;
  mul-inverse = λ x n. byte_path (mul-inverse x.at (positive x n) x.small);
}

pub number : ℕ → numbers.K
unfolding numbers
number n = byte n

pub value : numbers.K → ℕ
unfolding numbers
value x = x.at

pub value-below : (x : numbers.K) → value x < 256
unfolding numbers value
value-below x = x.small

pub value-number : (n : ℕ) → n < 256 → value (number n) ≡ n
unfolding numbers value number byte
value-number n h = mod-eq_of_lt h

pub number-value : (x : numbers.K) → number (value x) ≡ x
unfolding numbers value number byte
number-value x = byte_path (mod-eq_of_lt x.small)

pub number_injective : (a b : ℕ) → a < 256 → b < 256 → number a ≡ number b → a ≡ b
number_injective a b ha hb e = sym (value-number a ha) ∙ ap value e ∙ value-number b hb

pub number-zero : number 0 ≡ numbers.zero
unfolding numbers number
number-zero = refl

pub number-one : number 1 ≡ numbers.one
unfolding numbers number
number-one = refl

pub number-add : (a b : ℕ) → number (add a b) ≡ numbers.add (number a) (number b)
unfolding numbers number byte sum_of
number-add a b = byte_path (add-mod 8 a b)

pub number-mul : (a b : ℕ) → number (mul a b) ≡ numbers.mul (number a) (number b)
unfolding numbers number byte product_of
number-mul a b = byte_path (mod-eq_of_lt (mul-below a b) ∙ sym (low-mul a (b % 256) ∙ mul_low a b))

pub value-add : (x y : numbers.K) → value (numbers.add x y) ≡ add (value x) (value y)
unfolding numbers value sum_of
value-add x y = refl

pub value-mul : (x y : numbers.K) → value (numbers.mul x y) ≡ mul (value x) (value y)
unfolding numbers value product_of
value-mul x y = refl

pub number-power : (a t : ℕ) → number (power a t) ≡ theory.power numbers (number a) t
unfolding power theory.power
number-power a zero = number-one
number-power a (suc t) = number-mul (power a t) a ∙ ap (λ x. numbers.mul x (number a)) (number-power a t)

pub number_not_zero : (a : ℕ) → 0 < a → a < 256 → number a ≡ numbers.zero → ⊥
number_not_zero a h k e =
    let z : a ≡ 0 = number_injective a 0 k (omega arith) (e ∙ sym number-zero) in
    omega arith

pub mul_cancel : (a b c : ℕ) → a < 256 → b < 256 → 0 < c → c < 256 → mul a c ≡ mul b c → a ≡ b
mul_cancel a b c ha hb h k e =
    number_injective a b ha hb
    (mul_cancel_right numbers (number c) (number_not_zero c h k) (sym (number-mul a c) ∙ ap number e ∙ number-mul b c))

-- a quotient, in the field's words
pub number-quotient : (a b q : ℕ) → b < 256 → Divided a b q → number q ≡ numbers.mul (number a) (numbers.inverse (number b))
number-quotient a b q h d =
    sym (numbers.mul-one (number q))
    ∙ ap (numbers.mul (number q)) (sym (numbers.mul-inverse (number b) (number_not_zero b d.divisor h)))
    ∙ sym (numbers.mul_assoc (number q) (number b) (numbers.inverse (number b)))
    ∙ ap (λ x. numbers.mul x (numbers.inverse (number b))) (sym (number-mul q b) ∙ ap number d.value)

-- γ = 2 is neither 0 nor 1
pub two_not_zero : number 2 ≡ numbers.zero → ⊥
two_not_zero = number_not_zero 2 (omega arith) (omega arith)

pub two_not_one : number 2 ≡ numbers.one → ⊥
two_not_one e =
    let z : ◌≡◌ {A = ℕ} 2 1 = number_injective 2 1 (omega arith) (omega arith) (e ∙ sym number-one) in
    omega arith

-- The long division of `Polynomial` is a division: what it leaves has degree below 8, and differs from n by a multiple of the modulus.
-- In order: the degree (`remainder-below`); the quotient (`division`); the same said of `mul` (`mul_modulo`).
use mathlib.Core.Path.{◌≡◌, refl, sym, ap, ap₂, ◌∙◌}
use Prim.Native.Nat.{ℕ, zero, suc, ◌+◌, ◌-◌, ◌*◌, ◌/◌, ◌%◌, ◌^◌, ◌<◌, ◌≤◌}
use native.Mathlib.Nat as N
use native.Mathlib.Omega.{arith}
use lib.Bits.{bit_xor, xor_block, shifted_even}
use lib.Pow.{pow_pos, pow-add, split, shr_lt, shl-shr}
use Rattle.field.specs.Number.{modulus, add, mul}
use Rattle.field.specs.Polynomial.{coefficient, product, without, remainder, printed}
use Rattle.field.proofs.Xor.{sums, add-zero, zero-add, add-below}
use Rattle.field.proofs.Printed.{linear_coefficient, product-right, product-agrees}

-- where both have a term xᵏ, their sum has none
same_top : (k r s : ℕ) → r < 2 ^ k → s < 2 ^ k → add (1 * 2 ^ k + r) (1 * 2 ^ k + s) ≡ add r s
unfolding add
same_top k r s hr hs = xor_block k 1 1 r s hr hs ∙ ap (λ x. x + bit_xor r s) (N.zero-mul (2 ^ k)) ∙ N.zero-add (bit_xor r s)

top_gone : (k q r s : ℕ) → q < 2 → r < 2 ^ k → s < 2 ^ k → add (q * 2 ^ k + r) (q * (1 * 2 ^ k + s)) < 2 ^ k
top_gone k zero r s h hr hs = rw (N.zero-mul (2 ^ k), N.zero-mul (1 * 2 ^ k + s), N.zero-add r, add-zero r) hr
top_gone k (suc zero) r s h hr hs = rw (N.one-mul (1 * 2 ^ k + s), same_top k r s hr hs) (add-below k r s hr hs)
top_gone k (suc (suc q)) r s h hr hs = absurd (omega arith)

without-below : (j n : ℕ) → n < 2 ^ (8 + suc j) → without j n < 2 ^ (8 + j)
unfolding without coefficient modulus
without-below j n h =
    let k = 8 + j in
    let q = n / 2 ^ k in
    let e : 1 + k ≡ 8 + suc j = omega arith in
    let b : q < 2 = shr_lt 1 k (rw e h) in
    let p : 0 < 2 ^ j = pow_pos j in
    let m : modulus * 2 ^ j ≡ 1 * 2 ^ k + 29 * 2 ^ j = omega (arith, pow-add 2 8 j) in
    let l : 29 * 2 ^ j < 2 ^ k = omega (arith, pow-add 2 8 j) in
    rw (ap₂ add (sym (split n k)) (ap₂ (λ x y. x * y) (N.mod-eq_of_lt b) m))
    (top_gone k q (n % 2 ^ k) (29 * 2 ^ j) b (N.mod-lt n (pow_pos k)) l)

pub remainder-below : (j n : ℕ) → n < 2 ^ (8 + j) → remainder j n < 256
unfolding remainder
remainder-below zero n h = h
remainder-below (suc j) n h = remainder-below j (without j n) (without-below j n h)

-- a multiple of xʲ has no lower terms
no_lower : (c j i : ℕ) → i < j → coefficient (c * 2 ^ j) i ≡ 0
unfolding coefficient
no_lower c j i h =
    let d = j - suc i in
    let e : suc d + i ≡ j = omega arith in
    ap (λ x. c * 2 ^ x / 2 ^ i % 2) (sym e)
    ∙ ap (λ x. c * x / 2 ^ i % 2) (pow-add 2 (suc d) i)
    ∙ ap (λ x. x / 2 ^ i % 2) (sym (N.mul_assoc c (2 ^ suc d) (2 ^ i)))
    ∙ ap (λ x. x % 2) (shl-shr (c * 2 ^ suc d) i)
    ∙ shifted_even c d

own-term : (c j : ℕ) → c < 2 → coefficient (c * 2 ^ j) j ≡ c
unfolding coefficient
own-term c j h = ap (λ x. x % 2) (shl-shr c j) ∙ N.mod-eq_of_lt h

no_upper : (q j : ℕ) → q < 2 ^ j → coefficient q j ≡ 0
unfolding coefficient
no_upper q j h = ap (λ x. x % 2) (N.div-eq_of_lt h)

product_no_lower : (k j a c : ℕ) → k ≤ j → product k a (c * 2 ^ j) ≡ 0
unfolding product
product_no_lower zero j a c h = refl
product_no_lower (suc k) j a c h = simp (product_no_lower k j a c (omega arith), no_lower c j k h, N.zero-mul, add-zero)

-- a quotient of n, for n of degree below 8 + j
pub record Division (j n : ℕ) : Type 0 where
  pub quotient : ℕ
  pub small : quotient < 2 ^ j
  pub whole : n ≡ add (product j modulus quotient) (remainder j n)

-- one more term of the quotient
product_top : (j a c q : ℕ) → c < 2 → q < 2 ^ j → product (suc j) a (add (c * 2 ^ j) q) ≡ add (product j a q) (c * (a * 2 ^ j))
unfolding product
product_top j a c q hc hq =
    simp (
      product-right j a (c * 2 ^ j) q,
      linear_coefficient j (a * 2 ^ j) (c * 2 ^ j) q,
      product_no_lower j j a c (omega arith),
      own-term c j hc,
      no_upper q j hq,
      N.zero-mul,
      zero-add,
      add-zero,
    )

coefficient-below : (n i : ℕ) → coefficient n i < 2
unfolding coefficient
coefficient-below n i = omega arith

-- a term of one side, taken to the other
term-over : (n x p r : ℕ) → add n x ≡ add p r → n ≡ add (add p x) r
term-over n x p r e =
    let a : n ≡ add (add n x) x = simp sums in
    let b : add (add p r) x ≡ add (add p x) r = simp sums in
    a ∙ ap (λ y. add y x) e ∙ b

divide-step : (j n : ℕ) → Division j (without j n) → Division (suc j) n
unfolding remainder without
divide-step j n d =
    let q = d.quotient in
    let c = coefficient n (8 + j) in
    let b : c < 2 = coefficient-below n (8 + j) in
    let l : q < 2 ^ j = d.small in
    record {
      quotient = add (c * 2 ^ j) q;
      small = add-below (suc j) (c * 2 ^ j) q (omega (arith, N.pow-suc 2 j, N.mul-lt-mul_of_pos_right b (pow_pos j))) (omega (arith, N.pow-suc 2 j));
      whole = rw (product_top j modulus c q b l) (term-over n (c * (modulus * 2 ^ j)) (product j modulus q) (remainder j (without j n)) d.whole);
    }

pub division : (j n : ℕ) → Division j n
unfolding product remainder
division zero n = record { quotient = 0; small = omega arith; whole = sym (zero-add n) }
division (suc j) n = divide-step j n (division j (without j n))

-- the product, which `mul-below` says has degree below 8, differs from what is multiplied out by a multiple of the modulus
pub mul_modulo : (a b : ℕ) → a < 256 → b < 256 → (q : ℕ) × (product 8 a b ≡ add (product 7 modulus q) (mul a b))
unfolding printed
mul_modulo a b ha hb =
    let d = division 7 (product 8 a b) in
    (d.quotient, d.whole ∙ ap (add (product 7 modulus d.quotient)) (sym (product-agrees a b ha hb)))

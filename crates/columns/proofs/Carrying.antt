-- A digit carried along from row to row, with no division. In order: quotient and remainder of the next number; what a digit counts; the digit and
-- what lies below it are small; the next row, where only what lies below the digit changes, where the digit is one more, and where it starts from 0 again.
--   Carried s w a d j == d is row a's digit to base s that counts w, and j what the digits below it count
-- Assumes nothing.
use mathlib.Core.Path.{◌≡◌, sym, ap, ◌∙◌}
use Prim.Native.Nat.{ℕ, ◌+◌, ◌*◌, ◌/◌, ◌%◌, ◌<◌, ◌≤◌}
use native.Mathlib.Nat.{div-add-mod', div-mul-le_self, le_trans, mod-le, mod-lt, mul-le-mul_right}
use native.Mathlib.Omega.{arith}
use lib.Arith.{digits_div, digits_mod}

pub record Carried (s w a d j : ℕ) : Type 0 where
  pub digit : d ≡ a / w % s
  pub below : j ≡ a % w

next-within : (x b : ℕ) → x % b + 1 < b → ((x + 1) / b ≡ x / b) × ((x + 1) % b ≡ x % b + 1)
next-within x b h =
    let e : x + 1 ≡ x / b * b + (x % b + 1) = omega (arith, div-add-mod' x b) in
    (ap (λ (y : ℕ). y / b) e ∙ digits_div (x / b) h, ap (λ (y : ℕ). y % b) e ∙ digits_mod (x / b) h)

next-over : (x b : ℕ) → x % b + 1 ≡ b → ((x + 1) / b ≡ x / b + 1) × ((x + 1) % b ≡ 0)
next-over x b h =
    let some : 0 < b = omega (arith, h) in
    let e : x + 1 ≡ (x / b + 1) * b + 0 = omega (arith, div-add-mod' x b, h) in
    (ap (λ (y : ℕ). y / b) e ∙ digits_div (x / b + 1) some, ap (λ (y : ℕ). y % b) e ∙ digits_mod (x / b + 1) some)

-- what a digit counts is at most the number
pub digit-most : (a w s : ℕ) → a / w % s * w ≤ a
digit-most a w s = le_trans (mul-le-mul_right w (mod-le (a / w) s)) (div-mul-le_self a w)

-- the same with other names for the two
pub carried_as : {s w a d j e k : ℕ} → e ≡ d → k ≡ j → Carried s w a d j → Carried s w a e k
carried_as p q h = record { digit = p ∙ h.digit; below = q ∙ h.below }

module _ {s w a d j : ℕ} (was : Carried s w a d j) where
  pub digit-small : 0 < s → d < s
  digit-small some = omega (arith, was.digit, mod-lt (a / w) some)

  pub below-small : 0 < w → j < w
  below-small some = omega (arith, was.below, mod-lt a some)

  pub carried-within : 0 < w → (j + 1 ≡ w → ⊥) → Carried s w (a + 1) d (j + 1)
  carried-within some ne =
      let next = next-within a w (omega (arith, was.below, below-small some, ne)) in
      record { digit = was.digit ∙ ap (λ (y : ℕ). y % s) (sym next.0); below = omega (arith, was.below, next.1) }

  pub carried-over : 0 < s → j + 1 ≡ w → (d + 1 ≡ s → ⊥) → Carried s w (a + 1) (d + 1) 0
  carried-over some e ne =
      let next = next-over a w (omega (arith, was.below, e)) in
      let up = next-within (a / w) s (omega (arith, was.digit, digit-small some, ne)) in
      record {
        digit = ap (λ (y : ℕ). y + 1) was.digit ∙ sym up.1 ∙ ap (λ (y : ℕ). y % s) (sym next.0);
        below = sym next.1;
      }

  pub carried-around : j + 1 ≡ w → d + 1 ≡ s → Carried s w (a + 1) 0 0
  carried-around e f =
      let next = next-over a w (omega (arith, was.below, e)) in
      let up = next-over (a / w) s (omega (arith, was.digit, f)) in
      record { digit = sym up.1 ∙ ap (λ (y : ℕ). y % s) (sym next.0); below = sym next.1 }

-- What each public function promises settles its result: two results that one promise allows are equal. And for each, two wrong
-- answers that the promise rules out. In order: `add`, `double`, `times`.
use mathlib.Core.Path.{◌≡◌, sym, ◌∙◌}
use Prim.Native.Nat.{ℕ}
use native.Mathlib.Omega.{arith}
use Rattle.field.specs.Number.{modulus, add, double, by_bits, mul}
use Rattle.field.specs.Promise.{SumIs, DoubleIs, ProductIs}

pub add_settled : (a b r s : ℕ) → SumIs a b r → SumIs a b s → r ≡ s
add_settled a b r s p q = p.value ∙ sym q.value

-- no carry: 3 + 1 is 2
pub add_carries : SumIs 3 1 4 → ⊥
unfolding add
add_carries p = let e : ◌≡◌ {A = ℕ} 4 2 = p.value in omega arith

-- no sum modulo 256: 255 + 1 is 254
pub add_wraps : SumIs 255 1 0 → ⊥
unfolding add
add_wraps p = let e : ◌≡◌ {A = ℕ} 0 254 = p.value in omega arith

pub double_settled : (a r s : ℕ) → DoubleIs a r → DoubleIs a s → r ≡ s
double_settled a r s p q = p.value ∙ sym q.value

-- bit 7 is not lost: 128 × 2 is 29
pub double_shifts : DoubleIs 128 0 → ⊥
unfolding mul by_bits double add modulus
double_shifts p = let e : ◌≡◌ {A = ℕ} 0 29 = p.value in omega arith

-- not the polynomial of 283
pub double-otherwise : DoubleIs 128 27 → ⊥
unfolding mul by_bits double add modulus
double-otherwise p = let e : ◌≡◌ {A = ℕ} 27 29 = p.value in omega arith

pub times_settled : (a c r s : ℕ) → ProductIs a c r → ProductIs a c s → r ≡ s
times_settled a c r s p q = p.value ∙ sym q.value

-- 7 × 0 is 0
pub times_keeps : ProductIs 7 0 7 → ⊥
unfolding mul by_bits double add modulus
times_keeps p = let e : ◌≡◌ {A = ℕ} 7 0 = p.value in omega arith

-- every bit of the second factor counts: 3 × 244 is 1, and 3 × 116 is 156
pub times_seven_bits : ProductIs 3 244 156 → ⊥
unfolding mul by_bits double add modulus
times_seven_bits p = let e : ◌≡◌ {A = ℕ} 156 1 = p.value in omega arith

-- What each public function promises settles its result: two results that one promise allows are equal. And for each, two wrong
-- answers that the promise rules out. `mul` has the promise of `times` of crate `field`, so that both have one value.
-- In order: `mul`, `power`, `divide`.
use mathlib.Core.Path.{◌≡◌, sym, ap, ◌∙◌}
use Prim.Native.Nat.{ℕ, ◌<◌}
use native.Mathlib.Omega.{arith}
use Rattle.field.specs.Number.{modulus, add, double, by_bits, mul, power}
use Rattle.field.specs.Promise.{ProductIs}
use Rattle.field.proofs.Numbers.{mul_cancel}
use Rattle.field.proofs.Settled.{times_settled}
use Rattle.tables.specs.Promise.{PowerIs, QuotientIs}
use Rattle.std.specs.Prelude.{Result, Ok, Err}
use Rattle.rules.specs.declared.refusals.Refusal.{Refusal}
use Rattle.rules.specs.declared.refusals.Refusal.TheVariants.{BadLayout}
use Rattle.rules.proofs.Numbers.{number_of-injective}

pub mul_settled : (a b r s : ℕ) → ProductIs a b r → ProductIs a b s → r ≡ s
mul_settled = times_settled

-- 2 × 142 is 1
pub mul_writes_zero : ProductIs 2 142 0 → ⊥
unfolding mul by_bits double add modulus
mul_writes_zero p = let e : ◌≡◌ {A = ℕ} 0 1 = p.value in omega arith

-- a sum is no product: 16 × 16 is 29
pub mul_adds : ProductIs 16 16 0 → ⊥
unfolding mul by_bits double add modulus
mul_adds p = let e : ◌≡◌ {A = ℕ} 0 29 = p.value in omega arith

pub power_settled : (a t r s : ℕ) → PowerIs a t r → PowerIs a t s → r ≡ s
power_settled a t r s p q = p.value ∙ sym q.value

-- power 0 of 0 is 1
pub power_0_of_0 : PowerIs 0 0 0 → ⊥
unfolding power
power_0_of_0 p = let e : ◌≡◌ {A = ℕ} 0 1 = p.value in omega arith

-- 2 to the power 8 is 29
pub power_shifts : PowerIs 2 8 0 → ⊥
unfolding power mul by_bits double add modulus
power_shifts p = let e : ◌≡◌ {A = ℕ} 0 29 = p.value in omega arith

pub divide_settled : (a b : ℕ) → b < 256 → (q r : Result ℕ Refusal) → QuotientIs a b q → QuotientIs a b r → q ≡ r
divide_settled a b h (Ok x) (Ok y) p q =
    ap Ok (mul_cancel x y b p.small q.small p.divisor h (p.value ∙ sym q.value))
divide_settled a b h (Ok x) (Err n) p q = absurd (omega arith)
divide_settled a b h (Err m) (Ok y) p q = absurd (omega arith)
divide_settled a b h (Err m) (Err n) p q = ap Err (number_of-injective m n (p.number ∙ sym q.number))

-- no number is answered for a division by 0
pub divide-answers : (a q : ℕ) → QuotientIs a 0 (Ok q) → ⊥
divide-answers a q p = omega arith

-- nothing else is refused: 1 / 2 is 142
pub divide_refuses : (n : Refusal) → QuotientIs 1 2 (Err n) → ⊥
divide_refuses n p = omega arith

pub divide_halves : QuotientIs 1 2 (Ok 0) → ⊥
unfolding mul by_bits double add modulus
divide_halves p = let e : ◌≡◌ {A = ℕ} 0 1 = p.value in omega arith

-- no other refusal number
pub divide-numbers : QuotientIs 1 0 (Err BadLayout) → ⊥
divide-numbers p = let e : ◌≡◌ {A = ℕ} 8 9 = p.number in omega arith

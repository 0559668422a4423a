-- Laws of powers, which are those of theory at the field of `Numbers`. In order: power 0; bounds; sums and products of exponents; powers of 0 and 1.
use mathlib.Core.Path.{◌≡◌, refl, sym, ap, ap₂, ◌∙◌}
use Prim.Native.Nat.{ℕ, zero, suc, ◌+◌, ◌*◌, ◌<◌}
use native.Mathlib.Omega.{arith}
use Rattle.theory.specs.Power as theory
use Rattle.theory.proofs.Powers as laws
use Rattle.field.specs.Number.{mul, power}
use Rattle.field.proofs.Product.{mul-below}
use Rattle.field.proofs.Numbers.{numbers, number, number_injective, number-zero, number-one, number-mul, number-power}

pub power_zero : (a : ℕ) → power a 0 ≡ 1
unfolding power
power_zero a = refl

pub power_below : (a t : ℕ) → power a t < 256
unfolding power
power_below a zero = omega arith
power_below a (suc t) = mul-below (power a t) a

pub power-add : (a s t : ℕ) → power a (s + t) ≡ mul (power a s) (power a t)
power-add a s t =
    number_injective (power a (s + t)) (mul (power a s) (power a t)) (power_below a (s + t)) (mul-below (power a s) (power a t))
    (number-power a (s + t)
    ∙ laws.power-add numbers (number a) s t
    ∙ sym (number-mul (power a s) (power a t) ∙ ap₂ numbers.mul (number-power a s) (number-power a t)))

pub power-power : (a s t : ℕ) → power (power a s) t ≡ power a (s * t)
power-power a s t =
    number_injective (power (power a s) t) (power a (s * t)) (power_below (power a s) t) (power_below a (s * t))
    (number-power (power a s) t
    ∙ ap (λ x. theory.power numbers x t) (number-power a s)
    ∙ laws.power-power numbers (number a) s t
    ∙ sym (number-power a (s * t)))

pub one_power : (t : ℕ) → power 1 t ≡ 1
one_power t =
    number_injective (power 1 t) 1 (power_below 1 t) (omega arith)
    (number-power 1 t ∙ ap (λ x. theory.power numbers x t) number-one ∙ laws.power_of_one numbers t ∙ sym number-one)

pub zero-power : (t : ℕ) → 0 < t → power 0 t ≡ 0
zero-power zero h = absurd (omega arith)
zero-power (suc t) h =
    number_injective (power 0 (suc t)) 0 (power_below 0 (suc t)) (omega arith)
    (number-power 0 (suc t) ∙ ap (λ x. theory.power numbers x (suc t)) number-zero ∙ laws.power_of_zero numbers t ∙ sym number-zero)

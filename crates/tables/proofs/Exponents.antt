-- What is computed with logarithms, said of the powers of 2 that they stand for. In order: a power; a quotient.
use mathlib.Core.Path.{◌≡◌, sym, ap, ◌∙◌}
use Prim.Native.Nat.{ℕ, ◌+◌, ◌-◌, ◌*◌, ◌%◌, ◌≤◌}
use native.Mathlib.Nat as N
use native.Mathlib.Omega.{arith}
use Rattle.field.specs.Number.{mul, power}
use Rattle.field.proofs.Product.{mul-one}
use Rattle.field.proofs.Powers.{power_below, power-add, power-power}
use Rattle.field.proofs.Logarithms.{power_turn, power_wrap}

-- a power by the logarithm: what `power` computes
pub power_by_log : (l t : ℕ) → power 2 (l * (t % 255) % 255) ≡ power (power 2 l) t
power_by_log l t =
    power_wrap (l * (t % 255))
    ∙ ap (power 2) (N.mul_comm l (t % 255))
    ∙ sym (power-power 2 (t % 255) l)
    ∙ ap (λ x. power x l) (power_wrap t)
    ∙ power-power 2 t l
    ∙ ap (power 2) (N.mul_comm t l)
    ∙ sym (power-power 2 l t)

-- a quotient by the logarithms: what `divide` computes
pub quotient_by_logs : (l k : ℕ) → k ≤ 255 → mul (power 2 (l + 255 - k)) (power 2 k) ≡ power 2 l
quotient_by_logs l k h =
    let e : l + 255 - k + k ≡ l + 255 = omega arith in
    sym (power-add 2 (l + 255 - k) k)
    ∙ ap (power 2) e
    ∙ power-add 2 l 255
    ∙ ap (mul (power 2 l)) power_turn
    ∙ mul-one (power 2 l) (power_below 2 l)

-- Laws of the sum, which is exclusive or. In order: high bits, low bits, the lowest bit; the laws of a group in which each number is its own
-- inverse; bounds.
use mathlib.Core.Path.{◌≡◌, refl, sym, ap, ◌∙◌}
use Prim.Native.Nat.{ℕ, zero, suc, ◌+◌, ◌*◌, ◌/◌, ◌%◌, ◌^◌, ◌<◌}
use native.Mathlib.Omega.{arith}
use lib.Arith.{bin_ind}
use lib.Bits.{differ, xor_step, xor_shr, xor_mod, xor_comm, xor_zero_r, xor_self, xor_lt}
use Rattle.field.specs.Number.{add}

-- high bits and low bits, in the form of `Linear`
pub add_shr : (k a b : ℕ) → add a b / 2 ^ k ≡ add (a / 2 ^ k) (b / 2 ^ k)
unfolding add
add_shr k a b = xor_shr a b k

pub add-mod : (k a b : ℕ) → add a b % 2 ^ k ≡ add (a % 2 ^ k) (b % 2 ^ k)
unfolding add
add-mod k a b = xor_mod a b k

differ_below : (x y : ℕ) → x < 2 → y < 2 → differ x y < 2
differ_below zero y h k = k
differ_below (suc zero) zero h k = h
differ_below (suc zero) (suc zero) h k = omega arith
differ_below (suc zero) (suc (suc y)) h k = absurd (omega arith)
differ_below (suc (suc x)) y h k = absurd (omega arith)

pub add_odd : (a b : ℕ) → add a b % 2 ≡ differ (a % 2) (b % 2)
unfolding add
add_odd a b =
    let h : differ (a % 2) (b % 2) < 2 = differ_below (a % 2) (b % 2) (omega arith) (omega arith) in
    omega (arith, xor_step a b)

differ_assoc : (x y z : ℕ) → x < 2 → y < 2 → z < 2 → differ (differ x y) z ≡ differ x (differ y z)
differ_assoc zero y z h k l = refl
differ_assoc (suc zero) zero z h k l = refl
differ_assoc (suc zero) (suc zero) zero h k l = refl
differ_assoc (suc zero) (suc zero) (suc zero) h k l = refl
differ_assoc (suc zero) (suc zero) (suc (suc z)) h k l = absurd (omega arith)
differ_assoc (suc zero) (suc (suc y)) z h k l = absurd (omega arith)
differ_assoc (suc (suc x)) y z h k l = absurd (omega arith)

add_step : (a b : ℕ) → add a b ≡ add (a / 2) (b / 2) * 2 + differ (a % 2) (b % 2)
unfolding add
add_step = xor_step

pub zero-add : (a : ℕ) → add 0 a ≡ a
unfolding add
zero-add a = refl

pub add-zero : (a : ℕ) → add a 0 ≡ a
unfolding add
add-zero = xor_zero_r

assoc_step : (a b c : ℕ) → add (add (a / 2) (b / 2)) (c / 2) ≡ add (a / 2) (add (b / 2) (c / 2)) → add (add a b) c ≡ add a (add b c)
assoc_step a b c ih =
    rw (add_step (add a b) c, add_step a (add b c))
    (simp (add_shr 1, add_odd, ih, differ_assoc (a % 2) (b % 2) (c % 2) (omega arith) (omega arith) (omega arith)))

pub add_assoc : (a b c : ℕ) → add (add a b) c ≡ add a (add b c)
add_assoc =
    bin_ind (λ (a : ℕ). (b c : ℕ) → add (add a b) c ≡ add a (add b c))
    (λ b c. simp zero-add)
    (λ a ih b c. assoc_step a b c (ih (b / 2) (c / 2)))

pub add_comm : (a b : ℕ) → add a b ≡ add b a
unfolding add
add_comm = xor_comm

pub add_self : (a : ℕ) → add a a ≡ 0
unfolding add
add_self = xor_self

pub add_left_comm : (a b c : ℕ) → add a (add b c) ≡ add b (add a c)
add_left_comm a b c = sym (add_assoc a b c) ∙ ap (λ x. add x c) (add_comm a b) ∙ add_assoc b a c

pub add_cancel : (a b : ℕ) → add a (add a b) ≡ b
add_cancel a b = sym (add_assoc a a b) ∙ ap (λ x. add x b) (add_self a) ∙ zero-add b

-- a sum in any order, with equal terms gone
pub ruleset sums = (add_assoc, add_comm, add_left_comm, add-zero, zero-add, add_self, add_cancel)

pub add-below : (k a b : ℕ) → a < 2 ^ k → b < 2 ^ k → add a b < 2 ^ k
unfolding add
add-below = xor_lt

-- The logarithms to base 2, as the lists of `Lists` have them: the rule of each list holds at each entry. In order: the powers; the logarithms, by one
-- computed test over the list for each part of their rule; the 255 powers of 2 are all the non-zero numbers, each once; exponents wrap at
-- 255. Not here: powers and quotients by logarithms, which are in crate `tables`.
use mathlib.Core.Path.{◌≡◌, sym, ap, ◌∙◌}
use mathlib.Core.Bool.{Bool}
use mathlib.Core.List.{List}
use Prim.Native.Nat.{ℕ, zero, suc, ◌+◌, ◌*◌, ◌/◌, ◌%◌, ◌<◌}
use native.Mathlib.Omega.{arith}
use lib.Dec.{T, eqb, ltb, eqb→eq, ltb→lt}
use lib.ListN.{get_or}
use Rattle.field.specs.Number.{modulus, add, double, mul, power}
use Rattle.field.proofs.Tests.{all, all-at}
use Rattle.field.proofs.Product.{double-below, mul-one, one-mul, mul_two, zero-mul, mul_comm, mul_assoc}
use Rattle.field.proofs.Lists.{powers, place, places, logarithms, log}
use Rattle.field.proofs.Powers.{power_below, power-add, power-power, one_power}

powers-at : (n x i : ℕ) → x < 256 → i < n → get_or (powers n x) i 0 ≡ mul x (power 2 i)
unfolding powers power
powers-at zero x i h k = absurd (omega arith)
powers-at (suc n) x zero h k = sym (mul-one x h)
powers-at (suc n) x (suc i) h k =
    powers-at n (double x) i (double-below x h) (omega arith)
    ∙ rw (← mul_two x h, mul_assoc) (ap (mul x) (mul_comm 2 (power 2 i)))

pub power_at : (n i : ℕ) → i < n → get_or (powers n 1) i 0 ≡ power 2 i
power_at n i h = powers-at n 1 i (omega arith) h ∙ one-mul (power 2 i) (power_below 2 i)

-- the tests: the logarithm of each number from 1 to 255 is below 255, and its power of 2 is that number; and the other way round
small : List ℕ → ℕ → Bool
small ls a = ltb (get_or ls (suc a) 0) 255

forth : List ℕ → List ℕ → ℕ → Bool
forth ps ls a = eqb (get_or ps (get_or ls (suc a) 0) 0) (suc a)

back : List ℕ → List ℕ → ℕ → Bool
back ps ls i = eqb (get_or ls (get_or ps i 0) 0) i

small-test : T (all (small logarithms) 255)
unfolding small powers logarithms place places double add modulus
small-test = tt

forth-test : T (all (forth (powers 255 1) logarithms) 255)
unfolding forth powers logarithms place places double add modulus
forth-test = tt

back-test : T (all (back (powers 255 1) logarithms) 255)
unfolding back powers logarithms place places double add modulus
back-test = tt

-- the rules
pub log-below : (a : ℕ) → 0 < a → a < 256 → log a < 255
unfolding log small
log-below zero h k = absurd (omega arith)
log-below (suc a) h k = ltb→lt (get_or logarithms (suc a) 0) 255 (all-at (small logarithms) 255 small-test a (omega arith))

pub power-log : (a : ℕ) → 0 < a → a < 256 → power 2 (log a) ≡ a
unfolding forth log
power-log zero h k = absurd (omega arith)
power-log (suc a) h k =
    sym (power_at 255 (log (suc a)) (log-below (suc a) h k))
    ∙ eqb→eq (get_or (powers 255 1) (log (suc a)) 0) (suc a) (all-at (forth (powers 255 1) logarithms) 255 forth-test a (omega arith))

pub log-power : (i : ℕ) → i < 255 → log (power 2 i) ≡ i
unfolding back log
log-power i h =
    ap log (sym (power_at 255 i h))
    ∙ eqb→eq (log (get_or (powers 255 1) i 0)) i (all-at (back (powers 255 1) logarithms) 255 back-test i h)

-- Document 01: the 255 powers of 2 are all the non-zero numbers, each once
pub powers-all : (a : ℕ) → 0 < a → a < 256 → (t : ℕ) × (t < 255) × (power 2 t ≡ a)
powers-all a h k = (log a, log-below a h k, power-log a h k)

pub powers-once : (i j : ℕ) → i < 255 → j < 255 → power 2 i ≡ power 2 j → i ≡ j
powers-once i j h k e = sym (log-power i h) ∙ ap log e ∙ log-power j k

pub power_turn : power 2 255 ≡ 1
unfolding powers double add modulus
power_turn = sym (power_at 256 255 (omega arith))

turns : (q : ℕ) → power 2 (255 * q) ≡ 1
turns q = sym (power-power 2 255 q) ∙ ap (λ x. power x q) power_turn ∙ one_power q

-- exponents of 2 wrap at 255
pub power_wrap : (t : ℕ) → power 2 (t % 255) ≡ power 2 t
power_wrap t =
    sym (one-mul (power 2 (t % 255)) (power_below 2 (t % 255)))
    ∙ ap (λ x. mul x (power 2 (t % 255))) (sym (turns (t / 255)))
    ∙ sym (power-add 2 (255 * (t / 255)) (t % 255))
    ∙ ap (power 2) (omega arith)

-- no power of 2 is 0: its product with another one is 1
pub power_not_zero : (t : ℕ) → power 2 t ≡ 0 → ⊥
power_not_zero t z =
    let e : t + 254 * t ≡ 255 * t = omega arith in
    let one : mul (power 2 t) (power 2 (254 * t)) ≡ 1 = sym (power-add 2 t (254 * t)) ∙ ap (power 2) e ∙ turns t in
    let none : mul (power 2 t) (power 2 (254 * t)) ≡ 0 = rw z (zero-mul (power 2 (254 * t))) in
    omega arith

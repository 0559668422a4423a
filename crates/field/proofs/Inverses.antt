-- Inverses, by one test that is computed: the power of 2 whose logarithm is 255 less that of a.
use mathlib.Core.Path.{◌≡◌}
use mathlib.Core.Bool.{Bool}
use mathlib.Core.List.{List}
use Prim.Native.Nat.{ℕ, zero, suc, ◌-◌, ◌<◌}
use native.Mathlib.Omega.{arith}
use lib.Dec.{T, eqb, eqb→eq}
use lib.ListN.{get_or}
use Rattle.field.specs.Number.{modulus, add, double, by_bits, mul}
use Rattle.field.proofs.Tests.{all, all-at}
use Rattle.field.proofs.Lists.{powers, place, places, logarithms, powers-below}

inverse_by : List ℕ → List ℕ → ℕ → ℕ
inverse_by ps ls a = get_or ps (255 - get_or ls a 0) 0

unfoldable pub inverse : ℕ → ℕ
unfolding inverse_by
inverse a = inverse_by (powers 256 1) logarithms a

inverts : List ℕ → List ℕ → ℕ → Bool
inverts ps ls a = eqb (mul (suc a) (inverse_by ps ls (suc a))) 1

inverts-test : T (all (inverts (powers 256 1) logarithms) 255)
unfolding inverts inverse_by powers logarithms place places mul by_bits double add modulus
inverts-test = tt

pub mul-inverse : (a : ℕ) → 0 < a → a < 256 → mul a (inverse a) ≡ 1
unfolding inverse inverts
mul-inverse zero h k = absurd (omega arith)
mul-inverse (suc a) h k = eqb→eq (mul (suc a) (inverse (suc a))) 1 (all-at (inverts (powers 256 1) logarithms) 255 inverts-test a (omega arith))

pub inverse-below : (a : ℕ) → inverse a < 256
unfolding inverse inverse_by
inverse-below a = powers-below 256 1 (255 - get_or logarithms a 0) (omega arith)

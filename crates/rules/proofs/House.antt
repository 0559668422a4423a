-- The code that a shape is, in theory's words: document 01's field, points and γ over the shape's groups. Theory counts nodes from 0, document 01 from 1.
--   code sh     == the parameters
--   stripe sh C == the symbols C as a stripe of theory's: node i + 1 is theory's node i
-- In order: bounds; the sixteen points differ, by one computed test; what theory assumes of a code holds.
use mathlib.Core.Path.{◌≡◌, refl}
use mathlib.Core.Bool.{Bool, true, false, not, ◌||◌}
use Prim.Native.Nat.{ℕ, suc, ◌-◌, ◌<◌, ◌≤◌}
use native.Mathlib.Omega.{arith}
use lib.Dec.{T, T_not, eqb, eqb_refl}
use borrow.Author.Tests.{eqb-true}
use Rattle.theory.specs.Code.{Code, Stripe, Lawful}
use Rattle.field.specs.Number.{modulus, add, double, by_bits, mul, power}
use Rattle.field.proofs.Powers.{power_below}
use Rattle.field.proofs.Numbers.{numbers, number, number_injective, two_not_zero, two_not_one}
use Rattle.field.proofs.Tests.{all, all-at}
use Rattle.rules.specs.declared.shapes.Shape.{Shape}
use Rattle.rules.specs.Shape.{group_size, groups}
use Rattle.rules.specs.Point.{point_of, γ}
use Rattle.rules.specs.Stripe.{Symbols}
use Rattle.rules.proofs.Accepted.{Bounds, size-some, nodes-most}

abbrev pub code : Shape → Code
code sh = record { field = numbers; s = group_size sh; m = groups sh; point = λ i. number (point_of sh (suc i)); γ = number γ }

abbrev pub stripe : (sh : Shape) → Symbols → Stripe (code sh)
stripe sh C i a = number (C (suc i) a)

pub point-below : (sh : Shape) (i : ℕ) → point_of sh i < 256
unfolding point_of
point-below sh i = power_below 2 (i - 1)

-- every pair of the sixteen points, by the node numbers less one
abbrev apart : ℕ → ℕ → Bool
apart i j = eqb i j || not (eqb (power 2 i) (power 2 j))

tested : T (all (λ i. all (λ j. apart i j) 16) 16)
unfolding power mul by_bits double add modulus
tested = tt

apart→equal : (i j : ℕ) → T (apart i j) → power 2 i ≡ power 2 j → i ≡ j
apart→equal i j t e = go (eqb i j) refl t
  where
    go : (b : Bool) → eqb i j ≡ b → T (b || not (eqb (power 2 i) (power 2 j))) → i ≡ j
    go true q t = eqb-true i j q
    go false q t = absurd (T_not (eqb (power 2 i) (power 2 j)) t (rw e (eqb_refl (power 2 j))))

powers-distinct : (i j : ℕ) → i < 16 → j < 16 → power 2 i ≡ power 2 j → i ≡ j
powers-distinct i j hi hj = apart→equal i j (all-at (λ j. apart i j) 16 (all-at (λ i. all (λ j. apart i j) 16) 16 tested i hi) j hj)

pub points-distinct : (sh : Shape) (i j : ℕ) → 1 ≤ i → i ≤ 16 → 1 ≤ j → j ≤ 16 → point_of sh i ≡ point_of sh j → i ≡ j
unfolding point_of
points-distinct sh i j hi ki hj kj e = omega (arith, powers-distinct (i - 1) (j - 1) (omega arith) (omega arith) e)

-- the same of theory's nodes, as theory's numbers
nodes-distinct : (sh : Shape) (i j : ℕ) → i < 16 → j < 16 → number (point_of sh (suc i)) ≡ number (point_of sh (suc j)) → i ≡ j
nodes-distinct sh i j il jl e =
    omega (
      arith,
      points-distinct sh (suc i) (suc j) (omega arith) (omega arith) (omega arith) (omega arith)
          (number_injective (point_of sh (suc i)) (point_of sh (suc j)) (point-below sh (suc i)) (point-below sh (suc j)) e),
    )

pub house_lawful : (sh : Shape) → Bounds sh → Lawful (code sh)
unfolding γ
house_lawful sh b = record {
  some-place = size-some sh b;
  distinct = λ i j il jl. nodes-distinct sh i j (omega (arith, nodes-most sh b)) (omega (arith, nodes-most sh b));
  γ_not_zero = two_not_zero;
  γ_not_one = two_not_one;
}

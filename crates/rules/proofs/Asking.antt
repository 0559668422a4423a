-- What an equation of a row read asks for: of the failed node f its whole column, of every other node the rows read alone. Document 01, "Fractions and
-- rebuilding": "No other byte of a helper is lent to it". In order: the symbols that a weight takes; the equations.
use mathlib.Core.Path.{◌≡◌, ap, ap₂}
use mathlib.Core.Bool.{true}
use Prim.Native.Nat.{ℕ, suc, ◌*◌, ◌≤◌, compare}
use native.Mathlib.Decide.{ℕ_discrete}
use borrow.Author.Tests.{eqb-true}
use Rattle.field.specs.Number.{mul, power}
use Rattle.rules.specs.declared.shapes.Shape.{Shape}
use Rattle.rules.specs.Shape.{group_size, groups, node, group, place, digit, with_digit}
use Rattle.rules.specs.Point.{point_of}
use Rattle.rules.specs.Stripe.{Symbols}
use Rattle.rules.specs.Equation.{weighed, weight, sum_to, equation}
use Rattle.rules.specs.Fraction.{is_read}
use Rattle.rules.proofs.Accepted.{Bounds}
use Rattle.rules.proofs.RowsRead.{place_lt, group_from_1}
use Rattle.rules.proofs.Ties.{sum_same}
use Rattle.rules.proofs.Layouts.{node_of, digit-set-kept}

module _ (sh : Shape) (b : Bounds sh) (f : ℕ) (first : 1 ≤ f) (C D : Symbols)
    (own : (a : ℕ) → C f a ≡ D f a) (lent : (i a : ℕ) → is_read sh f a ≡ true → C i a ≡ D i a) where
  -- the other symbol of a weight: in f's group it is f's, elsewhere it stands at a row read
  other-same : (a i : ℕ) → is_read sh f a ≡ true
      → C (node sh (group sh i) (digit sh a (group sh i))) (with_digit sh a (group sh i) (place sh i))
      ≡ D (node sh (group sh i) (digit sh a (group sh i))) (with_digit sh a (group sh i) (place sh i))
  unfolding is_read
  other-same a i read = go (ℕ_discrete (group sh i) (group sh f))
    where
      go : Dec (group sh i ≡ group sh f)
          → C (node sh (group sh i) (digit sh a (group sh i))) (with_digit sh a (group sh i) (place sh i))
          ≡ D (node sh (group sh i) (digit sh a (group sh i))) (with_digit sh a (group sh i) (place sh i))
      go (yes e) = rw (e, eqb-true (digit sh a (group sh f)) (place sh f) read, node_of sh f first) (own (with_digit sh a (group sh f) (place sh i)))
      go (no n) =
          lent _ (with_digit sh a (group sh i) (place sh i))
          (rw (digit-set-kept sh b a (group sh i) (group sh f) (place sh i) (group_from_1 sh i) (group_from_1 sh f) n (place_lt sh b i)) read)

  weight-same : (a i : ℕ) → is_read sh f a ≡ true → weight sh C a i ≡ weight sh D a i
  unfolding weight
  weight-same a i read = ap₂ (weighed (compare (place sh i) (digit sh a (group sh i)))) (lent i a read) (other-same a i read)

  pub read_asks : (a t : ℕ) → is_read sh f a ≡ true → equation sh C a t ≡ equation sh D a t
  unfolding equation sum_to
  read_asks a t read = sum_same (groups sh * group_size sh) _ _ (λ j l. ap (mul (power (point_of sh (suc j)) t)) (weight-same a (suc j) read))

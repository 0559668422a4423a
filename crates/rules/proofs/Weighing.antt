-- Document 01, "The equations", sentence by sentence: the three printed cases of a weight, and that a stripe is whole or has a lowest failure. In order:
-- the cases; the first number below a bound that a property fails at; rows listed in rising order; all rows of a stripe;
-- there is one lowest failure at most, and none of a whole stripe.
--   First P n == the first of the numbers below n at which P fails
-- Not here: the equations are those that source 000 prints (`Printed`).
use mathlib.Core.Path.{◌≡◌, refl, sym, ◌∙◌, subst}
use mathlib.Core.Bool.{Bool, true, false, false≢true}
use mathlib.Core.List.{List}
use mathlib.Core.Logic.{◌⊎◌, inl, inr}
use Prim.Native.Nat.{Ordering}
use Prim.Native.Nat.{ℕ, zero, suc, ◌<◌}
use native.Mathlib.Decide.{ℕ_discrete}
use native.Mathlib.Nat.{eq-or-lt_of_le, le_of_suc-le-suc, not-suc-le-zero}
use native.Mathlib.Omega.{arith}
use Rattle.theory.proofs.Mates.{compare_only}
use Rattle.field.specs.Number.{add, mul}
use Rattle.rules.specs.declared.shapes.Shape.{Shape}
use Rattle.rules.specs.Rising.{rising, Listed}
use Rattle.rules.specs.Shape.{rows, node, group, place, digit, with_digit}
use Rattle.rules.specs.Point.{γ}
use Rattle.rules.specs.Stripe.{Symbols, symbol}
use Rattle.rules.specs.Equation.{weighed, weight, equation, MeetsRow, Whole, LowestFailure, all_rows}
use Rattle.rules.proofs.Risings.{rising→listed, listed→rising}

module _ (sh : Shape) (C : Symbols) (a i : ℕ) where
  -- "u = a_v: its own symbol at row a"
  pub weight-own : place sh i ≡ digit sh a (group sh i) → weight sh C a i ≡ C i a
  unfolding weight weighed
  weight-own h = rw (compare_only (place sh i) (digit sh a (group sh i)) Ordering.eq h)

  -- "u > a_v: its own symbol at row a, plus the symbol of the node at place a_v of group v, taken at the row that is a with digit v set to u"
  pub weight-above : digit sh a (group sh i) < place sh i
      → weight sh C a i ≡ add (C i a) (C (node sh (group sh i) (digit sh a (group sh i))) (with_digit sh a (group sh i) (place sh i)))
  unfolding weight weighed
  weight-above h = rw (compare_only (place sh i) (digit sh a (group sh i)) Ordering.gt h)

  -- "u < a_v: γ times its own symbol at row a, plus that same other symbol"
  pub weight-below : place sh i < digit sh a (group sh i)
      → weight sh C a i ≡ add (mul γ (C i a)) (C (node sh (group sh i) (digit sh a (group sh i))) (with_digit sh a (group sh i) (place sh i)))
  unfolding weight weighed
  weight-below h = rw (compare_only (place sh i) (digit sh a (group sh i)) Ordering.lt h)

pub record First (P : ℕ → Type 0) (n : ℕ) : Type 0 where
  pub at : ℕ
  pub below : at < n
  pub fails : P at → ⊥
  pub before : (j : ℕ) → j < at → P j

-- a property that can be decided holds at every number below n, or there is a first at which it fails
first-failure : (P : ℕ → Type 0) → ((j : ℕ) → Dec (P j)) → (n : ℕ) → ((j : ℕ) → j < n → P j) ⊎ First P n
first-failure P dec zero = inl (λ j l. absurd (not-suc-le-zero l))
first-failure P dec (suc n) = go (first-failure P dec n) (dec n)
  where
    up_to : P n → ((j : ℕ) → j < n → P j) → (j : ℕ) → (j ≡ n) ⊎ (j < n) → P j
    up_to p h j (inl e) = rw e p
    up_to p h j (inr l) = h j l

    go : ((j : ℕ) → j < n → P j) ⊎ First P n → Dec (P n) → ((j : ℕ) → j < suc n → P j) ⊎ First P (suc n)
    go (inr f) d = inr (record { at = f.at; below = omega (arith, f.below); fails = f.fails; before = f.before })
    go (inl h) (yes p) = inl (λ j l. up_to p h j (eq-or-lt_of_le (le_of_suc-le-suc l)))
    go (inl h) (no ne) = inr (record { at = n; below = omega arith; fails = ne; before = h })

module _ (sh : Shape) (C : Symbols) where
  row_first : (a : ℕ) → MeetsRow sh C a ⊎ First (λ t. equation sh C a t ≡ 0) sh.r
  row_first a = first-failure (λ t. equation sh C a t ≡ 0) (λ t. ℕ_discrete (equation sh C a t) 0) sh.r

  -- a row that passes the test L meets its equations
  abbrev MeetsIf : (ℕ → Bool) → ℕ → Type 0
  MeetsIf L a = L a ≡ true → MeetsRow sh C a

  meets_if : (L : ℕ → Bool) (a : ℕ) → Dec (MeetsIf L a)
  meets_if L a = go (L a) refl (row_first a)
    where
      go : (b : Bool) → L a ≡ b → MeetsRow sh C a ⊎ First (λ t. equation sh C a t ≡ 0) sh.r → Dec (MeetsIf L a)
      go false e f = yes (λ k. absurd (false≢true (sym e ∙ k)))
      go true e (inl h) = yes (λ k. h)
      go true e (inr f) = no (λ h. f.fails (h e f.at f.below))

  -- "the lowest failing row and in it the lowest t": of rows in rising order every one meets its equations, or there is such a row and such a t
  pub lowest_exists : (n : ℕ) (L : ℕ → Bool)
      → ((a : ℕ) → Listed a (rising n L) → MeetsRow sh C a) ⊎ ((a : ℕ) × (t : ℕ) × LowestFailure sh C (rising n L) a t)
  lowest_exists n L = go (first-failure (MeetsIf L) (meets_if L) n)
    where
      -- the first row that passes L and fails, and its first t
      found : (f : First (MeetsIf L) n) → L f.at ≡ true → First (λ t. equation sh C f.at t ≡ 0) sh.r
          → (a : ℕ) × (t : ℕ) × LowestFailure sh C (rising n L) a t
      found f e g = (
        f.at,
        g.at,
        record {
          row_listed = rising→listed n L f.at f.below e;
          t-below = g.below;
          fails = g.fails;
          lower-rows = λ b l h. f.before b h (listed→rising n L b l).1;
          lower-t = g.before;
        },
      )

      in_row : (f : First (MeetsIf L) n) (b : Bool) → L f.at ≡ b → MeetsRow sh C f.at ⊎ First (λ t. equation sh C f.at t ≡ 0) sh.r
          → (a : ℕ) × (t : ℕ) × LowestFailure sh C (rising n L) a t
      in_row f false e g = absurd (f.fails (λ k. absurd (false≢true (sym e ∙ k))))
      in_row f true e (inl h) = absurd (f.fails (λ k. h))
      in_row f true e (inr g) = found f e g

      go : ((a : ℕ) → a < n → MeetsIf L a) ⊎ First (MeetsIf L) n
          → ((a : ℕ) → Listed a (rising n L) → MeetsRow sh C a) ⊎ ((a : ℕ) × (t : ℕ) × LowestFailure sh C (rising n L) a t)
      go (inl h) = inl (λ a l. let (al, e) = listed→rising n L a l in h a al e)
      go (inr f) = inr (in_row f (L f.at) refl (row_first f.at))

-- "Testing answers "whole", or the lowest failing row and in it the lowest t"
pub whole_or_lowest : (sh : Shape) (stripe : List ℕ)
    → Whole sh stripe ⊎ ((a : ℕ) × (t : ℕ) × LowestFailure sh (symbol sh stripe) (all_rows sh) a t)
whole_or_lowest sh stripe = go (lowest_exists sh (symbol sh stripe) (rows sh) (λ a. true))
  where
    go : ((a : ℕ) → Listed a (all_rows sh) → MeetsRow sh (symbol sh stripe) a) ⊎ ((a : ℕ) × (t : ℕ) × LowestFailure sh (symbol sh stripe) (all_rows sh) a t)
        → Whole sh stripe ⊎ ((a : ℕ) × (t : ℕ) × LowestFailure sh (symbol sh stripe) (all_rows sh) a t)
    go (inl h) = inl (λ a l. h a (rising→listed (rows sh) (λ a. true) a l refl))
    go (inr f) = inr f

module _ (sh : Shape) (C : Symbols) (listed : List ℕ) where
  -- no row fails below the lowest
  lowest-first : (a t b u : ℕ) → LowestFailure sh C listed a t → LowestFailure sh C listed b u → a < b → ⊥
  lowest-first a t b u p q h = p.fails (q.lower-rows a p.row_listed h t p.t-below)

  lowest-t-first : (a t u : ℕ) → LowestFailure sh C listed a t → LowestFailure sh C listed a u → t < u → ⊥
  lowest-t-first a t u p q h = p.fails (q.lower-t t h)

  pub lowest-only : (a t b u : ℕ) → LowestFailure sh C listed a t → LowestFailure sh C listed b u → (a ≡ b) × (t ≡ u)
  lowest-only a t b u p q = (row, same-t)
    where
      row : a ≡ b
      row = omega (arith, lowest-first a t b u p q, lowest-first b u a t q p)

      there : LowestFailure sh C listed b t
      there = subst (λ x. LowestFailure sh C listed x t) row p

      same-t : t ≡ u
      same-t = omega (arith, lowest-t-first b t u there q, lowest-t-first b u t q there)

-- a stripe does not both pass and fail
pub whole_or_fails : (sh : Shape) (stripe : List ℕ) (a t : ℕ) → Whole sh stripe → LowestFailure sh (symbol sh stripe) (all_rows sh) a t → ⊥
whole_or_fails sh stripe a t w p = p.fails (w a (listed→rising (rows sh) _ a p.row_listed).0 t p.t-below)

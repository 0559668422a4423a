-- The equations as Ye and Barg print them: source 000, (3) with the matrices of (4), Construction 1; (5) and (6), Construction 2.
--   Stands sh t v u a b == what is printed: t from 0 to r − 1, node (v − 1) × s + u + 1 of the n that there are, row a and column b from 0 to l − 1
--   Matrices sh A == A t i is the l by l matrix A(t, i), with entry A t i a b at row a and column b: the four printed cases, of which (5) prints the
--                    same for groups 1 to m − 1 and (6) for group m (the paper's m + 1 is our m)
--   Meets sh A C  == (3): for every t, the sum over i = 1 to n of A(t, i) times column i is the zero column
-- The paper's λ_i is point i, its a(v, w) is a with digit v set to w; digits, nodes, points and γ are those of `Shape` and `Point`. The sum is over the
-- n nodes that there are, and the third case takes the points of all places of the group, phantoms too.
use Rattle.std.specs.Prelude.{◌≡◌, ℕ, ◌<◌, ◌≤◌}
use Rattle.field.specs.Number.{mul, power}
use Rattle.rules.specs.declared.shapes.Shape.{Shape}
use Rattle.rules.specs.Shape.{group_size, rows, node, digit, with_digit}
use Rattle.rules.specs.Point.{point_of, γ}
use Rattle.rules.specs.Stripe.{Symbols}
use Rattle.rules.specs.Equation.{sum_below, sum_to}

pub record Stands (sh : Shape) (t v u a b : ℕ) : Type 0 where
  pub first : 1 ≤ v
  pub small : u < group_size sh
  pub real : node sh v u ≤ sh.n
  pub t-below : t < sh.r
  pub row : a < rows sh
  pub column : b < rows sh

pub record Matrices (sh : Shape) (A : ℕ → ℕ → ℕ → ℕ → ℕ) : Type 0 where
  -- if a_v < u, b = a
  pub above : (t v u a b : ℕ) → Stands sh t v u a b → digit sh a v < u → b ≡ a
      → A t (node sh v u) a b ≡ power (point_of sh (node sh v u)) t
  -- if a_v > u, b = a
  pub below : (t v u a b : ℕ) → Stands sh t v u a b → u < digit sh a v → b ≡ a
      → A t (node sh v u) a b ≡ mul γ (power (point_of sh (node sh v u)) t)
  -- if a_v = u, b = a(v, w) for some w in 0, 1, .., s − 1
  pub at : (t v u a b w : ℕ) → Stands sh t v u a b → digit sh a v ≡ u → w < group_size sh → b ≡ with_digit sh a v w
      → A t (node sh v u) a b ≡ power (point_of sh (node sh v w)) t
  -- otherwise
  pub otherwise : (t v u a b : ℕ) → Stands sh t v u a b
      → (digit sh a v < u → b ≡ a → ⊥)
      → (u < digit sh a v → b ≡ a → ⊥)
      → (digit sh a v ≡ u → (w : ℕ) → w < group_size sh → b ≡ with_digit sh a v w → ⊥)
      → A t (node sh v u) a b ≡ 0

abbrev pub Meets : Shape → (ℕ → ℕ → ℕ → ℕ → ℕ) → Symbols → Type 0
Meets sh A C =
    (t a : ℕ) → t < sh.r → a < rows sh → sum_to sh.n (λ i. sum_below (rows sh) (λ b. mul (A t i a b) (C i b))) ≡ 0

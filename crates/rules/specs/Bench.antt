-- The bench stripes of document 01 that are marked P, in one table. A to D and H to J have n = 3, r = 2, l = 4.
--   Case       == a case of the table, by what is given and what is answered
--   Claim case == what the case says, in the rules' own words; of parity columns and of a rebuilt column also that no other bytes will do
--   AllHold t  == the claim of each case of the table t
--   shape n r  == the shape with n nodes and r parity nodes
--   stripe_c   == bench stripe C: data and both parity columns
--   stripe_j   == the stripe tested in J: bench stripe A with its last byte wrong
--   table      == the cases A to J
use Rattle.std.specs.Prelude.{◌≡◌, List, [], ◌∷◌, ◌++◌, ℕ, ◌-◌, ◌*◌}
use Rattle.std.proofs.Math.Option.{none, some}
use Rattle.field.specs.Number.{mul}
use Rattle.rules.specs.declared.shapes.Shape.{Shape}
use Rattle.rules.specs.Shape.{rows}
use Rattle.rules.specs.Stripe.{IsBytes, stripe_length, data_length, symbol, column}
use Rattle.rules.specs.Equation.{Whole, LowestFailure, all_rows}
use Rattle.rules.specs.Fraction.{fraction_length, fraction, MeetsRead}
use Rattle.rules.specs.Refusal.{shape_refusal}

pub data Case : Type 0 where
  -- shape, data columns, parity columns
  parity-is : Shape → List ℕ → List ℕ → Case
  -- shape, stripe, helper, failed node, fraction
  fraction-is : Shape → List ℕ → ℕ → ℕ → List ℕ → Case
  -- two factors, product
  product_is : ℕ → ℕ → ℕ → Case
  -- shape, rows
  rows_are : Shape → ℕ → Case
  -- shape, refusal
  refused_with : Shape → ℕ → Case
  -- shape, failed node, fractions, column
  rebuilt-is : Shape → ℕ → List ℕ → List ℕ → Case
  -- shape, stripe, row, t
  fails-at : Shape → List ℕ → ℕ → ℕ → Case

abbrev pub Claim : Case → Type 0
Claim (parity-is sh kept parity) =
    IsBytes (data_length sh) kept × IsBytes (stripe_length sh) (kept ++ parity) × Whole sh (kept ++ parity)
    × ((other : List ℕ) → IsBytes (stripe_length sh) (kept ++ other) → Whole sh (kept ++ other) → other ≡ parity)
Claim (fraction-is sh stripe h f given) = fraction sh f (column sh stripe h) ≡ given
Claim (product_is a b c) = mul a b ≡ c
Claim (rows_are sh l) = (shape_refusal sh ≡ none) × (rows sh ≡ l)
Claim (refused_with sh q) = shape_refusal sh ≡ some q
Claim (rebuilt-is sh f fractions col) =
    IsBytes ((sh.n - 1) * fraction_length sh) fractions × IsBytes (rows sh) col × MeetsRead sh f fractions col
    × ((other : List ℕ) → IsBytes (rows sh) other → MeetsRead sh f fractions other → other ≡ col)
Claim (fails-at sh stripe a t) = IsBytes (stripe_length sh) stripe × LowestFailure sh (symbol sh stripe) (all_rows sh) a t

abbrev pub AllHold : List Case → Type 0
AllHold [] = Unit {0}
AllHold (c ∷ t) = Claim c × AllHold t

abbrev pub shape : ℕ → ℕ → Shape
shape n r = record { n = n; r = r }

abbrev pub stripe_c : List ℕ
stripe_c = 4 ∷ 0 ∷ 0 ∷ 12 ∷ 6 ∷ 15 ∷ 12 ∷ 30 ∷ 2 ∷ 12 ∷ 0 ∷ 5 ∷ []

abbrev pub stripe_j : List ℕ
stripe_j = 4 ∷ 0 ∷ 0 ∷ 0 ∷ 6 ∷ 5 ∷ 0 ∷ 0 ∷ 2 ∷ 3 ∷ 0 ∷ 1 ∷ []

abbrev pub table : List Case
table =
    -- A
    parity-is (shape 3 2) (4 ∷ 0 ∷ 0 ∷ 0 ∷ []) (6 ∷ 5 ∷ 0 ∷ 0 ∷ 2 ∷ 3 ∷ 0 ∷ 0 ∷ [])
    -- B
    ∷ parity-is (shape 3 2) (0 ∷ 0 ∷ 0 ∷ 12 ∷ []) (0 ∷ 10 ∷ 12 ∷ 30 ∷ 0 ∷ 15 ∷ 0 ∷ 5 ∷ [])
    -- C
    ∷ parity-is (shape 3 2) (4 ∷ 0 ∷ 0 ∷ 12 ∷ []) (6 ∷ 15 ∷ 12 ∷ 30 ∷ 2 ∷ 12 ∷ 0 ∷ 5 ∷ [])
    -- D
    ∷ fraction-is (shape 3 2) stripe_c 2 1 (6 ∷ 12 ∷ [])
    -- E
    ∷ product_is 2 142 1
    ∷ product_is 3 244 1
    ∷ product_is 16 16 29
    -- F
    ∷ rows_are (shape 15 3) 243
    -- G
    ∷ refused_with (shape 16 3) 1
    -- H
    ∷ rebuilt-is (shape 3 2) 1 (6 ∷ 12 ∷ 2 ∷ 0 ∷ []) (4 ∷ 0 ∷ 0 ∷ 12 ∷ [])
    -- I
    ∷ rebuilt-is (shape 3 2) 3 (4 ∷ 0 ∷ 6 ∷ 15 ∷ []) (2 ∷ 12 ∷ 0 ∷ 5 ∷ [])
    -- J
    ∷ fails-at (shape 3 2) stripe_j 1 0
    ∷ []

-- What the private functions of the rebuilder do, each byte said.
--   gathered sh f fractions i == the symbols that the fractions of the helpers before node i bring: `arrived` with no column, and 0 from node i on
--   SumsAre sh f fractions i sums == the running sums: those of the equations of the rows read for these symbols, those of t = 0 first, the rows in
--                               rising order. `add_helper` takes them from i to i + 1
use Rattle.std.specs.Prelude.{◌≡◌, cond, List, [], ℕ, ◌+◌, ◌*◌, ◌<◌, ltb, length, get_or}
use Rattle.rules.specs.declared.shapes.Shape.{Shape}
use Rattle.rules.specs.Stripe.{Symbols}
use Rattle.rules.specs.Equation.{equation}
use Rattle.rules.specs.Fraction.{rows_read, fraction_length, arrived}

unfoldable pub gathered : Shape → ℕ → List ℕ → ℕ → Symbols
gathered sh f fractions i k a = cond (ltb k i) (arrived sh f fractions [] k a) 0

pub record SumsAre (sh : Shape) (f : ℕ) (fractions : List ℕ) (i : ℕ) (sums : List ℕ) : Type 0 where
  pub all : length sums ≡ sh.r * fraction_length sh
  pub bytes : (t j : ℕ) → t < sh.r → j < fraction_length sh
      → get_or sums (t * fraction_length sh + j) 0 ≡ equation sh (gathered sh f fractions i) (get_or (rows_read sh f) j 0) t

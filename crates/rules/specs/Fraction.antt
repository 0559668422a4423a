-- Fractions and rebuilding: document 01, "Fractions and rebuilding". The failed node f is place u of group v.
--   is_read sh f a      == row a is read to rebuild node f: a_v = u
--   rows_read sh f      == the rows read, in rising order
--   fraction_length sh  == l / s
--   fraction sh f col   == what a node with the column col gives to rebuild node f: its symbols at the rows read, in rising row order
--   helpers sh f        == the nodes 1 to n other than f, in rising order
--   end_to_end sh f parts == what these nodes give, laid end to end in that order
--   cut_all sh f stripe == the fractions of all columns of the stripe but f's, laid end to end
--   helper_before f i   == how many nodes other than f come before node i, which isn't f
--   fraction_of sh f fractions i == the fraction of node i, out of all fractions end to end in rising node order
--   arrived sh f fractions col == the symbols that the rebuilder knows: of node f the column col, of another node its fraction at the rows read (at
--                          row a the byte with as many before it as rows read come before a). A phantom holds 0; so does what isn't lent, which no
--                          equation of a row read asks for
--   alone sh f i given  == the symbols of a stripe that holds one fraction and nothing else: node i's symbols at the rows read are `given`, all else is 0
--   MeetsRead sh f fractions col == what a rebuilt column must meet: with the fractions, the equations of every row read. Lengths are not said here: `IsBytes`
use Rattle.std.specs.Prelude.{Bool, cond, ◌&&◌, ◌||◌, not, ℕ, ◌+◌, ◌-◌, ◌*◌, ◌/◌, leb, eqb, ltb, length, get_or, take, drop}
use mathlib.Core.List.{List, map, flat_map}
use Rattle.rules.specs.declared.shapes.Shape.{Shape}
use Rattle.rules.specs.Rising.{rising, Listed}
use Rattle.rules.specs.Shape.{group_size, rows, group, place, phantom, digit}
use Rattle.rules.specs.Stripe.{Symbols, column}
use Rattle.rules.specs.Equation.{MeetsRow}

unfoldable pub is_read : Shape → ℕ → ℕ → Bool
is_read sh f a = eqb (digit sh a (group sh f)) (place sh f)

unfoldable pub rows_read : Shape → ℕ → List ℕ
rows_read sh f = rising (rows sh) (is_read sh f)

unfoldable pub fraction_length : Shape → ℕ
fraction_length sh = rows sh / group_size sh

unfoldable pub fraction : Shape → ℕ → List ℕ → List ℕ
fraction sh f col = map (λ a. get_or col a 0) (rows_read sh f)

unfoldable pub helpers : Shape → ℕ → List ℕ
helpers sh f = rising (sh.n + 1) (λ i. leb 1 i && not (eqb i f))

unfoldable pub end_to_end : Shape → ℕ → (ℕ → List ℕ) → List ℕ
end_to_end sh f parts = flat_map parts (helpers sh f)

unfoldable pub cut_all : Shape → ℕ → List ℕ → List ℕ
cut_all sh f stripe = end_to_end sh f (λ i. fraction sh f (column sh stripe i))

unfoldable pub helper_before : ℕ → ℕ → ℕ
helper_before f i = cond (ltb i f) (i - 1) (i - 2)

unfoldable pub fraction_of : Shape → ℕ → List ℕ → ℕ → List ℕ
fraction_of sh f fractions i = take (fraction_length sh) (drop (helper_before f i * fraction_length sh) fractions)

unfoldable pub arrived : Shape → ℕ → List ℕ → List ℕ → Symbols
arrived sh f fractions col i a =
    cond (eqb i f) (get_or col a 0)
    (cond (phantom sh i || not (is_read sh f a)) 0
    (get_or (fraction_of sh f fractions i) (length (rising a (is_read sh f))) 0))

unfoldable pub alone : Shape → ℕ → ℕ → List ℕ → Symbols
alone sh f i given j a = cond (eqb j i && is_read sh f a) (get_or given (length (rising a (is_read sh f))) 0) 0

abbrev pub MeetsRead : Shape → ℕ → List ℕ → List ℕ → Type 0
MeetsRead sh f fractions col = (a : ℕ) → Listed a (rows_read sh f) → MeetsRow sh (arrived sh f fractions col) a

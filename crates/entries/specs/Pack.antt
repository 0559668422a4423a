-- The pack file: document 01, "The pack file". Header, entries, columns; all numbers little-endian.
--   header_length == 8, how many bytes the header has
--   entry_length  == 8, how many an entry has
--   has set i     == node i, which is 1 or more, is in a set of nodes, be it the held or the lost ones: bit i − 1 of the number, as `is_lost` reads it
--   nodes_of sh set == the nodes 1 to n of a set, in rising order
--   others sh set == the other nodes of 1 to n, of a set without a bit above n: nodes not held are lost, nodes not lost are held
--   columns_of sh set stripe == the stripe's columns at the nodes of the set, end to end in rising node order
--   four_bytes x  == x, below 2 to the power 32, in four bytes, the lowest first
--   entry_at e    == where entry e begins, e from 0: 8 + 8 × e
--   columns_at p  == where the first column begins, after p entries: 8 + 8 × p
--   offset_of sh p e == where the column of entry e begins, e from 0: the columns follow without gaps in entry order
--   total_of sh p == the total length: 8 + 8 × p + p × l
--   header sh p   == n, r, the count p of columns held, zero, the total in four bytes
--   entry i at    == node i, three zero bytes, its offset in four bytes
--   entries_from sh p e nodes == the entries of these nodes, the first of them being entry e of the p
--   packed_nodes sh nodes columns == header, entries of these nodes, columns
--   packed sh held columns == the pack of a shape, a held set, and the columns of the nodes held, end to end in rising node order
--   largest_pack  == 4,232, how long the largest pack is
--   input_most    == 4,233, how much of its input the program reads, which shows excess
-- A pack's entries rise, and have each node once: document 01's refusal 7.
use Rattle.std.specs.Prelude.{Bool, ◌&&◌, ℕ, suc, ◌+◌, ◌-◌, ◌*◌, ◌/◌, ◌%◌, ◌^◌, leb, length}
use mathlib.Core.List.{List, [], ◌∷◌, ◌++◌, flat_map}
use Rattle.rules.specs.declared.shapes.Shape.{Shape}
use Rattle.rules.specs.Rising.{rising}
use Rattle.rules.specs.Shape.{rows}
use Rattle.rules.specs.Stripe.{column}
use Rattle.rules.specs.Lost.{is_lost}

abbrev pub header_length : ℕ
header_length = 8

abbrev pub entry_length : ℕ
entry_length = 8

abbrev pub has : ℕ → ℕ → Bool
has set i = is_lost set i

unfoldable pub nodes_of : Shape → ℕ → List ℕ
nodes_of sh set = rising (sh.n + 1) (λ i. leb 1 i && has set i)

unfoldable pub others : Shape → ℕ → ℕ
others sh set = 2 ^ sh.n - 1 - set

unfoldable pub columns_of : Shape → ℕ → List ℕ → List ℕ
columns_of sh set stripe = flat_map (column sh stripe) (nodes_of sh set)

unfoldable pub four_bytes : ℕ → List ℕ
four_bytes x = x % 256 ∷ x / 256 % 256 ∷ x / 65536 % 256 ∷ x / 16777216 % 256 ∷ []

unfoldable pub entry_at : ℕ → ℕ
entry_at e = header_length + entry_length * e

unfoldable pub columns_at : ℕ → ℕ
columns_at p = entry_at p

unfoldable pub offset_of : Shape → ℕ → ℕ → ℕ
offset_of sh p e = columns_at p + e * rows sh

unfoldable pub total_of : Shape → ℕ → ℕ
total_of sh p = columns_at p + p * rows sh

unfoldable pub header : Shape → ℕ → List ℕ
header sh p = sh.n ∷ sh.r ∷ p ∷ 0 ∷ four_bytes (total_of sh p)

unfoldable pub entry : ℕ → ℕ → List ℕ
entry i at = i ∷ 0 ∷ 0 ∷ 0 ∷ four_bytes at

unfoldable pub entries_from : Shape → ℕ → ℕ → List ℕ → List ℕ
entries_from sh p e [] = []
entries_from sh p e (i ∷ nodes) = entry i (offset_of sh p e) ++ entries_from sh p (suc e) nodes

unfoldable pub packed_nodes : Shape → List ℕ → List ℕ → List ℕ
packed_nodes sh nodes columns = header sh (length nodes) ++ entries_from sh (length nodes) 0 nodes ++ columns

unfoldable pub packed : Shape → ℕ → List ℕ → List ℕ
packed sh held columns = packed_nodes sh (nodes_of sh held) columns

abbrev pub largest_pack : ℕ
largest_pack = 4232

abbrev pub input_most : ℕ
input_most = largest_pack + 1

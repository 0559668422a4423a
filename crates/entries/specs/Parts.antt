-- What stands where in a pack, whatever its bytes are. A byte past the end reads 0, and no check reads one there: the refusals 6 come before.
--   byte_at pack j  == byte j
--   number_at pack j == the number in the four bytes from j on, the lowest first
--   shape_in pack   == the header's n and r
--   count_in pack   == the header's count p of columns held
--   total_in pack   == the header's total length
--   node_in pack e  == entry e's node
--   padded_in pack e == the three bytes after the node are 0
--   offset_in pack e == entry e's offset
--   node_before pack e == the node of the entry before entry e; 0 before the first
--   nodes_in pack p == the nodes of the first p entries
use Rattle.std.specs.Prelude.{Bool, ◌&&◌, List, map, ℕ, zero, suc, ◌+◌, ◌*◌, eqb, get_or}
use Rattle.rules.specs.declared.shapes.Shape.{Shape}
use Rattle.rules.specs.Rising.{up_to}
use Rattle.entries.specs.Pack.{entry_at}

abbrev pub byte_at : List ℕ → ℕ → ℕ
byte_at pack j = get_or pack j 0

unfoldable pub number_at : List ℕ → ℕ → ℕ
number_at pack j = byte_at pack j + 256 * byte_at pack (j + 1) + 65536 * byte_at pack (j + 2) + 16777216 * byte_at pack (j + 3)

abbrev pub shape_in : List ℕ → Shape
shape_in pack = record { n = byte_at pack 0; r = byte_at pack 1 }

abbrev pub count_in : List ℕ → ℕ
count_in pack = byte_at pack 2

unfoldable pub total_in : List ℕ → ℕ
total_in pack = number_at pack 4

unfoldable pub node_in : List ℕ → ℕ → ℕ
node_in pack e = byte_at pack (entry_at e)

unfoldable pub padded_in : List ℕ → ℕ → Bool
padded_in pack e = eqb (byte_at pack (entry_at e + 1)) 0 && eqb (byte_at pack (entry_at e + 2)) 0 && eqb (byte_at pack (entry_at e + 3)) 0

unfoldable pub offset_in : List ℕ → ℕ → ℕ
offset_in pack e = number_at pack (entry_at e + 4)

unfoldable pub node_before : List ℕ → ℕ → ℕ
node_before pack zero = 0
node_before pack (suc e) = node_in pack e

unfoldable pub nodes_in : List ℕ → ℕ → List ℕ
nodes_in pack p = map (node_in pack) (up_to p)

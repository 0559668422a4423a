-- A stripe is n columns of l bytes, node 1 first: document 01, "Shape".
--   IsBytes n list       == the list is n bytes: n numbers below 256
--   stripe_length sh     == n × l
--   data_length sh       == k × l, the length of the data columns, which are the first
--   column_start sh i    == column i starts at (i − 1) × l
--   column sh stripe i   == column i: that part of the stripe
--   Symbols              == what node i, from 1, holds at row a, from 0
--   symbol sh stripe i a == the symbol of node i at row a: 0 where i is a phantom, else the byte of column i at row a
--   laid sh rec stripe   == the record in the data columns in order, zero bytes after it, and the parity columns as they were
--   read_back sh stripe  == the record read back: the stripe's first k × l bytes
--   plus_bytes x y       == the sum of two buffers of one length, byte by byte, in the field
--   times_bytes c x      == a buffer times the number c, byte by byte, in the field
-- A definition here takes any list of numbers, and reads 0 past its end: that a list is a stripe's bytes is said by `IsBytes (stripe_length sh)`. The
-- entries are lent bytes, and test each length.
use Rattle.std.specs.Prelude.{◌≡◌, cond, ℕ, ◌+◌, ◌-◌, ◌*◌, ◌<◌, length, get_or, take, drop, replicate}
use mathlib.Core.List.{List, ◌++◌, map, zip_with}
use Rattle.field.specs.Number.{add, mul}
use Rattle.rules.specs.declared.shapes.Shape.{Shape}
use Rattle.rules.specs.Shape.{data_nodes, rows, phantom}

pub record IsBytes (n : ℕ) (list : List ℕ) : Type 0 where
  pub exact : length list ≡ n
  pub bytes : (k : ℕ) → k < n → get_or list k 0 < 256

unfoldable pub stripe_length : Shape → ℕ
stripe_length sh = sh.n * rows sh

unfoldable pub data_length : Shape → ℕ
data_length sh = data_nodes sh * rows sh

unfoldable pub column_start : Shape → ℕ → ℕ
column_start sh i = (i - 1) * rows sh

unfoldable pub column : Shape → List ℕ → ℕ → List ℕ
column sh stripe i = take (rows sh) (drop (column_start sh i) stripe)

abbrev pub Symbols : Type 0
Symbols = ℕ → ℕ → ℕ

unfoldable pub symbol : Shape → List ℕ → Symbols
symbol sh stripe i a = cond (phantom sh i) 0 (get_or stripe (column_start sh i + a) 0)

unfoldable pub laid : Shape → List ℕ → List ℕ → List ℕ
laid sh rec stripe = rec ++ replicate (data_length sh - length rec) 0 ++ drop (data_length sh) stripe

unfoldable pub read_back : Shape → List ℕ → List ℕ
read_back sh stripe = take (data_length sh) stripe

unfoldable pub plus_bytes : List ℕ → List ℕ → List ℕ
plus_bytes x y = zip_with add x y

unfoldable pub times_bytes : ℕ → List ℕ → List ℕ
times_bytes c x = map (mul c) x

-- The shape of a stripe: document 01, "Shape". `Shape` is the struct of the code: its n is the number of nodes, its r that of parity nodes.
--   group_size sh == s, how many nodes a group has: r
--   data_nodes sh == k = n − r
--   groups sh     == m, n / s rounded up
--   rows sh       == l, s to the power m
--   accepted sh   == r from 2 to 4, n from r + 1 to 16, l at most 256
--   node sh v u   == node (v − 1) × s + u + 1, place u (0 to s − 1) of group v (1 to m)
--   group sh i    == the group v of node i
--   place sh i    == its place u
--   phantom sh i  == node i is a phantom: its number is above n. They fill up the last group
--   worth sh v    == what a 1 as digit v counts: s to the power v − 1
--   digit sh a v  == digit a_v of row a to base s; a_1 is the lowest
--   with_digit sh a v u == the row that is a with digit v set to u
-- Nodes, groups and digits count from 1, rows and places from 0. Digits, groups and places go by s; what goes by r is the number of parity nodes and
-- of equations a row.
use Rattle.std.specs.Prelude.{Bool, ◌&&◌, ℕ, ◌+◌, ◌-◌, ◌*◌, ◌/◌, ◌%◌, ◌^◌, leb, ltb}
use Rattle.rules.specs.declared.shapes.Shape.{Shape}

unfoldable pub group_size : Shape → ℕ
group_size sh = sh.r

unfoldable pub data_nodes : Shape → ℕ
data_nodes sh = sh.n - sh.r

unfoldable pub groups : Shape → ℕ
groups sh = (sh.n + group_size sh - 1) / group_size sh

unfoldable pub rows : Shape → ℕ
rows sh = group_size sh ^ groups sh

unfoldable pub accepted : Shape → Bool
accepted sh = leb 2 sh.r && leb sh.r 4 && leb (sh.r + 1) sh.n && leb sh.n 16 && leb (rows sh) 256

unfoldable pub node : Shape → ℕ → ℕ → ℕ
node sh v u = (v - 1) * group_size sh + u + 1

unfoldable pub group : Shape → ℕ → ℕ
group sh i = (i - 1) / group_size sh + 1

unfoldable pub place : Shape → ℕ → ℕ
place sh i = (i - 1) % group_size sh

unfoldable pub phantom : Shape → ℕ → Bool
phantom sh i = ltb sh.n i

unfoldable pub worth : Shape → ℕ → ℕ
worth sh v = group_size sh ^ (v - 1)

unfoldable pub digit : Shape → ℕ → ℕ → ℕ
digit sh a v = a / worth sh v % group_size sh

unfoldable pub with_digit : Shape → ℕ → ℕ → ℕ → ℕ
with_digit sh a v u = a - digit sh a v * worth sh v + u * worth sh v

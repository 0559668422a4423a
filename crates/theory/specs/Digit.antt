-- Digits of a row to base s, the lowest first, and where a node stands.
--   digit s a v       == digit v of row a
--   with_digit s a v u == row a with digit v set to u
--   group s i         == the group of node i
--   place s i         == its place in the group
--   node s v u        == the node at place u of group v
-- Document 01, "Shape", with groups and nodes from 0: its node i, group v and digit a_v are i - 1, v - 1 and digit s a (v - 1) here.
use Rattle.std.specs.Prelude.{ℕ, zero, suc, ◌+◌, ◌*◌, ◌/◌, ◌%◌}

unfoldable pub digit : ℕ → ℕ → ℕ → ℕ
digit s a zero = a % s
digit s a (suc v) = digit s (a / s) v

unfoldable pub with_digit : ℕ → ℕ → ℕ → ℕ → ℕ
with_digit s a zero u = a / s * s + u
with_digit s a (suc v) u = with_digit s (a / s) v u * s + a % s

unfoldable pub group : ℕ → ℕ → ℕ
group s i = i / s

unfoldable pub place : ℕ → ℕ → ℕ
place s i = i % s

unfoldable pub node : ℕ → ℕ → ℕ → ℕ
node s v u = v * s + u

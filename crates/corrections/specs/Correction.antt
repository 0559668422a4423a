-- What is added to the symbols of lost nodes, from what the weights of their nodes fall short by. Nodes count from 0 here, as in `theory`.
--   chosen flags       == the set of the nodes whose flag is set
--   correction_by o lost own other == what is added to the symbol of a lost node, o being how its place compares with the row's digit, `lost` whether its
--                         mate is lost too; `own` and `other` are what its own weight and its mate's fall short by. 142 is 1 / γ, 244 is 1 / (γ + 1)
--   correction_in sh flags short i a == the same for node i at row a, `short` holding what the weights of all nodes fall short by, columns end to end
--   ColumnsCorrected sh flags scores level short before later == in every chosen column, at the rows of the score asked for, that is added; all else stays
use Rattle.std.specs.Prelude.{◌≡◌, Bool, true, false, cond, List, eqb, length, get_or}
use Prim.Native.Nat.{ℕ, suc, ◌+◌, ◌-◌, ◌*◌, ◌/◌, ◌%◌, ◌<◌, compare, Ordering}
use Rattle.field.specs.Number.{add, mul}
use Rattle.rules.specs.declared.shapes.Shape.{Shape}
use Rattle.rules.specs.Shape.{group_size, rows, worth}
use Rattle.rules.specs.Point.{γ}

abbrev pub chosen : List Bool → ℕ → Bool
chosen flags i = get_or flags i false

unfoldable pub correction_by : Ordering → Bool → ℕ → ℕ → ℕ
correction_by Ordering.eq lost own other = own
correction_by Ordering.gt true own other = mul 244 (add (mul γ own) other)
correction_by Ordering.gt false own other = own
correction_by Ordering.lt true own other = mul 244 (add own other)
correction_by Ordering.lt false own other = mul 142 own

unfoldable pub correction_in : Shape → List Bool → List ℕ → ℕ → ℕ → ℕ
correction_in sh flags short i a =
    let s = group_size sh in
    let l = rows sh in
    let w = worth sh (suc (i / s)) in
    let d = a / w % s in
    correction_by (compare (i % s) d) (chosen flags (i / s * s + d))
    (get_or short (i * l + a) 0)
    (get_or short ((i / s * s + d) * l + (a - d * w + i % s * w)) 0)

pub record ColumnsCorrected (sh : Shape) (flags : List Bool) (scores : List ℕ) (level : ℕ) (short before later : List ℕ) : Type 0 where
  pub same_length : length later ≡ length before
  pub bytes : (i a : ℕ) → i < sh.n → a < rows sh
      → get_or later (i * rows sh + a) 0
      ≡ cond (chosen flags i)
      (cond (eqb (get_or scores a 0) level) (add (get_or before (i * rows sh + a) 0) (correction_in sh flags short i a)) (get_or before (i * rows sh + a) 0))
      (get_or before (i * rows sh + a) 0)

-- What the tests of total and offsets find, in the words of the refusals.
use mathlib.Core.Path.{◌≡◌, ap, ◌∙◌}
use mathlib.Core.Bool.{Bool, false}
use mathlib.Core.List.{List}
use Prim.Native.Nat.{ℕ, ◌+◌, ◌*◌, ◌<◌}
use Rattle.std.specs.Prelude.{Option}
use Rattle.rules.specs.Shape.{rows}
use Rattle.rules.specs.declared.shapes.Sizes.{Sizes}
use Rattle.entries.specs.Pack.{columns_at, entry_at}
use Rattle.entries.specs.Promise.{is_shorter, found}
use Rattle.offsets.specs.Promise.{Placeable, WrongTotalIs, FirstWrongIs}
use Rattle.offsets.proofs.Placing.{total_by, offsets_by}
use native.Mathlib.Omega.{arith}
use Rattle.entries.specs.Parts.{shape_in, count_in}
use Rattle.entries.specs.Refusal.{wrong_total, first_wrong_offset}

-- the columns are placed as the rules place them, where the entries are there
module _ (pack : List ℕ) (z : Sizes) (start : ℕ) (own : z.shape ≡ shape_in pack) (uncut : is_shorter pack ≡ false)
    (begins : start ≡ 8 + 8 * count_in pack) (few : count_in pack < 256) where
  abbrev placed : Placeable pack start z.l
  placed = record { there = uncut; near = omega (arith, begins, few); short = z.of_shape.l-most }

  rows-own : z.l ≡ rows (shape_in pack)
  rows-own = z.of_shape.l-is ∙ ap rows own

  pub total_right : {answer : Bool} → WrongTotalIs pack start z.l answer → answer ≡ wrong_total pack
  unfolding columns_at entry_at
  total_right is = is.placed placed ∙ total_by pack start z.l begins rows-own

  pub offsets_right : {answer : Option ℕ} → FirstWrongIs pack start z.l answer → answer ≡ found (first_wrong_offset pack)
  unfolding columns_at entry_at
  offsets_right is = is.placed placed ∙ ap found (offsets_by pack start z.l begins rows-own)

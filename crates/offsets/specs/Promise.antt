-- What each function promises, for every input. `start` is where the first column is to begin, l how many bytes each is to have.
--   Placeable pack start l == the entries are there, `start` is at most 2,048, which is after 255 entries, and l at most 256
--   wrong_total_by pack start l == the total isn't start + p × l
--   wrong_offset_by pack start l e == the offset of entry e isn't start + e × l
--   WrongTotalIs pack start l answer == `wrong_total`: whether the total is wrong; true where columns can't be placed so
--   FirstWrongIs pack start l answer == `first_wrong_offset`: the first entry with a wrong offset, counted from 1, or none; 1 where columns can't be placed so
--   WrongLengthIs pack answer == `wrong_length`: whether the input's length is wrong; true where the entries aren't there
-- Where `start` is 8 + 8 × p and l as the rules have it, these are `wrong_total` and `first_wrong_offset` of the refusals (`Placing` of this crate's proofs).
use Rattle.std.specs.Prelude.{◌≡◌, Bool, true, false, not, List, Option, Some, ℕ, ◌+◌, ◌*◌, ◌≤◌, eqb}
use Rattle.entries.specs.Parts.{count_in, total_in, offset_in}
use Rattle.entries.specs.Refusal.{first_from, wrong_length}
use Rattle.entries.specs.Promise.{is_shorter, found}

pub record Placeable (pack : List ℕ) (start l : ℕ) : Type 0 where
  pub there : is_shorter pack ≡ false
  pub near : start ≤ 2048
  pub short : l ≤ 256

unfoldable pub wrong_total_by : List ℕ → ℕ → ℕ → Bool
wrong_total_by pack start l = not (eqb (total_in pack) (start + count_in pack * l))

unfoldable pub wrong_offset_by : List ℕ → ℕ → ℕ → ℕ → Bool
wrong_offset_by pack start l e = not (eqb (offset_in pack e) (start + e * l))

pub record WrongTotalIs (pack : List ℕ) (start l : ℕ) (answer : Bool) : Type 0 where
  pub placed : Placeable pack start l → answer ≡ wrong_total_by pack start l
  pub unplaced : (Placeable pack start l → ⊥) → answer ≡ true

pub record FirstWrongIs (pack : List ℕ) (start l : ℕ) (answer : Option ℕ) : Type 0 where
  pub placed : Placeable pack start l → answer ≡ found (first_from (wrong_offset_by pack start l) 0 (count_in pack))
  pub unplaced : (Placeable pack start l → ⊥) → answer ≡ Some 1

pub record WrongLengthIs (pack : List ℕ) (answer : Bool) : Type 0 where
  pub there : is_shorter pack ≡ false → answer ≡ wrong_length pack
  pub short : is_shorter pack ≡ true → answer ≡ true

-- What each function promises, for every input.
--   is_shorter pack      == the pack is shorter than its header and its entries
--   ShorterIs pack answer == `shorter`: true exactly so
--   found e             == an entry's number, counted from 1; none where it is 0
--   FirstBadIs pack answer == `first_bad_entry`: the first bad entry, counted from 1, or none; of one that is shorter it is 1
--   EntriesGood pack == the entries are there, n is at most sixteen, and no entry is bad
--   HeldIs pack held == the set of the entries' nodes, and of no other
--   HeldOfIs pack held == `held_of`: that set where the entries are good, and else the empty set
use Rattle.std.specs.Prelude.{◌≡◌, Bool, true, false, List, Option, None, Some, ℕ, zero, suc, ◌≤◌, ltb, length}
use Rattle.rules.specs.Lost.{bit_above}
use Rattle.entries.specs.Pack.{nodes_of, columns_at}
use Rattle.entries.specs.Parts.{shape_in, count_in, nodes_in}
use Rattle.entries.specs.Refusal.{first_bad_entry}

unfoldable pub is_shorter : List ℕ → Bool
is_shorter pack = ltb (length pack) (columns_at (count_in pack))

pub record ShorterIs (pack : List ℕ) (answer : Bool) : Type 0 where
  pub value : answer ≡ is_shorter pack

abbrev pub found : ℕ → Option ℕ
found zero = None
found (suc e) = Some (suc e)

pub record FirstBadIs (pack : List ℕ) (answer : Option ℕ) : Type 0 where
  pub there : is_shorter pack ≡ false → answer ≡ found (first_bad_entry pack)
  pub short : is_shorter pack ≡ true → answer ≡ Some 1

pub record EntriesGood (pack : List ℕ) : Type 0 where
  pub there : is_shorter pack ≡ false
  pub nodes : (shape_in pack).n ≤ 16
  pub good : first_bad_entry pack ≡ 0

pub record HeldIs (pack : List ℕ) (held : ℕ) : Type 0 where
  pub nodes : nodes_of (shape_in pack) held ≡ nodes_in pack (count_in pack)
  pub inside : bit_above (shape_in pack) held ≡ false

pub record HeldOfIs (pack : List ℕ) (held : ℕ) : Type 0 where
  pub formed : EntriesGood pack → HeldIs pack held
  pub unformed : (EntriesGood pack → ⊥) → held ≡ 0

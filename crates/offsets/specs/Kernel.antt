-- What the private functions promise. (`four_bytes` answers `number_at` of crate `entries`.)
--   PlaceableIs pack start l answer == `placeable`: true exactly where columns can be placed so
use Rattle.std.specs.Prelude.{◌≡◌, Bool, true, false, List, ℕ}
use Rattle.offsets.specs.Promise.{Placeable}

pub record PlaceableIs (pack : List ℕ) (start l : ℕ) (answer : Bool) : Type 0 where
  pub is : answer ≡ true → Placeable pack start l
  pub isnt : answer ≡ false → Placeable pack start l → ⊥

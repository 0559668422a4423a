-- What `apart` promises, for every input.
--   Apart count points == the first `count` points differ; one of them may be 0
--   FewApart count points == there are at most 4 of them, and they differ
--   ApartIs count points answer == `apart`: true exactly so
use Rattle.std.specs.Prelude.{◌≡◌, Bool, true, false, List, ℕ, ◌<◌, ◌≤◌, get_or}

abbrev pub Apart : ℕ → List ℕ → Type 0
Apart count points = (i j : ℕ) → i < count → j < count → get_or points i 0 ≡ get_or points j 0 → i ≡ j

pub record FewApart (count : ℕ) (points : List ℕ) : Type 0 where
  pub few : count ≤ 4
  pub apart : Apart count points

pub record ApartIs (count : ℕ) (points : List ℕ) (answer : Bool) : Type 0 where
  pub is : answer ≡ true → FewApart count points
  pub isnt : answer ≡ false → FewApart count points → ⊥

-- What the function of the program that answers something promises.
--   old           == what every buffer holds before it is lent to a call that is refused
--   HoldsOld list b == `is_old`: b says whether the list is these bytes
use Rattle.std.specs.Prelude.{◌≡◌, Bool, true, List, [], ◌∷◌, ℕ}

abbrev pub old : List ℕ
old = 91 ∷ 92 ∷ 93 ∷ 94 ∷ 95 ∷ 96 ∷ 97 ∷ 98 ∷ 99 ∷ 31 ∷ 32 ∷ 33 ∷ 34 ∷ []

pub record HoldsOld (list : List ℕ) (b : Bool) : Type 0 where
  pub right : b ≡ true → list ≡ old
  pub only : list ≡ old → b ≡ true

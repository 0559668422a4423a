-- Lists of numbers in rising order.
--   rising n L    == the numbers below n that pass the test L, in rising order: 0 .. n - 1, filtered
--   up_to n       == 0, 1, .., n - 1
--   Listed a list == a is one of the list
use Rattle.std.specs.Prelude.{◌≡◌, Bool, true, cond, List, [], ◌∷◌, ◌++◌, ◌⊎◌, ℕ, zero, suc}

unfoldable pub rising : ℕ → (ℕ → Bool) → List ℕ
rising zero L = []
rising (suc n) L = rising n L ++ cond (L n) (n ∷ []) []

abbrev pub up_to : ℕ → List ℕ
up_to n = rising n (λ a. true)

abbrev pub Listed : ℕ → List ℕ → Type 0
Listed a [] = ⊥
Listed a (b ∷ list) = (a ≡ b) ⊎ Listed a list

-- What `first_of` answers: document 01, "the first that applies is given, and none is given otherwise". In order: tests that are joined; what a
-- check for equality says where it doesn't apply; a list that gives none; a list that gives a number; two lists one after the other; what gives
-- no number gives none.
--   NoneApplies checks == no check of the list applies
--   FirstIs checks q == some check of the list applies and has the number q, and none that stands before it applies
use mathlib.Core.Path.{◌≡◌, refl}
use mathlib.Core.Bool.{Bool, true, false, cond, not, ◌&&◌, ◌||◌, true≢false, false≢true}
use mathlib.Core.List.{List, [], ◌∷◌, ◌++◌}
use mathlib.Core.Logic.{◌⊎◌, inl, inr}
use mathlib.Core.Option.{Option, none, some, none-ne-some, some-ne-none}
use Prim.Native.Nat.{ℕ}
use lib.Dec.{eqb}
use borrow.Author.Tests.{eqb-true, not-false}
use Rattle.rules.specs.Refusal.{Check, first_of}

pub both : (a b : Bool) → a && b ≡ true → (a ≡ true) × (b ≡ true)
both true b e = (refl, e)
both false b e = absurd (false≢true e)

pub neither : (a b : Bool) → a || b ≡ false → (a ≡ false) × (b ≡ false)
neither true b e = absurd (true≢false e)
neither false b e = (refl, e)

pub not_other : (x y : ℕ) → not (eqb x y) ≡ false → x ≡ y
not_other x y h = eqb-true x y (not-false (eqb x y) h)

abbrev pub NoneApplies : List Check → Type 0
NoneApplies [] = Unit {0}
NoneApplies (check ∷ rest) = (check.applies ≡ false) × NoneApplies rest

pub none-given : (checks : List Check) → first_of checks ≡ none → NoneApplies checks
none-given [] e = tt
none-given (check ∷ rest) e = go check.applies refl e (none-given rest)
  where
    go : (c : Bool) → check.applies ≡ c → cond c (some check.number) (first_of rest) ≡ none → (first_of rest ≡ none → NoneApplies rest)
        → (check.applies ≡ false) × NoneApplies rest
    go true a e ih = absurd (some-ne-none check.number e)
    go false a e ih = (a, ih e)

abbrev pub FirstIs : List Check → ℕ → Type 0
FirstIs [] q = ⊥
FirstIs (check ∷ rest) q = ((check.applies ≡ true) × (check.number ≡ q)) ⊎ ((check.applies ≡ false) × FirstIs rest q)

pub first-given : (checks : List Check) (q : ℕ) → first_of checks ≡ some q → FirstIs checks q
first-given [] q e = absurd (none-ne-some q e)
first-given (check ∷ rest) q e = go check.applies refl e (first-given rest q)
  where
    go : (c : Bool) → check.applies ≡ c → cond c (some check.number) (first_of rest) ≡ some q → (first_of rest ≡ some q → FirstIs rest q)
        → ((check.applies ≡ true) × (check.number ≡ q)) ⊎ ((check.applies ≡ false) × FirstIs rest q)
    go true a e ih = inl (a, cc)
    go false a e ih = inr (a, ih e)

pub first-later : (checks more : List Check) → first_of checks ≡ none → first_of (checks ++ more) ≡ first_of more
first-later [] more e = refl
first-later (check ∷ rest) more e = go check.applies e (first-later rest more)
  where
    go : (c : Bool) → cond c (some check.number) (first_of rest) ≡ none → (first_of rest ≡ none → first_of (rest ++ more) ≡ first_of more)
        → cond c (some check.number) (first_of (rest ++ more)) ≡ first_of more
    go true e ih = absurd (some-ne-none check.number e)
    go false e ih = ih e

pub first-earlier : (checks more : List Check) (q : ℕ) → first_of checks ≡ some q → first_of (checks ++ more) ≡ some q
first-earlier [] more q e = absurd (none-ne-some q e)
first-earlier (check ∷ rest) more q e = go check.applies e (first-earlier rest more q)
  where
    go : (c : Bool) → cond c (some check.number) (first_of rest) ≡ some q → (first_of rest ≡ some q → first_of (rest ++ more) ≡ some q)
        → cond c (some check.number) (first_of (rest ++ more)) ≡ some q
    go true e ih = e
    go false e ih = ih e

pub none_left : (z : Option ℕ) → ((q : ℕ) → z ≡ some q → ⊥) → z ≡ none
none_left none no_number = refl
none_left (some q) no_number = absurd (no_number q refl)

-- A number in decimal. In order: below 1,000 it is what the library writes; a number of one digit with the space before it; how long these are.
use mathlib.Core.Path.{◌≡◌, refl, sym, ap, ◌∙◌}
use mathlib.Core.Bool.{Bool, true, false, cond}
use mathlib.Core.List.{List, [], ◌∷◌, ◌++◌}
use mathlib.Core.Logic.{inl, inr}
use Prim.Native.Nat.{ℕ, ◌+◌, ◌/◌, ◌%◌, ◌≤◌, ◌<◌}
use native.Mathlib.Omega.{arith}
use lib.Dec.{ltb}
use lib.ListN.{length}
use borrow.Author.Tests.{lt-ltb, le-ltb}
use Rattle.std.proofs.lemmas.Bool.{cases_lt}
use Rattle.std.proofs.lemmas.Fmt.{decimal_digit, decimal_step}
use Rattle.std.specs.Fmt.{decimal as written}
use Rattle.text.specs.Text.{decimal, spaced}

-- two digits, three
two : (x : ℕ) → 10 ≤ x → x < 100 → written x ≡ (48 + x / 10) ∷ (48 + x % 10) ∷ []
two x low high = decimal_step x low (omega arith) ∙ ap (λ (ds : List ℕ). ds ++ (48 + x % 10) ∷ []) (decimal_digit (x / 10) (omega arith))

three : (x : ℕ) → 100 ≤ x → x < 1000 → written x ≡ (48 + x / 100) ∷ (48 + x / 10 % 10) ∷ (48 + x % 10) ∷ []
three x low high =
    let hundreds : x / 10 / 10 ≡ x / 100 = omega arith in
    decimal_step x (omega arith) (omega arith)
    ∙ ap (λ (ds : List ℕ). ds ++ (48 + x % 10) ∷ []) (two (x / 10) (omega arith) (omega arith))
    ∙ rw hundreds refl

pub spaced_written : (x : ℕ) → x < 1000 → spaced x ≡ 32 ∷ written x
unfolding spaced decimal
spaced_written x small = elim (cases_lt x 10) [
  | inl a ↦ rw (lt-ltb x 10 a) (ap (λ (ds : List ℕ). 32 ∷ ds) (sym (decimal_digit x a)))
  | inr a ↦ rw (le-ltb x 10 a) (elim (cases_lt x 100) [
    | inl b ↦ rw (lt-ltb x 100 b) (ap (λ (ds : List ℕ). 32 ∷ ds) (sym (two x a b)))
    | inr b ↦ rw (le-ltb x 100 b) (ap (λ (ds : List ℕ). 32 ∷ ds) (sym (three x b small)))
  ])
]

pub spaced-one : (x : ℕ) → x < 10 → spaced x ≡ 32 ∷ (48 + x % 10) ∷ []
unfolding spaced decimal
spaced-one x h = simp (lt-ltb x 10 h) (ap (λ d. 32 ∷ (48 + d) ∷ []) (omega arith))

-- whichever it is, by the two tests
abbrev digits : Bool → Bool → ℕ → List ℕ
digits a b x =
    cond a ((48 + x) ∷ []) (cond b ((48 + x / 10) ∷ (48 + x % 10) ∷ []) ((48 + x / 100) ∷ (48 + x / 10 % 10) ∷ (48 + x % 10) ∷ []))

spaced-is : (x : ℕ) → spaced x ≡ 32 ∷ digits (ltb x 10) (ltb x 100) x
unfolding spaced decimal
spaced-is x = refl

pub spaced-most : (x : ℕ) → length (spaced x) ≤ 4
spaced-most x = rw spaced-is (go (ltb x 10) (ltb x 100))
  where
    go : (a b : Bool) → length (32 ∷ digits a b x) ≤ 4
    go true b = omega arith
    go false true = omega arith
    go false false = omega arith

pub spaced-least : (x : ℕ) → 2 ≤ length (spaced x)
spaced-least x = rw spaced-is (go (ltb x 10) (ltb x 100))
  where
    go : (a b : Bool) → 2 ≤ length (32 ∷ digits a b x)
    go true b = omega arith
    go false true = omega arith
    go false false = omega arith

-- of a number below 100, such as a node's
pub spaced-short : (x : ℕ) → x < 100 → length (spaced x) ≤ 3
spaced-short x h = rw (spaced-is, lt-ltb x 100 h) (go (ltb x 10))
  where
    go : (a : Bool) → length (32 ∷ digits a true x) ≤ 3
    go true = omega arith
    go false = omega arith

-- Refusals in order: document 01, "Refusals in order". The first that applies is given, and none is given otherwise.
--   Check             == a refusal's number, with the test that says that it applies
--   q given-when b    == refusal q, which applies where the test b holds
--   first_of checks   == the number of the first of these that applies, or none
--   number_of q       == the number of a refusal
--   refusal_of answer == the number of the refusal that an answer is, or none where it is accepted
--   shape_refusal sh  == of a shape alone: 1, shape not accepted
--   not_node sh i     == i isn't 1 to n: what 3 is given for
use Rattle.std.specs.Prelude.{Bool, cond, not, ◌||◌, ltb, List, [], ◌∷◌, ℕ, Result, Ok, Err}
use Rattle.std.proofs.Math.Option.{Option, none, some}
use Rattle.rules.specs.declared.refusals.Refusal.{Refusal}
use Rattle.rules.specs.declared.refusals.Refusal.TheVariants as refusal
use Rattle.rules.specs.declared.shapes.Shape.{Shape}
use Rattle.rules.specs.Shape.{accepted}

pub record Check : Type 0 where
  pub number : ℕ
  pub applies : Bool

infix 80 ◌given-when◌
abbrev pub ◌given-when◌ : ℕ → Bool → Check
q given-when b = record { number = q; applies = b }

abbrev pub first_of : List Check → Option ℕ
first_of [] = none
first_of (check ∷ rest) = cond check.applies (some check.number) (first_of rest)

abbrev pub number_of : Refusal → ℕ
number_of refusal.BadShape = 1
number_of refusal.BadLength = 2
number_of refusal.BadNode = 3
number_of refusal.TooManyLost = 4
number_of refusal.NoWholeStripe = 5
number_of refusal.BadHeader = 6
number_of refusal.BadEntry = 7
number_of refusal.BadLayout = 8
number_of refusal.DivisionByZero = 9

abbrev pub refusal_of : {T : Type 0} → Result T Refusal → Option ℕ
refusal_of (Ok _) = none
refusal_of (Err q) = some (number_of q)

unfoldable pub shape_refusal : Shape → Option ℕ
shape_refusal sh = first_of (1 given-when not (accepted sh) ∷ [])

unfoldable pub not_node : Shape → ℕ → Bool
not_node sh i = ltb i 1 || ltb sh.n i

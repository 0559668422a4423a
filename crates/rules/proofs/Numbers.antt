-- A refusal and its number say the same. In order: a number says one refusal; answers with one number are the same.
--   numbered number == the refusal that has the number
use mathlib.Core.Path.{◌≡◌, refl, sym, ap, ◌∙◌}
use mathlib.Core.Bool.{cond}
use mathlib.Core.Option.{Option, none, some}
use Prim.Native.Nat.{ℕ}
use lib.Dec.{eqb}
use Rattle.std.specs.Prelude.{Result, Ok, Err}
use Rattle.rules.specs.declared.refusals.Refusal.{Refusal}
use Rattle.rules.specs.declared.refusals.Refusal.TheVariants as refusal
use Rattle.rules.specs.Refusal.{number_of, refusal_of}

abbrev numbered : ℕ → Option Refusal
numbered number =
    cond (eqb number 1) (some refusal.BadShape)
    (cond (eqb number 2) (some refusal.BadLength)
    (cond (eqb number 3) (some refusal.BadNode)
    (cond (eqb number 4) (some refusal.TooManyLost)
    (cond (eqb number 5) (some refusal.NoWholeStripe)
    (cond (eqb number 6) (some refusal.BadHeader)
    (cond (eqb number 7) (some refusal.BadEntry)
    (cond (eqb number 8) (some refusal.BadLayout)
    (cond (eqb number 9) (some refusal.DivisionByZero) none))))))))

numbered_back : (q : Refusal) → numbered (number_of q) ≡ some q
numbered_back refusal.BadShape = refl
numbered_back refusal.BadLength = refl
numbered_back refusal.BadNode = refl
numbered_back refusal.TooManyLost = refl
numbered_back refusal.NoWholeStripe = refl
numbered_back refusal.BadHeader = refl
numbered_back refusal.BadEntry = refl
numbered_back refusal.BadLayout = refl
numbered_back refusal.DivisionByZero = refl

pub number_of-injective : (p q : Refusal) → number_of p ≡ number_of q → p ≡ q
number_of-injective p q same =
    let both : some p ≡ some q = sym (numbered_back p) ∙ ap numbered same ∙ numbered_back q in cc

-- answers that only refuse
pub answers_settled : (a b : Result (Unit {0}) Refusal) → refusal_of a ≡ refusal_of b → a ≡ b
answers_settled (Ok x) (Ok y) same = refl
answers_settled (Ok x) (Err q) same = cc
answers_settled (Err p) (Ok y) same = cc
answers_settled (Err p) (Err q) same = let n : number_of p ≡ number_of q = cc in ap Err (number_of-injective p q n)

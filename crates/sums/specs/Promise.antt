-- What each function promises: its answer and every later byte of each buffer that it may write, on every input and under every refusal. `later` is what the
-- buffer holds when it returns.
--   TestMeets     == `test`
--   SumsOf sh C sums == the sums of all equations of the symbols C, those of t = 0 for every row first
--   SumsMeet      == `sums_of`
use Rattle.std.specs.Prelude.{◌≡◌, List, ℕ, ◌+◌, ◌*◌, ◌<◌, length, get_or, Result, Option}
use Rattle.std.proofs.Math.Option.{none, some}
use Rattle.rules.specs.declared.shapes.Shape.{Shape}
use Rattle.rules.specs.Shape.{rows}
use Rattle.rules.specs.Stripe.{Symbols, symbol}
use Rattle.rules.specs.Equation.{equation}
use Rattle.rules.specs.declared.refusals.Refusal.{Refusal}
use Rattle.rules.specs.Refusal.{refusal_of}
use Rattle.sums.specs.declared.answers.Failure.{Failure}
use Rattle.sums.specs.Answer.{refusal_of_test, FoundIs}
use Rattle.sums.specs.Refusal.{test_refusal, sums_refusal}

pub record TestMeets (sh : Shape) (stripe : List ℕ) (answer : Result (Option Failure) Refusal) : Type 0 where
  pub answered : refusal_of_test answer ≡ test_refusal sh stripe
  pub found : FoundIs sh stripe answer

pub record SumsOf (sh : Shape) (C : Symbols) (sums : List ℕ) : Type 0 where
  pub all : length sums ≡ sh.r * rows sh
  pub bytes : (t a : ℕ) → t < sh.r → a < rows sh → get_or sums (t * rows sh + a) 0 ≡ equation sh C a t

pub record SumsMeet (sh : Shape) (stripe buffer : List ℕ) (answer : Result (Unit {0}) Refusal) (later : List ℕ) : Type 0 where
  pub answered : refusal_of answer ≡ sums_refusal sh stripe buffer
  pub written : sums_refusal sh stripe buffer ≡ none → SumsOf sh (symbol sh stripe) later
  pub kept : (q : ℕ) → sums_refusal sh stripe buffer ≡ some q → later ≡ buffer

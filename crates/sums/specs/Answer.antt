-- What a test answers, in document 01's numbers and values.
--   refusal_of_test answer == the refusal's number, or none where the answer is no refusal
--   FoundIs sh stripe answer == what a test's answer says of the stripe: no failure, that it is whole; a failure, that it fails there first
use Rattle.std.specs.Prelude.{List, ℕ, Result, Ok, Err, Some, None}
use Rattle.std.specs.Prelude as prelude
use Rattle.std.proofs.Math.Option.{Option}
use Rattle.rules.specs.declared.refusals.Refusal.{Refusal}
use Rattle.rules.specs.declared.shapes.Shape.{Shape}
use Rattle.rules.specs.Refusal.{refusal_of}
use Rattle.rules.specs.Stripe.{symbol}
use Rattle.rules.specs.Equation as rules
use Rattle.sums.specs.declared.answers.Failure.{Failure}

abbrev pub refusal_of_test : Result (prelude.Option Failure) Refusal → Option ℕ
refusal_of_test answer = refusal_of answer

abbrev pub FoundIs : Shape → List ℕ → Result (prelude.Option Failure) Refusal → Type 0
FoundIs sh stripe (Ok None) = rules.Whole sh stripe
FoundIs sh stripe (Ok (Some f)) = rules.LowestFailure sh (symbol sh stripe) (rules.all_rows sh) f.row f.t
FoundIs sh stripe (Err q) = Unit {0}

use mathlib.Core.Path.{◌≡◌, refl, ap, subst, ◌∙◌}
use Rattle.std.specs.Prelude.{Option, Some, None, Result, Ok}
use Rattle.rules.specs.declared.refusals.Refusal.{Refusal}
use Rattle.sums.specs.declared.answers.Failure.{Failure}
use Rattle.sums.specs.Promise.{TestMeets}
use Rattle.capi.specs.Word.{shape_of}
use Rattle.capi.proofs.stripes.przytulisz_test.Goals as goal
use Rattle.capi.proofs.stripes.przytulisz_test.Goals.{After-test}

tested : (c : After-test) → {answer : Result (Option Failure) Refusal} → c.test.result ≡ answer
    → TestMeets (shape_of c.args.shape) c.args.stripe.now answer
tested c {answer} e =
    subst (λ sh. TestMeets sh c.args.stripe.now answer) c.shape_of.ensures
    (subst (TestMeets c.shape_of.result c.args.stripe.now) e c.test.ensures)

pub returns-in-Err : goal.returns-in-Err
returns-in-Err c = record { answer = _; meets = tested (goal.at.returns-in-Err c).After-test c.in-Err.is; told = (c.into.ensures, refl, refl, refl) }

pub returns-in-Ok-None : goal.returns-in-Ok-None
returns-in-Ok-None c = record {
  answer = Ok None;
  meets = tested (goal.at.returns-in-Ok-None c).After-test (c.in-Ok-None.is ∙ ap Ok c.in-Ok-None.field-0-is);
  told = (refl, refl, refl, refl);
}

pub returns-in-Ok-Some : goal.returns-in-Ok-Some
returns-in-Ok-Some c = record {
  answer = Ok (Some c.in-Ok-Some.f);
  meets = tested (goal.at.returns-in-Ok-Some c).After-test (c.in-Ok-Some.is ∙ ap Ok c.in-Ok-Some.field-0-is);
  told = (refl, refl, refl, refl);
}

-- What `rebuild` promises, for every input: its answer, and every later byte of the column that it is lent. `before` is what the column holds at the call,
-- `later` what it holds when the entry returns.
--   Rebuilt sh failed fractions later == `later` is l bytes and, with the fractions, meets the equations of every row read
--   RebuildMeets == `rebuild`
use Rattle.std.specs.Prelude.{◌≡◌, List, ℕ, Result}
use Rattle.std.proofs.Math.Option.{none, some}
use Rattle.rules.specs.declared.shapes.Shape.{Shape}
use Rattle.rules.specs.Shape.{rows}
use Rattle.rules.specs.Stripe.{IsBytes}
use Rattle.rules.specs.Fraction.{MeetsRead}
use Rattle.rules.specs.declared.refusals.Refusal.{Refusal}
use Rattle.rules.specs.Refusal.{refusal_of}
use Rattle.rebuild.specs.Refusal.{rebuild_refusal}

pub record Rebuilt (sh : Shape) (failed : ℕ) (fractions later : List ℕ) : Type 0 where
  pub bytes : IsBytes (rows sh) later
  pub meets : MeetsRead sh failed fractions later

pub record RebuildMeets (sh : Shape) (failed : ℕ) (fractions before : List ℕ) (answer : Result (Unit {0}) Refusal) (later : List ℕ) : Type 0 where
  pub answered : refusal_of answer ≡ rebuild_refusal sh failed fractions before
  pub rebuilt : rebuild_refusal sh failed fractions before ≡ none → Rebuilt sh failed fractions later
  pub kept : (q : ℕ) → rebuild_refusal sh failed fractions before ≡ some q → later ≡ before

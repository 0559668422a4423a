-- What each entry promises: its answer and every later byte of each buffer that it may write, on every input and under every refusal. `later` is what the
-- buffer holds when the entry returns.
--   Writes refused wanted before later == of a buffer lent to be written: where nothing is refused it then holds what is wanted, under every refusal
--                    what it held before
--   LayMeets      == `lay`
--   ReadBackMeets == `read_back`
--   CutMeets      == `cut`
use Rattle.std.specs.Prelude.{◌≡◌, List, ℕ, Result}
use Rattle.std.proofs.Math.Option.{Option, none, some}
use Rattle.rules.specs.declared.shapes.Shape.{Shape}
use Rattle.rules.specs.Stripe.{laid, read_back}
use Rattle.rules.specs.Fraction.{fraction}
use Rattle.rules.specs.declared.refusals.Refusal.{Refusal}
use Rattle.rules.specs.Refusal.{refusal_of}
use Rattle.yebarg.specs.Refusal.{lay_refusal, read_back_refusal, cut_refusal}

pub record Writes (refused : Option ℕ) (wanted before later : List ℕ) : Type 0 where
  pub written : refused ≡ none → later ≡ wanted
  pub kept : (q : ℕ) → refused ≡ some q → later ≡ before

pub record LayMeets (sh : Shape) (rec stripe : List ℕ) (answer : Result (Unit {0}) Refusal) (later : List ℕ) : Type 0 where
  pub answered : refusal_of answer ≡ lay_refusal sh rec stripe
  pub stripe-later : Writes (lay_refusal sh rec stripe) (laid sh rec stripe) stripe later

pub record ReadBackMeets (sh : Shape) (stripe buffer : List ℕ) (answer : Result (Unit {0}) Refusal) (later : List ℕ) : Type 0 where
  pub answered : refusal_of answer ≡ read_back_refusal sh stripe buffer
  pub buffer_later : Writes (read_back_refusal sh stripe buffer) (read_back sh stripe) buffer later

pub record CutMeets (sh : Shape) (helper failed : ℕ) (col buffer : List ℕ) (answer : Result (Unit {0}) Refusal) (later : List ℕ) : Type 0 where
  pub answered : refusal_of answer ≡ cut_refusal sh helper failed col buffer
  pub buffer_later : Writes (cut_refusal sh helper failed col buffer) (fraction sh failed col) buffer later

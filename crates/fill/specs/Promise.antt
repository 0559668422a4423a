-- What each entry promises, for every input: its answer, and every later byte of the stripe that it is lent. `later` is what the stripe holds when the entry
-- returns. `Filled` is in crate `rules`: n × l bytes, whole, and with the survivors' columns as they were.
--   FillMeets   == `fill`: the refusals 1 to 4; then the stripe is filled, or refusal 5 and nothing fills it; a refusal changes no byte
--   ParityMeets == `fill_parity`: the same with the parity columns as the lost ones, which is never refused with 5
use Rattle.std.specs.Prelude.{◌≡◌, List, ℕ, Result}
use Rattle.std.proofs.Math.Option.{none, some}
use Rattle.rules.specs.declared.shapes.Shape.{Shape}
use Rattle.rules.specs.Lost.{is_lost, is_parity, Filled}
use Rattle.rules.specs.declared.refusals.Refusal.{Refusal}
use Rattle.rules.specs.Refusal.{refusal_of}
use Rattle.fill.specs.Refusal.{fill_refusal, parity_refusal}

pub record FillMeets (sh : Shape) (lost : ℕ) (stripe : List ℕ) (answer : Result (Unit {0}) Refusal) (later : List ℕ) : Type 0 where
  -- 1 to 4
  pub refused : (q : ℕ) → fill_refusal sh lost stripe ≡ some q → refusal_of answer ≡ some q
  -- none of these: accepted, and filled
  pub filled : fill_refusal sh lost stripe ≡ none → refusal_of answer ≡ none → Filled sh (is_lost lost) stripe later
  -- or refused with 5, and the survivors belong to no whole stripe
  pub unfillable : fill_refusal sh lost stripe ≡ none → (q : ℕ) → refusal_of answer ≡ some q
      → (q ≡ 5) × ((other : List ℕ) → Filled sh (is_lost lost) stripe other → ⊥)
  pub kept : (q : ℕ) → refusal_of answer ≡ some q → later ≡ stripe

pub record ParityMeets (sh : Shape) (stripe : List ℕ) (answer : Result (Unit {0}) Refusal) (later : List ℕ) : Type 0 where
  pub answered : refusal_of answer ≡ parity_refusal sh stripe
  pub filled : parity_refusal sh stripe ≡ none → Filled sh (is_parity sh) stripe later
  pub kept : (q : ℕ) → parity_refusal sh stripe ≡ some q → later ≡ stripe

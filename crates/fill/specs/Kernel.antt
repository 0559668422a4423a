-- What the private functions of filling do, each result said whole. Nodes count from 0 here, as in `theory`; `chosen flags` is the set of the nodes whose flag
-- is set.
--   Standing sh count list b == `Chosen::stands`: true exactly where all r equations were used or the stripe is whole
--   FilledOne sh flags count list answer later == `Chosen::fill_in`, `Chosen::fill`: the chosen columns are filled; or refusal 5, nothing fills them and
--                         nothing is written, which isn't so where all r equations were used
use Rattle.std.specs.Prelude.{◌≡◌, Bool, true, false, List, ◌⊎◌, ℕ, ◌-◌, Result}
use Rattle.std.proofs.Math.Option.{none, some}
use Rattle.rules.specs.declared.refusals.Refusal.{Refusal}
use Rattle.rules.specs.declared.shapes.Shape.{Shape}
use Rattle.rules.specs.Refusal.{refusal_of}
use Rattle.rules.specs.Equation.{Whole}
use Rattle.rules.specs.Lost.{Filled}
use Rattle.corrections.specs.Correction.{chosen}

pub record Standing (sh : Shape) (count : ℕ) (list : List ℕ) (b : Bool) : Type 0 where
  pub stands : b ≡ true → (count ≡ sh.r) ⊎ Whole sh list
  pub not_all_used : b ≡ false → count ≡ sh.r → ⊥
  pub falls : b ≡ false → Whole sh list → ⊥

pub record FilledOne (sh : Shape) (flags : List Bool) (count : ℕ) (list : List ℕ) (answer : Result (Unit {0}) Refusal) (later : List ℕ) : Type 0 where
  pub fills : refusal_of answer ≡ none → Filled sh (λ i. chosen flags (i - 1)) list later
  pub none-fills : (q : ℕ) → refusal_of answer ≡ some q → (q ≡ 5) × ((other : List ℕ) → Filled sh (λ i. chosen flags (i - 1)) list other → ⊥)
  pub kept : (q : ℕ) → refusal_of answer ≡ some q → later ≡ list
  pub always : count ≡ sh.r → refusal_of answer ≡ none

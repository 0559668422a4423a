-- What `fill_levels` promises, for every input. Nodes count from 0 here, as in `theory`; `chosen`, the set of the nodes whose flag is
-- set, is in crates/corrections/specs/Correction.antt.
--   NoneFrom n flags   == no node from n on is chosen
--   LevelsCorrected sh flags count before later == what fills the chosen columns by as many equations as nodes are chosen, in theory's words (`code` and
--                         `stripe` carry the rules over: crates/rules/proofs/House.antt)
--   Fillable sh flags stripe == what it is given can be filled: an accepted shape, n × l bytes, at most r nodes chosen and none above n
--   LevelsAre == `fill_levels`: Ok exactly where it can be filled, and then every later byte is settled by what fills; else nothing is written
use Rattle.std.specs.Prelude.{◌≡◌, Bool, false, List, ℕ, ◌≤◌, length, Result, OnOk, OnErr}
use Rattle.std.proofs.Math.Option.{none}
use Rattle.theory.specs.Set.{count}
use Rattle.theory.specs.Whole.{Fills}
use Rattle.rules.specs.declared.refusals.Misfit.{Misfit}
use Rattle.rules.specs.declared.shapes.Shape.{Shape}
use Rattle.rules.specs.Refusal.{shape_refusal}
use Rattle.rules.specs.Stripe.{stripe_length, symbol, IsBytes}
use Rattle.rules.proofs.House.{code, stripe}
use Rattle.corrections.specs.Correction.{chosen}

abbrev pub NoneFrom : ℕ → List Bool → Type 0
NoneFrom n flags = (i : ℕ) → n ≤ i → chosen flags i ≡ false

pub record LevelsCorrected (sh : Shape) (flags : List Bool) (count : ℕ) (before later : List ℕ) : Type 0 where
  pub same_length : length later ≡ length before
  pub fills : Fills (code sh) count (chosen flags) (stripe sh (symbol sh before)) (stripe sh (symbol sh later))

pub record Fillable (sh : Shape) (flags : List Bool) (before : List ℕ) : Type 0 where
  pub taken : shape_refusal sh ≡ none
  pub exact : length before ≡ stripe_length sh
  pub none_above : NoneFrom sh.n flags
  pub few : count sh.n (chosen flags) ≤ sh.r

pub record LevelsAre (sh : Shape) (flags : List Bool) (before : List ℕ) (answer : Result (Unit {0}) Misfit) (later : List ℕ) : Type 0 where
  pub can : OnOk answer (Fillable sh flags before)
  pub bytes : OnOk answer (IsBytes (stripe_length sh) later)
  pub filled : OnOk answer (LevelsCorrected sh flags (count sh.n (chosen flags)) before later)
  pub cannot : OnErr answer (Fillable sh flags before → ⊥)
  pub kept : OnErr answer (later ≡ before)

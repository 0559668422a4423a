-- What `correct_columns` promises, for every input.
--   Correctable sh scores short stripe == what it is given can be corrected: an accepted shape, a score for each row, m × s × l bytes of what the weights
--                      fall short by, and n × l bytes to correct
--   CorrectionsAre == `correct_columns`: Ok exactly where it can be corrected, and then every later byte is given; else nothing is written
use Rattle.std.specs.Prelude.{◌≡◌, Bool, List, ℕ, ◌*◌, ◌≤◌, length, Result, OnOk, OnErr}
use Rattle.std.proofs.Math.Option.{none}
use Rattle.rules.specs.declared.refusals.Misfit.{Misfit}
use Rattle.rules.specs.declared.shapes.Shape.{Shape}
use Rattle.rules.specs.Shape.{group_size, groups, rows}
use Rattle.rules.specs.Refusal.{shape_refusal}
use Rattle.corrections.specs.Correction.{ColumnsCorrected}

pub record Correctable (sh : Shape) (scores short stripe : List ℕ) : Type 0 where
  pub taken : shape_refusal sh ≡ none
  pub scores_enough : rows sh ≤ length scores
  pub short-exact : length short ≡ groups sh * group_size sh * rows sh
  pub exact : length stripe ≡ sh.n * rows sh

pub record CorrectionsAre (sh : Shape) (flags : List Bool) (scores : List ℕ) (level : ℕ) (short before : List ℕ) (answer : Result (Unit {0}) Misfit)
    (later : List ℕ) : Type 0 where
  pub can : OnOk answer (Correctable sh scores short before)
  pub corrected : OnOk answer (ColumnsCorrected sh flags scores level short before later)
  pub cannot : OnErr answer (Correctable sh scores short before → ⊥)
  pub kept : OnErr answer (later ≡ before)

-- What the private functions do, each result said whole. Nodes count from 0 here, as in `theory`, and theory's words are meant where a level is
-- spoken of: `code`, `stripe` and `number`, which carry the rules over, are in crates/rules/proofs/House.antt and crates/field/proofs/Numbers.antt. l is
-- the length of a column.
--   InOrder n flags nodes == the chosen nodes below n are listed in rising order: before each are as many as its index says
--   Placed nodes count l found before later == `Lost::place`: column j of `found` is put where node nodes j has its column; the others stay
--   bytes_at sh list == theory's stripe of the columns that stand end to end in a list
--   LevelCorrected sh flags k level before later == `Lost::correct_level`: what theory calls corrected, at the rows of that score
use Rattle.std.specs.Prelude.{◌≡◌, Bool, true, List, ℕ, ◌+◌, ◌*◌, ◌<◌, length, get_or}
use Rattle.theory.specs.Set.{count}
use Rattle.theory.specs.Code.{Stripe}
use Rattle.theory.specs.Correction as corrections
use Rattle.field.proofs.Numbers.{number}
use Rattle.rules.specs.declared.shapes.Shape.{Shape}
use Rattle.rules.specs.Shape.{rows}
use Rattle.rules.specs.Stripe.{symbol}
use Rattle.rules.proofs.House.{code, stripe}
use Rattle.corrections.specs.Correction.{chosen}

pub record InOrder (n : ℕ) (flags : List Bool) (nodes : List ℕ) : Type 0 where
  pub below : (j : ℕ) → j < count n (chosen flags) → get_or nodes j 0 < n
  pub inside : (j : ℕ) → j < count n (chosen flags) → chosen flags (get_or nodes j 0) ≡ true
  pub rises : (j : ℕ) → j < count n (chosen flags) → count (get_or nodes j 0) (chosen flags) ≡ j

pub record Placed (nodes : List ℕ) (count l : ℕ) (found before later : List ℕ) : Type 0 where
  pub same_length : length later ≡ length before
  pub each : (j a : ℕ) → j < count → a < l → get_or later (get_or nodes j 0 * l + a) 0 ≡ get_or found (j * l + a) 0
  pub others : (i a : ℕ) → ((j : ℕ) → j < count → get_or nodes j 0 ≡ i → ⊥) → a < l → get_or later (i * l + a) 0 ≡ get_or before (i * l + a) 0

abbrev pub bytes_at : (sh : Shape) → List ℕ → Stripe (code sh)
bytes_at sh list i a = number (get_or list (i * rows sh + a) 0)

pub record LevelCorrected (sh : Shape) (flags : List Bool) (k level : ℕ) (before later : List ℕ) : Type 0 where
  pub same_length : length later ≡ length before
  pub short : List ℕ
  pub corrected :
      corrections.Corrected (code sh) k (chosen flags) level (stripe sh (symbol sh before)) (bytes_at sh short) (stripe sh (symbol sh later))

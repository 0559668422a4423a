-- Free groups and good rows, so that filling and rebuilding are one theorem. The nodes of a free group stand alone: their weight is their own symbol.
-- Filling has no free group and every row; rebuilding frees the failed node's group and has the rows read. Good rows are of uniqueness alone.
--   no_group              == no group is free
--   weight_free c free C a i == the weight of node i at row a; in a free group the own symbol
--   MeetsFree c k free C a == row a meets its first k equations, with these weights
--   Closed c free good    == with a row the mate rows are good, but those of free groups
--   Blank c k free good L D == D is 0 outside the set L, which has at most k nodes, and meets its k equations, all in the good rows
use Rattle.std.specs.Prelude.{◌≡◌, Bool, false, cond, ℕ, ◌<◌, ◌≤◌}
use Rattle.theory.specs.Code.{Code, Stripe, nodes, rows}
use Rattle.theory.specs.Digit.{group}
use Rattle.theory.specs.Power.{moment}
use Rattle.theory.specs.Set.{count}
use Rattle.theory.specs.Weight.{weight, mate_row}

abbrev pub no_group : ℕ → Bool
no_group v = false

unfoldable pub weight_free : (c : Code) → (ℕ → Bool) → Stripe c → ℕ → ℕ → c.field.K
weight_free c free C a i = cond (free (group c.s i)) (C i a) (weight c C a i)

abbrev pub MeetsFree : (c : Code) → ℕ → (ℕ → Bool) → Stripe c → ℕ → Type 0
MeetsFree c k free C a = (t : ℕ) → t < k → moment c.field (nodes c) c.point (weight_free c free C a) t ≡ c.field.zero

abbrev pub Closed : (c : Code) → (ℕ → Bool) → (ℕ → Type 0) → Type 0
Closed c free good = (a i : ℕ) → i < nodes c → free (group c.s i) ≡ false → good a → good (mate_row c.s a i)

pub record Blank (c : Code) (k : ℕ) (free : ℕ → Bool) (good : ℕ → Type 0) (L : ℕ → Bool) (D : Stripe c) : Type 0 where
  pub few : count (nodes c) L ≤ k
  pub off : (i a : ℕ) → i < nodes c → a < rows c → good a → L i ≡ false → D i a ≡ c.field.zero
  pub meets : (a : ℕ) → a < rows c → good a → MeetsFree c k free D a

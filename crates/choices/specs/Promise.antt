-- What each public function promises, for every input. Nodes count from 0 here, as in `theory`; s is the size of a group, m the number of groups, l the
-- length of a column. `chosen`, the set of the nodes whose flag is set, is in crates/corrections/specs/Correction.antt.
--   CountIs n flags x == `count_of`: how many of the first n nodes are chosen
--   ListedAre n flags nodes == four numbers: the chosen nodes below n in rising order, so that before each are as many as its index says; 0 after them
--   ListIs n flags nodes == `listed`: that, where at most four are chosen, or else zeros
--   PointsAre sh nodes points == `points_of`: the point of each node below 16, and 0 for any other
--   ScoresAre s m l flags scores == 256 numbers: the score of each row below l against the chosen nodes, and 0 after them
--   ScoresMeet sh flags scores == `scores_of`: that, where the shape is accepted, or else zeros
--   AnyIs scores level answer == `any_at`: true where some row has that score, false where none has
use Rattle.std.specs.Prelude.{◌≡◌, Bool, true, false, List, ℕ, suc, ◌<◌, ◌≤◌, length, get_or, replicate}
use Rattle.std.proofs.Math.Option.{none, some}
use Rattle.theory.specs.Set.{count, Lists}
use Rattle.theory.specs.Free.{no_group}
use Rattle.theory.specs.Score.{score}
use Rattle.rules.specs.declared.shapes.Shape.{Shape}
use Rattle.rules.specs.Shape.{group_size, groups, rows}
use Rattle.rules.specs.Point.{point_of}
use Rattle.rules.specs.Refusal.{shape_refusal}
use Rattle.corrections.specs.Correction.{chosen}

pub record CountIs (n : ℕ) (flags : List Bool) (x : ℕ) : Type 0 where
  pub value : x ≡ count n (chosen flags)

pub record ListedAre (n : ℕ) (flags : List Bool) (nodes : List ℕ) : Type 0 where
  pub all : length nodes ≡ 4
  pub lists : Lists n (chosen flags) (count n (chosen flags)) (λ j. get_or nodes j 0)
  pub rises : (j : ℕ) → j < count n (chosen flags) → count (get_or nodes j 0) (chosen flags) ≡ j
  pub rest : (j : ℕ) → count n (chosen flags) ≤ j → get_or nodes j 0 ≡ 0

pub record ListIs (n : ℕ) (flags : List Bool) (nodes : List ℕ) : Type 0 where
  pub few : count n (chosen flags) ≤ 4 → ListedAre n flags nodes
  pub many : 4 < count n (chosen flags) → nodes ≡ replicate 4 0

pub record PointsAre (sh : Shape) (nodes points : List ℕ) : Type 0 where
  pub all : length points ≡ 4
  pub inside : (j : ℕ) → j < 4 → get_or nodes j 0 < 16 → get_or points j 0 ≡ point_of sh (suc (get_or nodes j 0))
  pub outside : (j : ℕ) → j < 4 → 16 ≤ get_or nodes j 0 → get_or points j 0 ≡ 0

pub record ScoresAre (s m l : ℕ) (flags : List Bool) (scores : List ℕ) : Type 0 where
  pub all : length scores ≡ 256
  pub each : (a : ℕ) → a < l → get_or scores a 0 ≡ score s m no_group (chosen flags) a
  pub rest : (a : ℕ) → l ≤ a → get_or scores a 0 ≡ 0

pub record ScoresMeet (sh : Shape) (flags : List Bool) (scores : List ℕ) : Type 0 where
  pub inside : shape_refusal sh ≡ none → ScoresAre (group_size sh) (groups sh) (rows sh) flags scores
  pub outside : shape_refusal sh ≡ some 1 → scores ≡ replicate 256 0

pub record AnyIs (scores : List ℕ) (level : ℕ) (answer : Bool) : Type 0 where
  pub is : answer ≡ true → (a : ℕ) × (a < length scores) × (get_or scores a 0 ≡ level)
  pub isnt : answer ≡ false → (a : ℕ) → a < length scores → get_or scores a 0 ≡ level → ⊥

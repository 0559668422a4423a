-- Level by level. In order: before the first level; a level more, by corrections or because no row has it; after the last.
use mathlib.Core.Path.{◌≡◌, refl, ◌∙◌}
use mathlib.Core.Bool.{Bool, false}
use mathlib.Core.List.{List}
use Prim.Native.Nat.{ℕ, ◌+◌, ◌*◌, ◌≤◌}
use native.Mathlib.Numerals.{add-one}
use native.Mathlib.Omega.{arith}
use lib.ListN.{length, take}
use lib.Seq.{get_or-take, length-take-le}
use Rattle.theory.specs.Free.{no_group}
use Rattle.theory.specs.Level.{Level}
use Rattle.theory.specs.Score.{score}
use Rattle.theory.specs.Set.{count}
use Rattle.theory.proofs.Counts.{count-beyond}
use Rattle.theory.proofs.Scores.{score-few}
use Rattle.theory.proofs.Levels.{level_start, level_empty}
use Rattle.theory.proofs.Filling.{level-whole}
use Rattle.theory.proofs.Corrections.{correction-step}
use Rattle.rules.specs.declared.shapes.Shape.{Shape}
use Rattle.rules.specs.Shape.{group_size, groups, rows}
use Rattle.rules.specs.Stripe.{symbol}
use Rattle.rules.proofs.Accepted.{Bounds, size-some, nodes-least}
use Rattle.rules.proofs.House.{code, stripe, house_lawful}
use Rattle.corrections.specs.Correction.{chosen}
use Rattle.levels.specs.Promise.{NoneFrom, LevelsCorrected}
use Rattle.choices.specs.Promise.{ScoresAre, AnyIs}
use Rattle.levels.specs.Kernel.{LevelCorrected}

-- the levels below n are done
abbrev pub LevelsDone : Shape → List Bool → ℕ → List ℕ → ℕ → List ℕ → Type 0
LevelsDone sh flags k before n now = (length now ≡ length before)
    × Level (code sh) k no_group (chosen flags) (stripe sh (symbol sh before)) n (stripe sh (symbol sh now))

module _ (sh : Shape) (b : Bounds sh) (flags : List Bool) (k : ℕ) (before : List ℕ) where
  pub done_start : LevelsDone sh flags k before 0 before
  done_start = (refl, level_start (code sh) k (chosen flags) _ _ (λ i a il al out. refl))

  pub done-corrected : (n : ℕ) (now later : List ℕ) → LevelsDone sh flags k before n now → LevelCorrected sh flags k n now later → LevelsDone sh flags k before (n + 1) later
  done-corrected n now later (same, level) step = rw (add-one n) (
    step.same_length ∙ same,
    correction-step (code sh) (house_lawful sh b) k (chosen flags) (stripe sh (symbol sh before)) n _ _ _ level step.corrected,
  )

  pub done_none : (n l : ℕ) (scores now : List ℕ) → l ≡ rows sh → ScoresAre (group_size sh) (groups sh) (rows sh) flags scores → LevelsDone sh flags k before n now
      → AnyIs (take l scores) n false → LevelsDone sh flags k before (n + 1) now
  unfolding rows
  done_none n l scores now is-l right (same, level) none = rw (add-one n) (
    same,
    level_empty (code sh) k (chosen flags) (stripe sh (symbol sh before)) n _ level (λ a al e.
        none.isnt refl a (omega (arith, al, is-l, length-take-le l scores (omega (arith, right.all, is-l, b.l-most))))
        (get_or-take l scores a 0 (omega (arith, al, is-l)) ∙ right.each a al ∙ e)),
  )

  -- a row scores at most as many as are chosen, and these are at most four
  pub done_all : (n : ℕ) (now : List ℕ) → 5 ≤ n → NoneFrom sh.n flags → count sh.n (chosen flags) ≤ 4 → LevelsDone sh flags k before n now
      → LevelsCorrected sh flags k before now
  done_all n now h beyond few (same, level) = record {
    same_length = same;
    fills = level-whole (code sh) k (chosen flags) (stripe sh (symbol sh before)) (stripe sh (symbol sh now))
        (record { kept = level.kept; meets = λ a al low. level.meets a al (omega (arith, scores a, all-chosen, few)) });
  }
    where
      scores : (a : ℕ) → score (group_size sh) (groups sh) no_group (chosen flags) a ≤ count (groups sh * group_size sh) (chosen flags)
      scores a = score-few (group_size sh) (size-some sh b) (groups sh) no_group (chosen flags) a

      all-chosen : count (groups sh * group_size sh) (chosen flags) ≡ count sh.n (chosen flags)
      all-chosen = count-beyond sh.n (groups sh * group_size sh) (chosen flags) beyond (nodes-least sh b)

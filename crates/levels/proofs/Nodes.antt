-- The chosen nodes as a set. In order: where no more are chosen in all than below n, none is chosen from n on; the list of them;
-- as a set of document 01's nodes.
use mathlib.Core.Path.{◌≡◌, refl, sym, ap, ◌∙◌}
use mathlib.Core.Bool.{Bool, true, false}
use mathlib.Core.List.{List}
use Prim.Native.Nat.{ℕ, suc, ◌-◌, ◌≤◌, ◌<◌}
use native.Mathlib.Decide.{dec_le}
use native.Mathlib.Omega.{arith}
use lib.ListN.{length, get_or}
use Rattle.theory.specs.Set.{count, Lists}
use Rattle.theory.proofs.Counts.{count-suc, count_up}
use Rattle.rules.specs.declared.shapes.Shape.{Shape}
use Rattle.rules.proofs.LostSets.{real, real_in, real-out}
use Rattle.corrections.specs.Correction.{chosen}
use Rattle.choices.proofs.Counting.{beyond}
use Rattle.choices.proofs.Listing.{same-member}
use Rattle.choices.specs.Promise.{ListedAre}
use Rattle.levels.specs.Promise.{NoneFrom}
use Rattle.levels.specs.Kernel.{InOrder}

module _ (n : ℕ) (flags : List Bool) (all : length flags ≡ 16) where
  pub none_from : count 16 (chosen flags) ≤ count n (chosen flags) → NoneFrom n flags
  none_from few i h = go (dec_le 16 i)
    where
      at : (b : Bool) → chosen flags i ≡ b → i < 16 → b ≡ false
      at false e k = refl
      at true e k =
          absurd (omega (arith, few, count_up n i (chosen flags) h, count_up (suc i) 16 (chosen flags) k, simp e at (count-suc i (chosen flags))))

      go : Dec (16 ≤ i) → chosen flags i ≡ false
      go (yes k) = beyond flags i (omega (arith, all, k))
      go (no k) = at (chosen flags i) refl (omega (arith, k))

module _ {n : ℕ} {flags : List Bool} {nodes : List ℕ} where
  pub in_order : ListedAre n flags nodes → InOrder n flags nodes
  in_order are = record { below = are.lists.below; inside = are.lists.inside; rises = are.rises }

  module _ (ordered : InOrder n flags nodes) where
    ordered-once : (i j : ℕ) → i < count n (chosen flags) → j < count n (chosen flags) → get_or nodes i 0 ≡ get_or nodes j 0 → i ≡ j
    ordered-once i j hi hj e = sym (ordered.rises i hi) ∙ ap (λ k. count k (chosen flags)) e ∙ ordered.rises j hj

    pub ordered-lists : Lists n (chosen flags) (count n (chosen flags)) (λ j. get_or nodes j 0)
    ordered-lists = record {
      below = ordered.below;
      inside = ordered.inside;
      once = ordered-once;
      all = λ i h into.
          let before : count i (chosen flags) < count n (chosen flags) = omega (arith, count_up (suc i) n (chosen flags) h, simp into at (count-suc i (chosen flags))) in (
            count i (chosen flags),
            before,
            same-member (chosen flags) _ i (ordered.inside _ before) into (ordered.rises _ before),
          );
    }

pub real-chosen : (sh : Shape) (flags : List Bool) → NoneFrom sh.n flags → (i : ℕ) → real sh (λ j. chosen flags (j - 1)) i ≡ chosen flags i
real-chosen sh flags none i = go (dec_le (suc i) sh.n)
  where
    go : Dec (suc i ≤ sh.n) → real sh (λ j. chosen flags (j - 1)) i ≡ chosen flags i
    go (yes h) = real_in sh (λ j. chosen flags (j - 1)) i h ∙ ap (chosen flags) (omega arith)
    go (no h) = real-out sh (λ j. chosen flags (j - 1)) i (omega arith) ∙ sym (none i (omega arith))

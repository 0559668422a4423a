-- The list of chosen nodes, as it grows by one node after the other. In order: the empty list; a node left out; a node put at the end; past the last flag
-- nothing is added; a member of a set is told by how many come before it.
-- Assumes nothing.
use mathlib.Core.Path.{◌≡◌, refl, sym, ap, subst, ◌∙◌, fun_ext}
use mathlib.Core.List.{List}
use mathlib.Core.Bool.{Bool, true, false}
use Prim.Native.Nat.{ℕ, zero, suc, ◌+◌, ◌-◌, ◌≤◌, ◌<◌, min}
use native.Mathlib.Nat.{add-zero, min-eq_left, min-eq_right}
use native.Mathlib.Numerals.{add-one}
use native.Mathlib.Omega.{arith}
use native.Mathlib.Decide.{ℕ_discrete, dec_le}
use lib.ListN.{length, get_or, set, replicate, length-set}
use lib.Seq.{get_or-set_same, get_or-set_other}
use Rattle.theory.specs.Set.{count, changed}
use Rattle.theory.proofs.Counts.{count-zero, count-suc, count_up, changed_case, lists_skip, lists_more}
use Rattle.columns.proofs.Parts.{zeros-at}
use Rattle.corrections.specs.Correction.{chosen}
use Rattle.choices.specs.Promise.{ListedAre}
use Rattle.choices.proofs.Counting.{beyond}

pub listed_start : (flags : List Bool) → ListedAre 0 flags (replicate 4 0)
listed_start flags = record {
  all = refl;
  lists = rw count-zero (record {
    below = λ j m. absurd (omega arith);
    inside = λ j m. absurd (omega arith);
    once = λ i j a b q. absurd (omega arith);
    all = λ i m q. absurd (omega arith);
  });
  rises = λ j h. absurd (omega (arith, count-zero (chosen flags)));
  rest = λ j h. zeros-at 4 j;
}

-- an entry set is a function changed at one place
entries-set : (nodes : List ℕ) (k x : ℕ) → k < length nodes → changed k x (λ t. get_or nodes t 0) ≡ (λ t. get_or (set nodes k x) t 0)
entries-set nodes k x h =
    fun_ext (λ t.
    changed_case (λ y. y ≡ get_or (set nodes k x) t 0) k x (λ u. get_or nodes u 0) t
    (λ e. rw e (sym (get_or-set_same nodes k x 0 h)))
    (λ ne. sym (get_or-set_other nodes k t x 0 ne)))

-- before each of a list's nodes are as many as its index says, also once i is put at the end
rises_more : (L : ℕ → Bool) (nodes : List ℕ) (i : ℕ) → count i L < length nodes
    → ((j : ℕ) → j < count i L → count (get_or nodes j 0) L ≡ j)
    → (j : ℕ) → j < suc (count i L) → count (get_or (set nodes (count i L) i) j 0) L ≡ j
rises_more L nodes i room rises j l = go (ℕ_discrete j (count i L))
  where
    go : Dec (j ≡ count i L) → count (get_or (set nodes (count i L) i) j 0) L ≡ j
    go (yes e) =
        ap (λ k. count (get_or (set nodes (count i L) i) k 0) L) e ∙ ap (λ k. count k L) (get_or-set_same nodes (count i L) i 0 room) ∙ sym e
    go (no ne) = ap (λ k. count k L) (get_or-set_other nodes (count i L) j i 0 ne) ∙ rises j (omega (arith, l, ne))

module _ {i : ℕ} {flags : List Bool} {nodes : List ℕ} (are : ListedAre i flags nodes) where
  count_same : chosen flags i ≡ false → count (suc i) (chosen flags) ≡ count i (chosen flags)
  count_same out = simp (count-suc, out, add-zero)

  count_more : chosen flags i ≡ true → count (suc i) (chosen flags) ≡ suc (count i (chosen flags))
  count_more taken = simp (count-suc, taken, add-one)

  pub listed_skip : chosen flags i ≡ false → ListedAre (suc i) flags nodes
  listed_skip out = record {
    all = are.all;
    lists = rw (count_same out) (lists_skip i (chosen flags) _ _ out are.lists);
    rises = λ j h. are.rises j (omega (arith, count_same out));
    rest = λ j h. are.rest j (omega (arith, count_same out));
  }

  pub listed_more : chosen flags i ≡ true → count i (chosen flags) < 4 → ListedAre (suc i) flags (set nodes (count i (chosen flags)) i)
  listed_more taken room = record {
    all = length-set nodes _ i ∙ are.all;
    lists =
        rw (count_more taken, ← entries-set nodes (count i (chosen flags)) i (omega (arith, are.all)))
        (lists_more i (chosen flags) _ _ taken are.lists);
    rises = λ j h. rises_more (chosen flags) nodes i (omega (arith, are.all)) are.rises j (omega (arith, h, count_more taken));
    rest = λ j h. get_or-set_other nodes _ j i 0 (λ q. omega (arith, count_more taken)) ∙ are.rest j (omega (arith, count_more taken));
  }

-- past the last flag none is chosen, so the list of the first 16 is that of more
listed-past : {flags : List Bool} {nodes : List ℕ} → length flags ≡ 16 → (k : ℕ) → ListedAre 16 flags nodes → ListedAre (16 + k) flags nodes
listed-past all zero are = are
listed-past {flags} {nodes} all (suc k) are =
    subst (λ n. ListedAre n flags nodes) (omega arith) (listed_skip (listed-past all k are) (beyond flags (16 + k) (omega (arith, all))))

pub listed-first : (n : ℕ) {flags : List Bool} {nodes : List ℕ} → length flags ≡ 16 → {e : ℕ} → e ≡ min n 16 → ListedAre e flags nodes → ListedAre n flags nodes
listed-first n {flags} {nodes} all {e} is are = go (dec_le n 16)
  where
    go : Dec (n ≤ 16) → ListedAre n flags nodes
    go (yes h) = subst (λ k. ListedAre k flags nodes) (is ∙ min-eq_left h) are
    go (no h) =
        subst (λ k. ListedAre k flags nodes) (omega arith)
        (listed-past all (n - 16) (subst (λ k. ListedAre k flags nodes) (is ∙ min-eq_right (omega arith)) are))

not_before : (L : ℕ → Bool) (a b : ℕ) → L a ≡ true → count a L ≡ count b L → a < b → ⊥
not_before L a b into same h = omega (arith, same, count_up (suc a) b L h, simp into at (count-suc a L))

pub same-member : (L : ℕ → Bool) (a b : ℕ) → L a ≡ true → L b ≡ true → count a L ≡ count b L → a ≡ b
same-member L a b ia ib same = omega (arith, not_before L a b ia same, not_before L b a ib (sym same))

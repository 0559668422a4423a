-- Laws of flags: no flag from n on, and the count below n. In order: for any set; for a lost set; for parity. What holds of each flag by itself is in crate
-- `lost`. Assumes nothing.
use mathlib.Core.Path.{◌≡◌, refl, ap, ap₂, ◌∙◌}
use mathlib.Core.List.{List}
use mathlib.Core.Bool.{Bool, true, false, ◌&&◌, and-false}
use Prim.Native.Nat.{ℕ, suc, ◌+◌, ◌/◌, ◌^◌, ◌≤◌, ◌<◌}
use native.Mathlib.Nat.{pow-le-pow_right}
use native.Mathlib.Omega.{arith}
use lib.Dec.{leb, ltb}
use borrow.Author.Tests.{lt-ltb, le-leb, lt-leb, ltb-true, ltb-false}
use Rattle.theory.specs.Set.{count}
use Rattle.theory.proofs.Counts.{count_ext, count_none, count-all, count-split}
use Rattle.rules.specs.Lost.{is_lost, lost_count}
use Rattle.rules.proofs.Ties.{lost_tie}
use Rattle.rules.proofs.LostSets.{bits_below, lost-beyond}
use Rattle.corrections.specs.Correction.{chosen}
use Rattle.levels.specs.Promise.{NoneFrom}
use Rattle.lost.specs.Promise.{FlagsAre}
use Rattle.lost.proofs.Flagged.{flags-beyond, before-parity}

module _ {L : ℕ → Bool} {flags : List Bool} (are : FlagsAre L flags) where
  pub flags-none : (n : ℕ) → ((i : ℕ) → n ≤ i → L (suc i) ≡ false) → NoneFrom n flags
  flags-none n none i h = go (ltb i 16) refl
    where
      go : (b : Bool) → ltb i 16 ≡ b → chosen flags i ≡ false
      go true e = are.each i (ltb-true i 16 e) ∙ none i h
      go false e = flags-beyond are i (ltb-false i 16 e)

  pub flags-count : (n : ℕ) → n ≤ 16 → count n (chosen flags) ≡ count n (λ i. L (suc i))
  flags-count n h = count_ext n _ _ (λ i l. are.each i (omega arith))

module _ (lost n : ℕ) {flags : List Bool} (are : FlagsAre (is_lost lost) flags) (none : lost / 2 ^ n ≡ 0) where
  pub lost-none : NoneFrom n flags
  lost-none = flags-none are n (λ i h. lost-beyond i lost (omega (arith, bits_below n lost none, pow-le-pow_right {n = 2} (omega arith) h)))

  pub lost-count : n ≤ 16 → count n (chosen flags) ≡ lost_count lost
  lost-count h = flags-count are n h ∙ lost_tie n lost (bits_below n lost none)

-- the nodes of parity, and after it
of_parity : (k n i : ℕ) → k ≤ i → i < n → (ltb k (suc i) && leb (suc i) n) ≡ true
of_parity k n i h l = ap₂ ◌&&◌ (lt-ltb k (suc i) (omega arith)) (le-leb (suc i) n l)

after-parity : (k n i : ℕ) → n ≤ i → (ltb k (suc i) && leb (suc i) n) ≡ false
after-parity k n i h = ap (◌&&◌ (ltb k (suc i))) (lt-leb (suc i) n (omega arith)) ∙ and-false (ltb k (suc i))

module _ (k n : ℕ) {flags : List Bool} (are : FlagsAre (λ i. ltb k i && leb i n) flags) where
  pub parity-none : NoneFrom n flags
  parity-none = flags-none are n (λ i h. after-parity k n i h)

  pub parity-count : (r : ℕ) → n ≡ k + r → n ≤ 16 → count n (chosen flags) ≡ r
  parity-count r e h =
      flags-count are n h
      ∙ ap (λ j. count j (λ i. ltb k (suc i) && leb (suc i) n)) e
      ∙ count-split k r _
      ∙ omega (
        arith,
        count_none k (λ i. ltb k (suc i) && leb (suc i) n) (λ i l. before-parity k n i l),
        count-all r (λ i. ltb k (suc (k + i)) && leb (suc (k + i)) n) (λ i l. of_parity k n (k + i) (omega arith) (omega arith)),
      )

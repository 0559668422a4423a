-- The chosen nodes as flags that are counted. In order: past the last flag none is chosen; how many of the first flags are set.
-- Assumes nothing.
use mathlib.Core.Path.{◌≡◌, refl, sym, ap, ◌∙◌}
use mathlib.Core.Bool.{Bool, true, false}
use mathlib.Core.List.{List}
use Prim.Native.Nat.{ℕ, zero, suc, ◌+◌, ◌≤◌, ◌<◌}
use native.Mathlib.Numerals.{add-one}
use native.Mathlib.Decide.{dec_le}
use native.Mathlib.Omega.{arith}
use lib.ListN.{length, take, get_or-eq_default}
use Rattle.std.specs.List.{count_by}
use Rattle.std.proofs.lemmas.List.{take_all}
use Rattle.std.proofs.lemmas.List.Sums.{count_by_more_yes, count_by_more_no}
use Rattle.theory.specs.Set.{count, one_if}
use Rattle.theory.proofs.Counts.{count-zero, count-suc}
use Rattle.corrections.specs.Correction.{chosen}

pub beyond : (flags : List Bool) (i : ℕ) → length flags ≤ i → chosen flags i ≡ false
beyond flags i h = get_or-eq_default flags false h

-- one flag more
count_more : (flags : List Bool) (n : ℕ) → n < length flags → count_by (λ b. b) (take (n + 1) flags) ≡ count_by (λ b. b) (take n flags) + one_if (chosen flags n)
count_more flags n h = go (chosen flags n) refl
  where
    go : (b : Bool) → chosen flags n ≡ b → count_by (λ b. b) (take (n + 1) flags) ≡ count_by (λ b. b) (take n flags) + one_if b
    go true e = count_by_more_yes (λ b. b) flags n false h e
    go false e = omega (arith, count_by_more_no (λ b. b) flags n false h e)

pub counted : (n : ℕ) (flags : List Bool) → count_by (λ b. b) (take n flags) ≡ count n (chosen flags)
counted zero flags = sym (count-zero (chosen flags))
counted (suc n) flags = go (dec_le (suc n) (length flags)) (counted n flags)
  where
    go : Dec (suc n ≤ length flags) → count_by (λ b. b) (take n flags) ≡ count n (chosen flags)
        → count_by (λ b. b) (take (suc n) flags) ≡ count (suc n) (chosen flags)
    go (yes h) was =
        ap (λ k. count_by (λ b. b) (take k flags)) (sym (add-one n))
        ∙ count_more flags n h
        ∙ ap (λ k. k + one_if (chosen flags n)) was
        ∙ sym (count-suc n (chosen flags))
    go (no h) was =
        ap (count_by (λ b. b)) (take_all (suc n) flags (omega arith) ∙ sym (take_all n flags (omega arith)))
        ∙ was
        ∙ omega (arith, count-suc n (chosen flags), ap one_if (beyond flags n (omega arith)))

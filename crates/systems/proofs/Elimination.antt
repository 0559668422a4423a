-- Elimination without pivots. In order: the three stages of one column of numbers; each keeps what it has done, and stays below 256; from the powers of a
-- point to Newton's products; so the table ends as a triangle, and what solves the triangle solves the system.
--   Stages points S == S k is what a column has after k stages: stage k adds point k times the number above, past index k
use mathlib.Core.Path.{◌≡◌, refl, sym, ap, ap₂, ◌∙◌}
use mathlib.Core.Logic.{◌⊎◌, inl, inr}
use mathlib.Core.List.{List, [], ◌∷◌}
use Prim.Native.Nat.{ℕ, zero, suc, ◌+◌, ◌<◌, ◌≤◌}
use native.Mathlib.Omega.{arith}
use lib.ListN.{get_or}
use Rattle.std.proofs.lemmas.Bool.{cases_lt}
use Rattle.theory.specs.Sum.{sum}
use Rattle.theory.specs.Newton.{newton, eliminated}
use Rattle.theory.proofs.Sums as laws
use Rattle.theory.proofs.Newton.{newton_below, newton-pivot, eliminated_start, eliminated-step, eliminated-done, triangle-solves}
use Rattle.field.specs.Number.{add, mul, power}
use Rattle.field.proofs.Xor.{add-zero, add-below}
use Rattle.field.proofs.Product.{zero-mul, mul-zero, mul-below}
use Rattle.field.proofs.Powers.{power_below}
use Rattle.field.proofs.Numbers.{numbers, number, number-zero, number-add, number-mul, number-power, number_injective}
use Rattle.rules.proofs.Ties.{sum_tie}
use Rattle.distinct.specs.Promise.{Apart}
use Rattle.systems.specs.System.{moment}
use Rattle.systems.specs.Kernel.{staged, dotted}
use Rattle.systems.proofs.Sums.{sum-short}
use Rattle.systems.proofs.Ties.{field_point, apart_tie, moment_tie, moment-below}

pub record Stages (points : List ℕ) (S : ℕ → ℕ → ℕ) : Type 0 where
  pub step : (k i : ℕ) → k ≤ i → i < 3 → S (suc k) (suc i) ≡ add (S k (suc i)) (mul (get_or points k 0) (S k i))
  pub keep : (k i : ℕ) → i ≤ k → k < 3 → S (suc k) i ≡ S k i

-- which of four columns is that after k stages
abbrev pub after : (ℕ → ℕ) → (ℕ → ℕ) → (ℕ → ℕ) → (ℕ → ℕ) → ℕ → ℕ → ℕ
after f g h e zero = f
after f g h e (suc zero) = g
after f g h e (suc (suc zero)) = h
after f g h e (suc (suc (suc k))) = e

-- the factors of the three stages
abbrev pub firsts : List ℕ → List ℕ
firsts points = 0 ∷ get_or points 0 0 ∷ get_or points 0 0 ∷ get_or points 0 0 ∷ []

abbrev pub seconds : List ℕ → List ℕ
seconds points = 0 ∷ 0 ∷ get_or points 1 0 ∷ get_or points 1 0 ∷ []

abbrev pub thirds : List ℕ → List ℕ
thirds points = 0 ∷ 0 ∷ 0 ∷ get_or points 2 0 ∷ []

-- nothing is gained
no_gain : (x y : ℕ) → add x (mul 0 y) ≡ x
no_gain x y = ap (add x) (zero-mul y) ∙ add-zero x

module _ (points : List ℕ) (f g h e : ℕ → ℕ)
    (one : (i : ℕ) → i < 4 → g i ≡ staged (firsts points) f i)
    (two : (i : ℕ) → i < 4 → h i ≡ staged (seconds points) g i)
    (three : (i : ℕ) → i < 4 → e i ≡ staged (thirds points) h i) where
  stages-step : (k i : ℕ) → k ≤ i → i < 3
      → after f g h e (suc k) (suc i) ≡ add (after f g h e k (suc i)) (mul (get_or points k 0) (after f g h e k i))
  unfolding staged
  stages-step zero zero l m = one 1 (omega arith)
  stages-step zero (suc zero) l m = one 2 (omega arith)
  stages-step zero (suc (suc zero)) l m = one 3 (omega arith)
  stages-step (suc zero) (suc zero) l m = two 2 (omega arith)
  stages-step (suc zero) (suc (suc zero)) l m = two 3 (omega arith)
  stages-step (suc (suc zero)) (suc (suc zero)) l m = three 3 (omega arith)
  stages-step k (suc (suc (suc i))) l m = absurd (omega arith)
  stages-step (suc k) zero l m = absurd (omega arith)
  stages-step (suc (suc k)) (suc zero) l m = absurd (omega arith)
  stages-step (suc (suc (suc k))) (suc (suc zero)) l m = absurd (omega arith)

  stages-keep : (k i : ℕ) → i ≤ k → k < 3 → after f g h e (suc k) i ≡ after f g h e k i
  unfolding staged
  stages-keep zero zero l m = one 0 (omega arith)
  stages-keep zero (suc i) l m = absurd (omega arith)
  stages-keep (suc zero) zero l m = two 0 (omega arith)
  stages-keep (suc zero) (suc zero) l m = two 1 (omega arith) ∙ no_gain _ _
  stages-keep (suc zero) (suc (suc i)) l m = absurd (omega arith)
  stages-keep (suc (suc zero)) zero l m = three 0 (omega arith)
  stages-keep (suc (suc zero)) (suc zero) l m = three 1 (omega arith) ∙ no_gain _ _
  stages-keep (suc (suc zero)) (suc (suc zero)) l m = three 2 (omega arith) ∙ no_gain _ _
  stages-keep (suc (suc zero)) (suc (suc (suc i))) l m = absurd (omega arith)
  stages-keep (suc (suc (suc k))) i l m = absurd (omega arith)

  pub stages : Stages points (after f g h e)
  stages = record { step = stages-step; keep = stages-keep }

module _ (points : List ℕ) (S : ℕ → ℕ → ℕ) (s : Stages points S) where
  -- index i is done after i stages
  pub stages-done : (i : ℕ) → i < 4 → S 3 i ≡ S i i
  stages-done zero l = s.keep 2 0 (omega arith) (omega arith) ∙ s.keep 1 0 (omega arith) (omega arith) ∙ s.keep 0 0 (omega arith) (omega arith)
  stages-done (suc zero) l = s.keep 2 1 (omega arith) (omega arith) ∙ s.keep 1 1 (omega arith) (omega arith)
  stages-done (suc (suc zero)) l = s.keep 2 2 (omega arith) (omega arith)
  stages-done (suc (suc (suc zero))) l = refl
  stages-done (suc (suc (suc (suc i)))) l = absurd (omega arith)

  pub stages-below : ((i : ℕ) → i < 4 → S 0 i < 256) → (k i : ℕ) → k < 4 → i < 4 → S k i < 256
  stages-below small zero i hk hi = small i hi
  stages-below small (suc k) i hk hi = go (cases_lt k i) (stages-below small k)
    where
      past : (i : ℕ) → k < i → i < 4 → ((i : ℕ) → k < 4 → i < 4 → S k i < 256) → S (suc k) i < 256
      past zero l hi ih = absurd (omega arith)
      past (suc i) l hi ih =
          rw (s.step k i (omega arith) (omega arith)) (add-below 8 _ _ (ih (suc i) (omega arith) hi) (mul-below (get_or points k 0) (S k i)))

      go : (k < i) ⊎ (i ≤ k) → ((i : ℕ) → k < 4 → i < 4 → S k i < 256) → S (suc k) i < 256
      go (inl l) ih = past i l hi ih
      go (inr l) ih = rw (s.keep k i l (omega arith)) (ih i (omega arith) hi)

  -- the same step in the field, counted from the diagonal
  pub stages_tie : (k d : ℕ) → suc (k + d) < 4
      → number (S (suc k) (suc k + d)) ≡ numbers.add (number (S k (k + suc d))) (numbers.mul (field_point points k) (number (S k (k + d))))
  stages_tie k d l =
      ap (λ i. number (S (suc k) i)) (omega arith)
      ∙ ap number (s.step k (k + d) (omega arith) (omega arith))
      ∙ number-add _ _
      ∙ ap₂ numbers.add (ap (λ i. number (S k i)) (omega arith)) (number-mul _ _)

-- the table, by columns: R k i j is the number of row i at column j after k stages
module _ (points : List ℕ) (R : ℕ → ℕ → ℕ → ℕ) (stages : (j : ℕ) → j < 4 → Stages points (λ k i. R k i j))
    (start : (t j : ℕ) → t < 4 → j < 4 → R 0 t j ≡ power (get_or points j 0) t) where
  eliminated-rows : (k d j : ℕ) → k + d < 4 → j < 4 → number (R k (k + d) j) ≡ eliminated numbers (field_point points) k d j
  eliminated-rows zero d j l h =
      ap (λ i. number (R 0 i j)) (omega arith)
      ∙ ap number (start d j (omega arith) h)
      ∙ number-power (get_or points j 0) d
      ∙ sym (eliminated_start numbers (field_point points) d j)
  eliminated-rows (suc k) d j l h =
      stages_tie points (λ k i. R k i j) (stages j h) k d (omega arith)
      ∙ ap₂ (λ x y. numbers.add x (numbers.mul (field_point points k) y)) (eliminated-rows k (suc d) j (omega arith) h) (eliminated-rows k d j (omega arith) h)
      ∙ sym (eliminated-step numbers (field_point points) k d j)

  pub newton-rows : (i j : ℕ) → i < 4 → j < 4 → number (R 3 i j) ≡ newton numbers (field_point points) i j
  newton-rows i j hi hj =
      ap number (stages-done points (λ k i. R k i j) (stages j hj) i hi)
      ∙ ap (λ h. number (R i h j)) (omega arith)
      ∙ eliminated-rows i 0 j (omega arith) hj
      ∙ eliminated-done numbers (field_point points) i j

  rows-below : (i j : ℕ) → i < 4 → j < 4 → R 3 i j < 256
  rows-below i j hi hj =
      stages-below points (λ k i. R k i j) (stages j hj) (λ t h. rw (start t j h hj) (power_below (get_or points j 0) t)) 3 i (omega arith) hi

  pub triangle-zero : (i j : ℕ) → i < 4 → j < i → R 3 i j ≡ 0
  triangle-zero i j hi l =
      number_injective (R 3 i j) 0 (rows-below i j hi (omega arith)) (omega arith)
      (newton-rows i j hi (omega arith) ∙ newton_below numbers (field_point points) i j l ∙ sym number-zero)

  module _ (small : (j : ℕ) → get_or points j 0 < 256) (count : ℕ) (few : count ≤ 4) (apart : Apart count points) where
    pub triangle-pivot : (i : ℕ) → i < count → 0 < R 3 i i
    triangle-pivot i l = go (R 3 i i) refl
      where
        not_zero : R 3 i i ≡ 0 → ⊥
        not_zero e =
            newton-pivot numbers (field_point points) i
            (apart_tie (suc i) points (λ j h. small j) (λ u v hu hv. apart u v (omega arith) (omega arith)))
            (sym (newton-rows i i (omega arith) (omega arith)) ∙ ap number e ∙ number-zero)

        go : (x : ℕ) → R 3 i i ≡ x → 0 < R 3 i i
        go zero e = absurd (not_zero e)
        go (suc x) e = omega arith

    -- the numbers given, and what solves the triangle
    pub elimination_solves : (G : ℕ → ℕ → ℕ) → Stages points G → ((t : ℕ) → G 0 t < 256)
        → (x : ℕ → ℕ) → ((j : ℕ) → count ≤ j → x j ≡ 0) → ((i : ℕ) → i < count → dotted (R 3 i) x ≡ G 3 i)
        → (t : ℕ) → t < count → moment count points x t ≡ G 0 t
    unfolding dotted
    elimination_solves G s bytes x rest sums t l =
        number_injective (moment count points x t) (G 0 t) (moment-below count points x t) (bytes t)
        (moment_tie count points x t
        ∙ triangle-solves numbers (field_point points) count (λ j. number (x j)) (λ k d. number (G k (k + d)))
        (λ k d h. stages_tie points G s k d (omega arith))
        triangle
        t l
        ∙ ap (λ i. number (G 0 i)) (omega arith))
      where
        row : (k : ℕ) → k < count → sum numbers count (λ j. numbers.mul (newton numbers (field_point points) k j) (number (x j))) ≡ number (dotted (R 3 k) x)
        row k h =
            laws.sum_ext numbers count _ _
            (λ j hj. ap (λ y. numbers.mul y (number (x j))) (sym (newton-rows k j (omega arith) (omega arith))) ∙ sym (number-mul (R 3 k j) (x j)))
            ∙ sym (sum_tie count (λ j. mul (R 3 k j) (x j)))
            ∙ ap number (sym (sum-short 4 count (λ j. mul (R 3 k j) (x j)) few (λ j out. ap (mul (R 3 k j)) (rest j out) ∙ mul-zero (R 3 k j))))

        triangle : (k : ℕ) → k < count
            → sum numbers count (λ j. numbers.mul (newton numbers (field_point points) k j) (number (x j))) ≡ number (G k (k + 0))
        triangle k h =
            row k h ∙ ap number (sums k h ∙ stages-done points G s k (omega arith)) ∙ ap (λ i. number (G k i)) (omega arith)

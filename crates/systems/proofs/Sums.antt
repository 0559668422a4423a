-- Sums of numbers of the field. In order: none, one more; where the last terms are 0; one term changed from 0.
-- Not here: terms that are equal, and what follows from theory's laws, by `sum_tie` (`Ties` of crate `rules`).
use mathlib.Core.Path.{◌≡◌, refl, sym, ap, ap₂, ◌∙◌}
use mathlib.Core.Logic.{◌⊎◌, inl, inr}
use Prim.Native.Nat.{ℕ, zero, suc, ◌<◌, ◌≤◌}
use native.Mathlib.Nat.{eq-or-lt_of_le, le_of_suc-le-suc}
use native.Mathlib.Omega.{arith}
use Rattle.field.specs.Number.{add}
use Rattle.field.proofs.Xor.{sums, add-zero}
use Rattle.rules.specs.Equation.{sum_below}
use Rattle.rules.proofs.Ties.{sum_same}

pub sum-zero : (f : ℕ → ℕ) → sum_below 0 f ≡ 0
unfolding sum_below
sum-zero f = refl

pub sum-suc : (n : ℕ) (f : ℕ → ℕ) → sum_below (suc n) f ≡ add (sum_below n f) (f n)
unfolding sum_below
sum-suc n f = refl

-- from count on the terms are 0
pub sum-short : (n count : ℕ) (f : ℕ → ℕ) → count ≤ n → ((j : ℕ) → count ≤ j → f j ≡ 0) → sum_below n f ≡ sum_below count f
sum-short zero count f h out = ap (λ k. sum_below k f) (omega arith)
sum-short (suc n) count f h out = go (eq-or-lt_of_le h) (sum-short n count f)
  where
    go : (count ≡ suc n) ⊎ (count < suc n) → (count ≤ n → ((j : ℕ) → count ≤ j → f j ≡ 0) → sum_below n f ≡ sum_below count f)
        → sum_below (suc n) f ≡ sum_below count f
    go (inl e) ih = ap (λ k. sum_below k f) (sym e)
    go (inr l) ih = sum-suc n f ∙ ap₂ add (ih (le_of_suc-le-suc l) out) (out n (le_of_suc-le-suc l)) ∙ add-zero _

swap : (x y z : ℕ) → add (add x y) z ≡ add (add x z) y
swap x y z = simp sums

-- f differs from g at i alone, where g is 0
pub sum-changed : (n i : ℕ) (f g : ℕ → ℕ) → i < n → g i ≡ 0 → ((j : ℕ) → (j ≡ i → ⊥) → f j ≡ g j) → sum_below n f ≡ add (sum_below n g) (f i)
sum-changed zero i f g l o h = absurd (omega arith)
sum-changed (suc n) i f g l o h = go (eq-or-lt_of_le (le_of_suc-le-suc l)) (sum-changed n i f g)
  where
    go : (i ≡ n) ⊎ (i < n) → (i < n → g i ≡ 0 → ((j : ℕ) → (j ≡ i → ⊥) → f j ≡ g j) → sum_below n f ≡ add (sum_below n g) (f i))
        → sum_below (suc n) f ≡ add (sum_below (suc n) g) (f i)
    go (inl e) ih =
        sum-suc n f
        ∙ ap₂ add (sum_same n f g (λ j k. h j (omega arith))) (ap f (sym e))
        ∙ ap (λ x. add x (f i)) (sym (sum-suc n g ∙ ap (add (sum_below n g)) (ap g (sym e) ∙ o) ∙ add-zero _))
    go (inr k) ih =
        sum-suc n f
        ∙ ap₂ add (ih k o h) (h n (omega arith))
        ∙ swap (sum_below n g) (f i) (g n)
        ∙ ap (λ x. add x (f i)) (sym (sum-suc n g))

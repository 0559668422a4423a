-- Points differ, or they don't. In order: none; one more; of points that differ none is one of those before it; they differ, or they don't.
use mathlib.Core.Path.{◌≡◌, sym, ap, ◌∙◌, subst}
use mathlib.Core.Logic.{◌⊎◌, inl, inr}
use mathlib.Core.List.{List}
use Prim.Native.Nat.{ℕ, zero, suc, ◌+◌, ◌<◌, ◌≤◌}
use native.Mathlib.Decide.{ℕ_discrete}
use native.Mathlib.Nat.{eq-or-lt_of_le}
use native.Mathlib.Numerals.{add-one}
use native.Mathlib.Omega.{arith}
use borrow.Author.Count.{below_more}
use lib.ListN.{get_or}
use Rattle.std.proofs.lemmas.Bool.{cases_lt}
use Rattle.distinct.specs.Promise.{Apart, FewApart}

abbrev Fresh : List ℕ → ℕ → Type 0
Fresh points i = (j : ℕ) → j < i → get_or points j 0 ≡ get_or points i 0 → ⊥

apart_none : (points : List ℕ) → Apart 0 points
apart_none points i j hi hj e = absurd (omega arith)

-- one point more
apart_more : (points : List ℕ) (i : ℕ) → Apart i points → Fresh points i → Apart (i + 1) points
apart_more points i apart fresh u v hu hv e = go (last u hu) (last v hv)
  where
    last : (w : ℕ) → w < i + 1 → (w ≡ i) ⊎ (w < i)
    last w h = eq-or-lt_of_le (omega arith)

    go : (u ≡ i) ⊎ (u < i) → (v ≡ i) ⊎ (v < i) → u ≡ v
    go (inl p) (inl q) = p ∙ sym q
    go (inl p) (inr l) = absurd (fresh v l (sym e ∙ ap (λ w. get_or points w 0) p))
    go (inr l) (inl q) = absurd (fresh u l (e ∙ ap (λ w. get_or points w 0) q))
    go (inr l) (inr m) = apart u v l m e

-- of points that differ none is one of those before it
apart-fresh : (points : List ℕ) (count i : ℕ) → i < count → Apart count points → Fresh points i
apart-fresh points count i l apart j h e =
    let same : j ≡ i = apart j i (omega arith) l e in
    omega arith

-- point i is none of the first k points, or it is one of them
abbrev Others : List ℕ → ℕ → ℕ → Type 0
Others points i k = (j : ℕ) → j < k → get_or points j 0 ≡ get_or points i 0 → ⊥

others_or : (points : List ℕ) (i k : ℕ) → Others points i k ⊎ (Others points i k → ⊥)
others_or points i zero = inl (λ j l e. absurd (omega arith))
others_or points i (suc k) = go (others_or points i k) (ℕ_discrete (get_or points k 0) (get_or points i 0))
  where
    go : Others points i k ⊎ (Others points i k → ⊥) → Dec (get_or points k 0 ≡ get_or points i 0) → Others points i (suc k) ⊎ (Others points i (suc k) → ⊥)
    go (inr one) last = inr (λ all. one (λ j l. all j (omega arith)))
    go (inl all) (yes e) = inr (λ more. more k (omega arith) e)
    go (inl all) (no ne) = inl (subst (Others points i) (add-one k) (below_more _ k all ne))

apart_or : (points : List ℕ) (count : ℕ) → Apart count points ⊎ (Apart count points → ⊥)
apart_or points zero = inl (apart_none points)
apart_or points (suc i) = go (apart_or points i) (others_or points i i)
  where
    go : Apart i points ⊎ (Apart i points → ⊥) → Fresh points i ⊎ (Fresh points i → ⊥) → Apart (suc i) points ⊎ (Apart (suc i) points → ⊥)
    go (inl apart) (inl fresh) = inl (subst (λ k. Apart k points) (add-one i) (apart_more points i apart fresh))
    go (inl apart) (inr old) = inr (λ all. old (apart-fresh points (suc i) i (omega arith) all))
    go (inr same) last = inr (λ all. same (λ u v hu hv. all u v (omega arith) (omega arith)))

-- at most four points that differ, or not
pub few-apart_or : (count : ℕ) (points : List ℕ) → FewApart count points ⊎ (FewApart count points → ⊥)
few-apart_or count points = go (cases_lt 4 count) (apart_or points count)
  where
    go : (4 < count) ⊎ (count ≤ 4) → Apart count points ⊎ (Apart count points → ⊥) → FewApart count points ⊎ (FewApart count points → ⊥)
    go (inl many) differ = inr (λ way. omega (arith, way.few))
    go (inr few) (inl apart) = inl (record { few = few; apart = apart })
    go (inr few) (inr same) = inr (λ way. same way.apart)

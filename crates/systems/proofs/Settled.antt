-- What `solve` promises settles what is found: two results that it allows are equal, since as many sums of powers as there are points, which differ, have one
-- solution. And wrong answers that it rules out: two unknowns, 7 and 1, at the points 1 and 2, whose sums are 6 and 5; and equal points.
use mathlib.Core.Path.{◌≡◌, refl, sym, ap, ◌∙◌}
use mathlib.Core.Logic.{◌⊎◌, inl, inr, ⊎_elim}
use mathlib.Core.List.{List, [], ◌∷◌}
use Prim.Native.Nat.{ℕ, ◌<◌, ◌≤◌}
use native.Mathlib.Omega.{arith}
use lib.ListN.{get_or}
use lib.Seq.{ext_get_or}
use Rattle.std.proofs.lemmas.Bool.{cases_lt}
use Rattle.theory.proofs.Vandermonde.{square_only}
use Rattle.field.specs.Number.{modulus, add, double, by_bits, mul, power}
use Rattle.field.proofs.Numbers.{numbers, number, number_injective}
use Rattle.rules.specs.Equation.{sum_below}
use Rattle.rules.specs.Stripe.{IsBytes}
use Rattle.distinct.specs.Promise.{Apart, FewApart}
use Rattle.distinct.proofs.Distinct.{few-apart_or}
use Rattle.distinct.proofs.Settled.{points, one_two_apart}
use Rattle.systems.specs.System.{moment, Solves}
use Rattle.systems.specs.Promise.{SolveIs}
use Rattle.systems.proofs.Ties.{field_point, apart_tie, moment_tie}

-- a square system has one solution in bytes
pub moments_only : (count : ℕ) (points : List ℕ) (x y : ℕ → ℕ) → count ≤ 4 → IsBytes 4 points → Apart count points
    → ((j : ℕ) → j < count → x j < 256)
    → ((j : ℕ) → j < count → y j < 256)
    → ((t : ℕ) → t < count → moment count points x t ≡ moment count points y t)
    → (j : ℕ) → j < count → x j ≡ y j
moments_only count points x y few bytes apart small others same j l =
    number_injective (x j) (y j) (small j l) (others j l)
    (square_only numbers (field_point points) count (λ i. number (x i)) (λ i. number (y i))
    (apart_tie count points (λ i h. bytes.bytes i (omega arith)) apart)
    (λ t h. sym (moment_tie count points x t) ∙ ap number (same t h) ∙ moment_tie count points y t)
    j l)

solves-only : (count : ℕ) (points given xs ys : List ℕ) → count ≤ 4 → IsBytes 4 points → Apart count points
    → Solves count points given xs
    → Solves count points given ys
    → xs ≡ ys
solves-only count points given xs ys few bytes apart p q =
    ext_get_or 0 xs ys (p.bytes.exact ∙ sym q.bytes.exact) (λ j l. ⊎_elim (inside j) (past j) (cases_lt j count))
  where
    inside : (j : ℕ) → j < count → get_or xs j 0 ≡ get_or ys j 0
    inside =
        moments_only count points (λ j. get_or xs j 0) (λ j. get_or ys j 0) few bytes apart (λ j l. p.bytes.bytes j (omega arith))
        (λ j l. q.bytes.bytes j (omega arith))
        (λ t l. p.sums t l ∙ sym (q.sums t l))

    past : (j : ℕ) → count ≤ j → get_or xs j 0 ≡ get_or ys j 0
    past j l = p.rest j l ∙ sym (q.rest j l)

pub solve_settled : (count : ℕ) (points given xs ys : List ℕ) → IsBytes 4 points → SolveIs count points given xs → SolveIs count points given ys → xs ≡ ys
solve_settled count points given xs ys bytes p q = go (few-apart_or count points)
  where
    go : FewApart count points ⊎ (FewApart count points → ⊥) → xs ≡ ys
    go (inl way) = solves-only count points given xs ys way.few bytes way.apart (p.solves way) (q.solves way)
    go (inr none) = p.cannot none ∙ sym (q.cannot none)

way : FewApart 2 points
way = record { few = omega arith; apart = one_two_apart }

-- one row: zeros, a wrong number, and a number past the last unknown
pub solve-zeros : SolveIs 2 points (6 ∷ 5 ∷ 0 ∷ 0 ∷ []) (0 ∷ 0 ∷ 0 ∷ 0 ∷ []) → ⊥
unfolding moment sum_below power mul by_bits double add modulus
solve-zeros p = let e : ◌≡◌ {A = ℕ} 0 6 = (p.solves way).sums 0 (omega arith) in omega arith

pub solve_wrong : SolveIs 2 points (6 ∷ 5 ∷ 0 ∷ 0 ∷ []) (1 ∷ 7 ∷ 0 ∷ 0 ∷ []) → ⊥
unfolding moment sum_below power mul by_bits double add modulus
solve_wrong p = let e : ◌≡◌ {A = ℕ} 15 5 = (p.solves way).sums 1 (omega arith) in omega arith

pub solve-past : SolveIs 2 points (6 ∷ 5 ∷ 0 ∷ 0 ∷ []) (7 ∷ 1 ∷ 1 ∷ 0 ∷ []) → ⊥
solve-past p = let e : ◌≡◌ {A = ℕ} 1 0 = (p.solves way).rest 2 (omega arith) in omega arith

-- equal points, and numbers found for them all the same
pub solve-equal : SolveIs 2 (3 ∷ 3 ∷ 0 ∷ 0 ∷ []) (6 ∷ 5 ∷ 0 ∷ 0 ∷ []) (6 ∷ 0 ∷ 0 ∷ 0 ∷ []) → ⊥
solve-equal p = let e : ◌≡◌ {A = ℕ} 6 0 = ap (λ xs. get_or xs 0 0) (p.cannot none) in omega arith
  where
    none : FewApart 2 (3 ∷ 3 ∷ 0 ∷ 0 ∷ []) → ⊥
    none same = let e : ◌≡◌ {A = ℕ} 0 1 = same.apart 0 1 (omega arith) (omega arith) refl in omega arith

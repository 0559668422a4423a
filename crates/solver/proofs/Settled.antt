-- What is promised settles what is found: two results that one promise allows are equal, since as many sums of powers as there are points, which differ, have
-- one solution. And wrong answers that the promises rule out. In order: what is answered and how long the columns are; the promise
-- settles both; two unknowns, 7 and 1, at the points 1 and 2, whose sums are 6 and 5.
use mathlib.Core.Path.{◌≡◌, refl, sym, ap, ◌∙◌}
use Rattle.std.specs.Prelude.{Result, Ok, Err, IsOk}
use Rattle.rules.specs.declared.refusals.Misfit.{Misfit}
use mathlib.Core.List.{List, [], ◌∷◌}
use Prim.Native.Nat.{ℕ, ◌+◌, ◌*◌, ◌≤◌}
use native.Mathlib.Omega.{arith}
use lib.ListN.{length, get_or}
use Rattle.field.specs.Number.{modulus, add, double, by_bits, mul, power}
use Rattle.rules.specs.Equation.{sum_below}
use Rattle.rules.specs.Stripe.{IsBytes}
use Rattle.rules.proofs.Stripes.{by_columns}
use Rattle.columns.proofs.Kernels.{entry-within}
use Rattle.distinct.specs.Promise.{Apart}
use Rattle.distinct.proofs.Settled.{points, one_two_apart}
use Rattle.systems.specs.System.{moment}
use Rattle.systems.proofs.Settled.{moments_only}
use Rattle.solver.specs.Solve.{columns_at, Solved}
use Rattle.solver.specs.Promise.{Solvable, UnknownsAre}

columns-only : (count : ℕ) (points : List ℕ) (size : ℕ) (sums xs ys : List ℕ) → count ≤ 4 → IsBytes 4 points → Apart count points
    → IsBytes (count * size) xs
    → IsBytes (count * size) ys
    → Solved count points size sums xs
    → Solved count points size sums ys
    → xs ≡ ys
columns-only count points size sums xs ys few bytes apart b c p q =
    by_columns count size xs ys b.exact c.exact
    (λ t a ht ha.
    moments_only count points (columns_at size xs a) (columns_at size ys a) few bytes apart
    (λ j h. b.bytes (j * size + a) (entry-within h ha))
    (λ j h. c.bytes (j * size + a) (entry-within h ha))
    (λ u h. p a u ha h ∙ sym (q a u ha h))
    t ht)

-- what can be solved is solved
pub unknowns-ok : {count size : ℕ} {points sums before later : List ℕ} (answer : Result (Unit {0}) Misfit)
    → UnknownsAre count points size sums before answer later
    → Solvable count points size sums before → IsOk answer
unknowns-ok (Ok u) are can = refl
unknowns-ok (Err m) are can = absurd (are.cannot can)

-- what is left is as long as it was
pub unknowns-length : {count size : ℕ} {points sums before later : List ℕ} (answer : Result (Unit {0}) Misfit)
    → UnknownsAre count points size sums before answer later
    → length before ≡ count * size → length later ≡ count * size
unknowns-length (Ok u) are long = are.bytes.exact
unknowns-length (Err m) are long = ap length are.kept ∙ long

pub unknowns_settled : (count : ℕ) (points : List ℕ) (size : ℕ) (sums before : List ℕ) (a b : Result (Unit {0}) Misfit) (xs ys : List ℕ) → IsBytes 4 points
    → UnknownsAre count points size sums before a xs
    → UnknownsAre count points size sums before b ys
    → (a ≡ b) × (xs ≡ ys)
unknowns_settled count points size sums before (Ok u) (Ok v) xs ys bytes p q =
    let way = p.can in (refl, columns-only count points size sums xs ys way.few bytes way.apart p.bytes q.bytes p.solved q.solved)
unknowns_settled count points size sums before (Ok u) (Err n) xs ys bytes p q = absurd (q.cannot p.can)
unknowns_settled count points size sums before (Err m) (Ok v) xs ys bytes p q = absurd (p.cannot q.can)
unknowns_settled count points size sums before (Err m) (Err n) xs ys bytes p q = (refl, p.kept ∙ sym q.kept)

-- columns of one byte, where 9 and 9 stand before
abbrev Unknowns : Result (Unit {0}) Misfit → List ℕ → Type 0
Unknowns = UnknownsAre 2 points 1 (6 ∷ 5 ∷ []) (9 ∷ 9 ∷ [])

pub unknowns_refuses : (misfit : Misfit) (later : List ℕ) → Unknowns (Err misfit) later → ⊥
unknowns_refuses misfit later p =
    p.cannot (record { few = omega arith; short = omega arith; sums-exact = refl; found-exact = refl; apart = one_two_apart })

pub unknowns_keeps : Unknowns (Ok tt) (9 ∷ 9 ∷ []) → ⊥
unfolding moment sum_below power mul by_bits double add modulus
unknowns_keeps p = let e : ◌≡◌ {A = ℕ} 0 6 = p.solved 0 0 (omega arith) (omega arith) in omega arith

pub unknowns-zeros : Unknowns (Ok tt) (0 ∷ 0 ∷ []) → ⊥
unfolding moment sum_below power mul by_bits double add modulus
unknowns-zeros p = let e : ◌≡◌ {A = ℕ} 0 6 = p.solved 0 0 (omega arith) (omega arith) in omega arith

pub unknowns-byte : Unknowns (Ok tt) (7 ∷ 2 ∷ []) → ⊥
unfolding moment sum_below power mul by_bits double add modulus
unknowns-byte p = let e : ◌≡◌ {A = ℕ} 5 6 = p.solved 0 0 (omega arith) (omega arith) in omega arith

-- the two unknowns in the wrong order
pub unknowns_swapped : Unknowns (Ok tt) (1 ∷ 7 ∷ []) → ⊥
unfolding moment sum_below power mul by_bits double add modulus
unknowns_swapped p = let e : ◌≡◌ {A = ℕ} 15 5 = p.solved 0 1 (omega arith) (omega arith) in omega arith

-- equal points taken; and bytes written with a refusal
pub unknowns-equal : (later : List ℕ) → UnknownsAre 2 (3 ∷ 3 ∷ 0 ∷ 0 ∷ []) 1 (6 ∷ 5 ∷ []) (9 ∷ 9 ∷ []) (Ok tt) later → ⊥
unknowns-equal later p = let e : ◌≡◌ {A = ℕ} 0 1 = p.can.apart 0 1 (omega arith) (omega arith) refl in omega arith

pub unknowns_writes : (misfit : Misfit) → UnknownsAre 2 (3 ∷ 3 ∷ 0 ∷ 0 ∷ []) 1 (6 ∷ 5 ∷ []) (9 ∷ 9 ∷ []) (Err misfit) (0 ∷ 9 ∷ []) → ⊥
unknowns_writes misfit p = let e : ◌≡◌ {A = ℕ} 0 9 = ap (λ xs. get_or xs 0 0) p.kept in omega arith

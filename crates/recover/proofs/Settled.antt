-- What `solve_rows` promises settles its answer and every byte that it leaves: two results that it allows are equal. And wrong answers that it rules out, at
-- n = 3, r = 2 for node 1: the column 4 0 0 12 brings 4 and 12 to the equations t = 0 of rows 0 and 2, and 4 and 24 to those of t = 1.
use mathlib.Core.Path.{◌≡◌, refl, sym, ap, ◌∙◌}
use Rattle.std.specs.Prelude.{Result, Ok, Err, IsOk}
use Rattle.rules.specs.declared.refusals.Misfit.{Misfit}
use mathlib.Core.List.{List, [], ◌∷◌}
use Prim.Native.Nat.{ℕ, ◌+◌, ◌*◌, ◌<◌}
use native.Mathlib.Omega.{arith}
use lib.ListN.{get_or}
use Rattle.field.specs.Number.{modulus, add, double, by_bits, mul, power}
use Rattle.rules.specs.declared.shapes.Shape.{Shape}
use Rattle.rules.specs.Shape.{group_size, groups, rows, node, group, place, worth, digit, with_digit}
use Rattle.rules.specs.Rising.{rising}
use Rattle.rules.specs.Point.{point_of}
use Rattle.rules.specs.Equation.{sum_below}
use Rattle.rules.specs.Fraction.{is_read, rows_read, fraction_length}
use Rattle.rules.specs.Bench.{shape}
use Rattle.rules.proofs.Accepted.{bounds}
use Rattle.rules.proofs.Benches.{bench-shape}
use Rattle.recover.specs.Promise.{spread, Recoverable, SolveRowsIs}
use Rattle.recover.proofs.Finding.{rows-only}

-- what can be solved is solved
pub solve-rows-ok : {sh : Shape} {f : ℕ} {sums before later : List ℕ} (answer : Result (Unit {0}) Misfit) → SolveRowsIs sh f sums before answer later
    → Recoverable sh f sums before → IsOk answer
solve-rows-ok (Ok u) is way = refl
solve-rows-ok (Err m) is way = absurd (is.cannot way)

pub solve-rows_settled : (sh : Shape) (f : ℕ) (sums before : List ℕ) (a b : Result (Unit {0}) Misfit) (x y : List ℕ)
    → SolveRowsIs sh f sums before a x
    → SolveRowsIs sh f sums before b y
    → (a ≡ b) × (x ≡ y)
solve-rows_settled sh f sums before (Ok u) (Ok v) x y p q =
    let way = p.can in (refl, rows-only sh (bounds sh way.taken) f way.first way.last sums x y p.solved q.solved)
solve-rows_settled sh f sums before (Ok u) (Err n) x y p q = absurd (q.cannot p.can)
solve-rows_settled sh f sums before (Err m) (Ok v) x y p q = absurd (p.cannot q.can)
solve-rows_settled sh f sums before (Err m) (Err n) x y p q = (refl, p.kept ∙ sym q.kept)

-- the column that is lent holds sevens
abbrev Solves1 : Result (Unit {0}) Misfit → List ℕ → Type 0
Solves1 = SolveRowsIs (shape 3 2) 1 (4 ∷ 12 ∷ 4 ∷ 24 ∷ []) (7 ∷ 7 ∷ 7 ∷ 7 ∷ [])

way_1 : Recoverable (shape 3 2) 1 (4 ∷ 12 ∷ 4 ∷ 24 ∷ []) (7 ∷ 7 ∷ 7 ∷ 7 ∷ [])
unfolding rows groups group_size fraction_length
way_1 = record { taken = bench-shape.0; sums-exact = refl; column-exact = refl; first = omega arith; last = omega arith }

-- refuses everything
pub solve-rows_refuses : (misfit : Misfit) (later : List ℕ) → Solves1 (Err misfit) later → ⊥
solve-rows_refuses misfit later p = p.cannot way_1

-- what the column brings to equation t of row 2 × j
brings : (later : List ℕ) → Solves1 (Ok tt) later → (t j : ℕ) → t < 2 → j < 2
    → spread (shape 3 2) 1 later (get_or (rows_read (shape 3 2) 1) j 0) t ≡ get_or (4 ∷ 12 ∷ 4 ∷ 24 ∷ []) (t * 2 + j) 0
unfolding rows groups group_size fraction_length
brings later p t j ht hj = p.solved.solved t j ht hj

pub solve-rows-zeros : Solves1 (Ok tt) (0 ∷ 0 ∷ 0 ∷ 0 ∷ []) → ⊥
unfolding spread sum_below mul power by_bits double add modulus point_of node group with_digit worth digit rows_read is_read rising rows groups group_size place
solve-rows-zeros p = let e : ◌≡◌ {A = ℕ} 0 4 = brings _ p 0 0 (omega arith) (omega arith) in omega arith

pub solve-rows-nothing : Solves1 (Ok tt) (7 ∷ 7 ∷ 7 ∷ 7 ∷ []) → ⊥
unfolding spread sum_below mul power by_bits double add modulus point_of node group with_digit worth digit rows_read is_read rising rows groups group_size place
solve-rows-nothing p = let e : ◌≡◌ {A = ℕ} 0 4 = brings _ p 0 0 (omega arith) (omega arith) in omega arith

-- solves row 0 and copies it to row 2
pub solve-rows-row_0 : Solves1 (Ok tt) (4 ∷ 0 ∷ 4 ∷ 0 ∷ []) → ⊥
unfolding spread sum_below mul power by_bits double add modulus point_of node group with_digit worth digit rows_read is_read rising rows groups group_size place
solve-rows-row_0 p = let e : ◌≡◌ {A = ℕ} 4 12 = brings _ p 0 1 (omega arith) (omega arith) in omega arith

-- bytes written with a refusal: there is no node 4
pub solve-rows_writes : (misfit : Misfit) → SolveRowsIs (shape 3 2) 4 (4 ∷ 12 ∷ 4 ∷ 24 ∷ []) (7 ∷ 7 ∷ 7 ∷ 7 ∷ []) (Err misfit) (4 ∷ 7 ∷ 7 ∷ 7 ∷ []) → ⊥
solve-rows_writes misfit p = let e : ◌≡◌ {A = ℕ} 4 7 = ap (λ xs. get_or xs 0 0) p.kept in omega arith

-- Columns combined by the constants solve the systems of every row: a system that is solved for the units is solved for all right-hand sides.
use mathlib.Core.Path.{◌≡◌, refl, sym, ap, ◌∙◌}
use mathlib.Core.List.{List}
use Prim.Native.Nat.{ℕ, ◌+◌, ◌*◌, ◌<◌, ◌≤◌}
use native.Mathlib.Omega.{arith}
use lib.ListN.{get_or}
use Rattle.theory.specs.Sum.{sum}
use Rattle.theory.proofs.Sums as laws
use Rattle.theory.proofs.Powers.{moment_ext}
use Rattle.theory.proofs.Vandermonde.{units_solve}
use Rattle.field.proofs.Numbers.{numbers, number, number-zero, number-one, number-mul, number_injective}
use Rattle.rules.proofs.Ties.{sum_tie}
use Rattle.systems.specs.System.{moment}
use Rattle.solver.specs.Solve.{columns_at, Solved}
use Rattle.systems.specs.System.{entry}
use Rattle.solver.specs.Kernel.{unit, ConstantsAre, combined, ColumnsAre}
use Rattle.distinct.proofs.Indices.{four}
use Rattle.systems.proofs.Ties.{field_point, moment_tie, moment-below}

unit-own : (u : ℕ) → u < 4 → get_or (unit u) u 0 ≡ 1
unit-own = four (λ u. get_or (unit u) u 0 ≡ 1) refl refl refl refl

unit-other : (u : ℕ) → u < 4 → (t : ℕ) → t < 4 → (u ≡ t → ⊥) → get_or (unit u) t 0 ≡ 0
unit-other =
    four (λ u. (t : ℕ) → t < 4 → (u ≡ t → ⊥) → get_or (unit u) t 0 ≡ 0)
    (four (λ t. (0 ≡ t → ⊥) → get_or (unit 0) t 0 ≡ 0) (λ ne. absurd (ne refl)) (λ ne. refl) (λ ne. refl) (λ ne. refl))
    (four (λ t. (1 ≡ t → ⊥) → get_or (unit 1) t 0 ≡ 0) (λ ne. refl) (λ ne. absurd (ne refl)) (λ ne. refl) (λ ne. refl))
    (four (λ t. (2 ≡ t → ⊥) → get_or (unit 2) t 0 ≡ 0) (λ ne. refl) (λ ne. refl) (λ ne. absurd (ne refl)) (λ ne. refl))
    (four (λ t. (3 ≡ t → ⊥) → get_or (unit 3) t 0 ≡ 0) (λ ne. refl) (λ ne. refl) (λ ne. refl) (λ ne. absurd (ne refl)))

pub combined_tie : (count size : ℕ) (weights : ℕ → ℕ) (sums : List ℕ) (a : ℕ)
    → number (combined count size weights sums a) ≡ sum numbers count (λ t. numbers.mul (number (weights t)) (number (columns_at size sums a t)))
unfolding combined
combined_tie count size weights sums a = sum_tie count _ ∙ laws.sum_ext numbers count _ _ (λ t l. number-mul _ _)

pub constants-solve : (count : ℕ) (points : List ℕ) (rows : List (List ℕ)) (size : ℕ) (sums before later : List ℕ) → count ≤ 4
    → ((k : ℕ) → get_or sums k 0 < 256)
    → ConstantsAre count points rows
    → ColumnsAre count rows size sums before later
    → Solved count points size sums later
constants-solve count points rows size sums before later few small constants columns a t ha ht =
    number_injective (moment count points (columns_at size later a) t) (columns_at size sums a t) (moment-below count points _ t) (small (t * size + a))
    (moment_tie count points _ t
    ∙ moment_ext numbers count (field_point points) _ _ t
    (λ j l. ap number (columns.bytes j a l ha) ∙ combined_tie count size (λ u. entry rows u j) sums a)
    ∙ units_solve numbers (field_point points) count (λ u t. number (get_or (unit u) t 0))
    (λ u l. ap number (unit-own u (omega arith)) ∙ number-one)
    (λ u t hu ht ne. ap number (unit-other u (omega arith) t (omega arith) ne) ∙ number-zero)
    (λ u j. number (entry rows u j))
    (λ u t hu ht. sym (moment_tie count points (λ j. entry rows u j) t) ∙ ap number ((constants.each u (omega arith)).sums t ht))
    (λ t. number (columns_at size sums a t))
    t ht)

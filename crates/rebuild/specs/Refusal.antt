-- The refusals of `rebuild`, in document 01's order.
--   rebuild_refusal == shape; fractions, (n − 1) × l / s; column, l; failed node
use Rattle.std.specs.Prelude.{not, List, [], ◌∷◌, ℕ, ◌-◌, ◌*◌, eqb, length}
use Rattle.std.proofs.Math.Option.{Option}
use Rattle.rules.specs.declared.shapes.Shape.{Shape}
use Rattle.rules.specs.Shape.{accepted, rows}
use Rattle.rules.specs.Fraction.{fraction_length}
use Rattle.rules.specs.Refusal.{first_of, ◌given-when◌, not_node}

unfoldable pub rebuild_refusal : Shape → ℕ → List ℕ → List ℕ → Option ℕ
rebuild_refusal sh failed fractions col =
    first_of
    (1 given-when not (accepted sh)
    ∷ 2 given-when not (eqb (length fractions) ((sh.n - 1) * fraction_length sh))
    ∷ 2 given-when not (eqb (length col) (rows sh))
    ∷ 3 given-when not_node sh failed
    ∷ [])

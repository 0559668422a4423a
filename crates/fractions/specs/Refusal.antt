-- The refusals of `add_fraction`, in document 01's order: the first that applies is given, and none otherwise.
--   add_refusal == shape; fraction; sums, r × l / s; helper; failed node; the failed node's own fraction
use Rattle.std.specs.Prelude.{not, List, [], ◌∷◌, ℕ, ◌*◌, eqb, length}
use Rattle.std.proofs.Math.Option.{Option}
use Rattle.rules.specs.declared.shapes.Shape.{Shape}
use Rattle.rules.specs.Shape.{accepted}
use Rattle.rules.specs.Fraction.{fraction_length}
use Rattle.rules.specs.Refusal.{first_of, ◌given-when◌, not_node}

unfoldable pub add_refusal : Shape → ℕ → ℕ → List ℕ → List ℕ → Option ℕ
add_refusal sh failed helper given sums =
    first_of
    (1 given-when not (accepted sh)
    ∷ 2 given-when not (eqb (length given) (fraction_length sh))
    ∷ 2 given-when not (eqb (length sums) (sh.r * fraction_length sh))
    ∷ 3 given-when not_node sh helper
    ∷ 3 given-when not_node sh failed
    ∷ 3 given-when eqb helper failed
    ∷ [])

-- The refusals of each entry, in document 01's order: the first that applies is given, and none otherwise.
--   lay_refusal     == of `lay`: shape; record longer than k × l; stripe
--   read_back_refusal == of `read_back`: shape; stripe; buffer
--   cut_refusal     == of `cut`: shape; column; buffer; helper; failed node; the failed node's own fraction
use Rattle.std.specs.Prelude.{not, List, [], ◌∷◌, ℕ, eqb, ltb, length}
use Rattle.std.proofs.Math.Option.{Option}
use Rattle.rules.specs.declared.shapes.Shape.{Shape}
use Rattle.rules.specs.Shape.{accepted, rows}
use Rattle.rules.specs.Stripe.{stripe_length, data_length}
use Rattle.rules.specs.Fraction.{fraction_length}
use Rattle.rules.specs.Refusal.{first_of, ◌given-when◌, not_node}

unfoldable pub lay_refusal : Shape → List ℕ → List ℕ → Option ℕ
lay_refusal sh rec stripe =
    first_of
    (1 given-when not (accepted sh)
    ∷ 2 given-when ltb (data_length sh) (length rec)
    ∷ 2 given-when not (eqb (length stripe) (stripe_length sh))
    ∷ [])

unfoldable pub read_back_refusal : Shape → List ℕ → List ℕ → Option ℕ
read_back_refusal sh stripe buffer =
    first_of
    (1 given-when not (accepted sh)
    ∷ 2 given-when not (eqb (length stripe) (stripe_length sh))
    ∷ 2 given-when not (eqb (length buffer) (data_length sh))
    ∷ [])

unfoldable pub cut_refusal : Shape → ℕ → ℕ → List ℕ → List ℕ → Option ℕ
cut_refusal sh helper failed col buffer =
    first_of
    (1 given-when not (accepted sh)
    ∷ 2 given-when not (eqb (length col) (rows sh))
    ∷ 2 given-when not (eqb (length buffer) (fraction_length sh))
    ∷ 3 given-when not_node sh helper
    ∷ 3 given-when not_node sh failed
    ∷ 3 given-when eqb helper failed
    ∷ [])

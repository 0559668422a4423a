-- The refusals of each function, in document 01's order: the first that applies is given, and none otherwise.
--   test_refusal    == of `test`: shape; stripe
--   sums_refusal    == of `sums_of`: shape; stripe; buffer of r × l
use Rattle.std.specs.Prelude.{not, List, [], ◌∷◌, ℕ, ◌*◌, eqb, length}
use Rattle.std.proofs.Math.Option.{Option}
use Rattle.rules.specs.declared.shapes.Shape.{Shape}
use Rattle.rules.specs.Shape.{accepted, rows}
use Rattle.rules.specs.Stripe.{stripe_length}
use Rattle.rules.specs.Refusal.{first_of, ◌given-when◌}

unfoldable pub test_refusal : Shape → List ℕ → Option ℕ
test_refusal sh stripe =
    first_of
    (1 given-when not (accepted sh)
    ∷ 2 given-when not (eqb (length stripe) (stripe_length sh))
    ∷ [])

unfoldable pub sums_refusal : Shape → List ℕ → List ℕ → Option ℕ
sums_refusal sh stripe buffer =
    first_of
    (1 given-when not (accepted sh)
    ∷ 2 given-when not (eqb (length stripe) (stripe_length sh))
    ∷ 2 given-when not (eqb (length buffer) (sh.r * rows sh))
    ∷ [])

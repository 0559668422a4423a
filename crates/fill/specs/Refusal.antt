-- The refusals of each entry, in document 01's order. Refusal 5, the survivors belong to no whole stripe, comes after those of `fill_refusal` and is said
-- in `Promise`.
--   fill_refusal  == of `fill`, 1 to 4: shape; stripe; a lost bit above n; more than r lost
--   parity_refusal == of `fill_parity`: shape; stripe
use Rattle.std.specs.Prelude.{not, List, [], ◌∷◌, ℕ, eqb, ltb, length}
use Rattle.std.proofs.Math.Option.{Option}
use Rattle.rules.specs.declared.shapes.Shape.{Shape}
use Rattle.rules.specs.Shape.{accepted}
use Rattle.rules.specs.Stripe.{stripe_length}
use Rattle.rules.specs.Lost.{lost_count, bit_above}
use Rattle.rules.specs.Refusal.{first_of, ◌given-when◌}

unfoldable pub fill_refusal : Shape → ℕ → List ℕ → Option ℕ
fill_refusal sh lost stripe =
    first_of
    (1 given-when not (accepted sh)
    ∷ 2 given-when not (eqb (length stripe) (stripe_length sh))
    ∷ 3 given-when bit_above sh lost
    ∷ 4 given-when ltb sh.r (lost_count lost)
    ∷ [])

unfoldable pub parity_refusal : Shape → List ℕ → Option ℕ
parity_refusal sh stripe =
    first_of
    (1 given-when not (accepted sh)
    ∷ 2 given-when not (eqb (length stripe) (stripe_length sh))
    ∷ [])

-- What has passed all tests isn't refused. In order: `test`, `sums_of`.
use mathlib.Core.Path.{◌≡◌}
use mathlib.Core.List.{List}
use mathlib.Core.Option.{none}
use Prim.Native.Nat.{ℕ, ◌*◌}
use lib.ListN.{length}
use borrow.Author.Tests.{eq-eqb}
use Rattle.rules.specs.declared.shapes.Shape.{Shape}
use Rattle.rules.specs.Shape.{rows}
use Rattle.rules.specs.Stripe.{stripe_length}
use Rattle.rules.specs.Refusal.{shape_refusal}
use Rattle.rules.proofs.Accepted.{is-accepted}
use Rattle.sums.specs.Refusal.{test_refusal, sums_refusal}

pub test-accepted : (sh : Shape) (stripe : List ℕ) → shape_refusal sh ≡ none → length stripe ≡ stripe_length sh → test_refusal sh stripe ≡ none
unfolding test_refusal
test-accepted sh stripe h k = simp (is-accepted sh h, eq-eqb (length stripe) (stripe_length sh) k)

pub sums-accepted : (sh : Shape) (stripe buffer : List ℕ) → shape_refusal sh ≡ none → length stripe ≡ stripe_length sh → length buffer ≡ sh.r * rows sh
    → sums_refusal sh stripe buffer ≡ none
unfolding sums_refusal
sums-accepted sh stripe buffer h k w =
    simp (is-accepted sh h, eq-eqb (length stripe) (stripe_length sh) k, eq-eqb (length buffer) (sh.r * rows sh) w)

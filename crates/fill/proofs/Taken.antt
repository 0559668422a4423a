-- What isn't refused with 1 to 4 has passed every check, and the other way round. In order: `fill`, and what it refuses with 4; `fill_parity`; what a fill
-- has then to answer and to write, where something fills the stripe.
--   FillTaken sh lost stripe == what the checks of `fill` ask for
use mathlib.Core.Path.{◌≡◌}
use mathlib.Core.Bool.{false, not}
use mathlib.Core.List.{List, [], ◌∷◌}
use mathlib.Core.Option.{none, some}
use Prim.Native.Nat.{ℕ, ◌/◌, ◌^◌, ◌<◌, ◌≤◌}
use native.Mathlib.Omega.{arith}
use lib.Dec.{eqb, ltb}
use lib.ListN.{length}
use borrow.Author.Tests.{ltb-false, lt-ltb, le-ltb, eq-eqb}
use Rattle.rules.specs.declared.shapes.Shape.{Shape}
use Rattle.rules.specs.Shape.{accepted}
use Rattle.rules.specs.Stripe.{stripe_length}
use Rattle.rules.specs.Lost.{is_lost, lost_count, bit_above, Filled}
use Rattle.rules.specs.Refusal.{◌given-when◌, refusal_of, shape_refusal}
use Rattle.rules.proofs.Checks.{not_other, none-given, none_left}
use Rattle.rules.proofs.Accepted.{bounds, is-accepted, not_refused}
use Rattle.rules.proofs.LostSets.{lost_among, lost_among_lem}
use Rattle.rules.proofs.Fillings.{filled-only}
use Rattle.std.specs.Prelude.{Result}
use Rattle.rules.specs.declared.refusals.Refusal.{Refusal}
use Rattle.fill.specs.Refusal.{fill_refusal, parity_refusal}
use Rattle.fill.specs.Promise.{FillMeets}

pub record FillTaken (sh : Shape) (lost : ℕ) (stripe : List ℕ) : Type 0 where
  pub shape : shape_refusal sh ≡ none
  pub exact : length stripe ≡ stripe_length sh
  pub none_above : bit_above sh lost ≡ false
  pub few : lost_count lost ≤ sh.r

module _ (sh : Shape) (lost : ℕ) (stripe : List ℕ) where
  pub fill-taken : fill_refusal sh lost stripe ≡ none → FillTaken sh lost stripe
  unfolding fill_refusal
  fill-taken e =
      let (a, (b, (c, (d, u)))) =
      none-given
      (1 given-when not (accepted sh)
      ∷ 2 given-when not (eqb (length stripe) (stripe_length sh))
      ∷ 3 given-when bit_above sh lost
      ∷ 4 given-when ltb sh.r (lost_count lost)
      ∷ [])
      e in
      record {
        shape = not_refused sh a;
        exact = not_other (length stripe) (stripe_length sh) b;
        none_above = c;
        few = ltb-false sh.r (lost_count lost) d;
      }

  pub taken→fill : FillTaken sh lost stripe → fill_refusal sh lost stripe ≡ none
  unfolding fill_refusal
  taken→fill t =
      simp (is-accepted sh t.shape, eq-eqb (length stripe) (stripe_length sh) t.exact, t.none_above, le-ltb sh.r (lost_count lost) t.few)

  pub fill-many : shape_refusal sh ≡ none → length stripe ≡ stripe_length sh → lost / 2 ^ sh.n ≡ 0 → sh.r < lost_count lost → fill_refusal sh lost stripe ≡ some 4
  unfolding fill_refusal bit_above
  fill-many h k b m =
      simp (is-accepted sh h, eq-eqb (length stripe) (stripe_length sh) k, eq-eqb (lost / 2 ^ sh.n) 0 b, lt-ltb sh.r (lost_count lost) m)

  pub fill-few : fill_refusal sh lost stripe ≡ none → lost_among sh (is_lost lost) ≤ sh.r
  fill-few e = omega (arith, (fill-taken e).few, lost_among_lem sh lost (fill-taken e).none_above)

module _ (sh : Shape) (stripe : List ℕ) where
  pub parity-taken : parity_refusal sh stripe ≡ none → (shape_refusal sh ≡ none) × (length stripe ≡ stripe_length sh)
  unfolding parity_refusal
  parity-taken e =
      let (a, (b, u)) = none-given (1 given-when not (accepted sh) ∷ 2 given-when not (eqb (length stripe) (stripe_length sh)) ∷ []) e in
      (not_refused sh a, not_other (length stripe) (stripe_length sh) b)

  pub taken→parity : shape_refusal sh ≡ none → length stripe ≡ stripe_length sh → parity_refusal sh stripe ≡ none
  unfolding parity_refusal
  taken→parity h k = simp (is-accepted sh h, eq-eqb (length stripe) (stripe_length sh) k)

-- where one stripe is filled in, the answer is no refusal and that stripe is what is written
pub fill-answers : (sh : Shape) (lost : ℕ) (stripe : List ℕ) (answer : Result (Unit {0}) Refusal) (later : List ℕ) → fill_refusal sh lost stripe ≡ none
    → FillMeets sh lost stripe answer later → (other : List ℕ) → Filled sh (is_lost lost) stripe other → (refusal_of answer ≡ none) × (later ≡ other)
fill-answers sh lost stripe answer later taken p other f =
    let accepts = none_left (refusal_of answer) (λ q e. (p.unfillable taken q e).1 other f) in (
      accepts,
      filled-only sh (bounds sh (fill-taken sh lost stripe taken).shape) (is_lost lost) (fill-few sh lost stripe taken) stripe later other
          (p.filled taken accepts) f,
    )

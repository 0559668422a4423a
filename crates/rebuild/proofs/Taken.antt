-- What isn't refused has passed every check of `rebuild`, and the other way round; and what is then written.
--   RebuildTaken sh failed fractions before == what the checks ask for
use mathlib.Core.Path.{◌≡◌}
use mathlib.Core.Bool.{not}
use mathlib.Core.List.{List, [], ◌∷◌}
use mathlib.Core.Option.{none}
use Prim.Native.Nat.{ℕ, ◌-◌, ◌*◌, ◌≤◌}
use lib.Dec.{eqb}
use lib.ListN.{length}
use borrow.Author.Tests.{eq-eqb}
use Rattle.rules.specs.declared.shapes.Shape.{Shape}
use Rattle.rules.specs.Shape.{accepted, rows}
use Rattle.rules.specs.Stripe.{IsBytes}
use Rattle.rules.specs.Fraction.{fraction_length, MeetsRead}
use Rattle.rules.specs.Refusal.{◌given-when◌, shape_refusal, not_node}
use Rattle.rules.proofs.Checks.{not_other, none-given}
use Rattle.rules.proofs.Accepted.{bounds, is-accepted, not_refused}
use Rattle.rules.proofs.Rebuildings.{rebuilt-only}
use Rattle.std.specs.Prelude.{Result}
use Rattle.rules.specs.declared.refusals.Refusal.{Refusal}
use Rattle.yebarg.proofs.Refusals.{a-node, is-node}
use Rattle.rebuild.specs.Refusal.{rebuild_refusal}
use Rattle.rebuild.specs.Promise.{RebuildMeets}

pub record RebuildTaken (sh : Shape) (failed : ℕ) (fractions before : List ℕ) : Type 0 where
  pub shape : shape_refusal sh ≡ none
  pub fractions-long : length fractions ≡ (sh.n - 1) * fraction_length sh
  pub column-long : length before ≡ rows sh
  pub first : 1 ≤ failed
  pub last : failed ≤ sh.n

module _ (sh : Shape) (failed : ℕ) (fractions before : List ℕ) where
  pub rebuild-taken : rebuild_refusal sh failed fractions before ≡ none → RebuildTaken sh failed fractions before
  unfolding rebuild_refusal
  rebuild-taken e =
      let (a, (b, (c, (d, u)))) =
      none-given
      (1 given-when not (accepted sh)
      ∷ 2 given-when not (eqb (length fractions) ((sh.n - 1) * fraction_length sh))
      ∷ 2 given-when not (eqb (length before) (rows sh))
      ∷ 3 given-when not_node sh failed
      ∷ [])
      e in
      let (low, high) = is-node sh failed d in
      record {
        shape = not_refused sh a;
        fractions-long = not_other (length fractions) ((sh.n - 1) * fraction_length sh) b;
        column-long = not_other (length before) (rows sh) c;
        first = low;
        last = high;
      }

  pub taken→rebuild : RebuildTaken sh failed fractions before → rebuild_refusal sh failed fractions before ≡ none
  unfolding rebuild_refusal
  taken→rebuild t =
      simp (
        is-accepted sh t.shape,
        eq-eqb (length fractions) ((sh.n - 1) * fraction_length sh) t.fractions-long,
        eq-eqb (length before) (rows sh) t.column-long,
        a-node sh failed t.first t.last,
      )

  -- where nothing is refused, a column that meets the equations is the one that is written
  pub rebuild-answers : (answer : Result (Unit {0}) Refusal) (later : List ℕ) → rebuild_refusal sh failed fractions before ≡ none
      → RebuildMeets sh failed fractions before answer later → (col : List ℕ) → IsBytes (rows sh) col → MeetsRead sh failed fractions col → later ≡ col
  rebuild-answers answer later taken p col bytes meets =
      let t = rebuild-taken taken in
      let r = p.rebuilt taken in
      rebuilt-only sh (bounds sh t.shape) failed t.first t.last fractions later col r.bytes bytes r.meets meets

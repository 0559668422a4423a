-- What calls for no refusal. In order: a shape and a lost set, both ways; what is lent to `print`.
--   Taken contents == what a shape and a lost set are that call for no refusal
use mathlib.Core.Path.{◌≡◌}
use mathlib.Core.Bool.{false, not}
use mathlib.Core.List.{List, [], ◌∷◌}
use mathlib.Core.Option.{none}
use Prim.Native.Nat.{ℕ, ◌≤◌}
use lib.Dec.{ltb}
use lib.ListN.{length}
use borrow.Author.Tests.{le-ltb, eq-eqb, ltb-false}
use Rattle.rules.specs.Shape.{accepted}
use Rattle.rules.specs.Lost.{lost_count, bit_above}
use Rattle.rules.specs.Refusal.{◌given-when◌, shape_refusal}
use Rattle.rules.proofs.Checks.{none-given}
use Rattle.rules.proofs.Accepted.{is-accepted, not_refused}
use Rattle.pack.specs.declared.answers.Contents.{Contents}
use Rattle.pack.specs.Refusal.{stripe_most}
use Rattle.text.specs.Text.{contents_refusal, longest_text}
use Rattle.text.specs.Refusal.{print_refusal}

pub record Taken (contents : Contents) : Type 0 where
  pub shape : shape_refusal contents.shape ≡ none
  pub none_above : bit_above contents.shape contents.lost ≡ false
  pub few : lost_count contents.lost ≤ contents.shape.r

module _ (contents : Contents) where
  pub taken→none : Taken contents → contents_refusal contents ≡ none
  unfolding contents_refusal
  taken→none t =
      simp (is-accepted contents.shape t.shape, t.none_above, le-ltb contents.shape.r (lost_count contents.lost) t.few)

  pub none→taken : contents_refusal contents ≡ none → Taken contents
  unfolding contents_refusal
  none→taken e =
      let (a, (b, (c, u))) =
      none-given
      (1 given-when not (accepted contents.shape)
      ∷ 3 given-when bit_above contents.shape contents.lost
      ∷ 4 given-when ltb contents.shape.r (lost_count contents.lost)
      ∷ [])
      e in
      record {
        shape = not_refused contents.shape a;
        none_above = b;
        few = ltb-false contents.shape.r (lost_count contents.lost) c;
      }

module _ (stripe text : List ℕ) where
  pub print-taken : length stripe ≡ stripe_most → length text ≡ longest_text → print_refusal stripe text ≡ none
  unfolding print_refusal
  print-taken h k = simp (eq-eqb (length stripe) stripe_most h, eq-eqb (length text) longest_text k)

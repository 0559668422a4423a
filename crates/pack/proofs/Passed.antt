-- What `read_pack` refuses before it fills. In order: each refusal from what the tests find, and what is owed then; where none is given, at
-- most r nodes are not held; the same of what a pack holds; what is accepted has passed, and is read.
use mathlib.Core.Path.{◌≡◌, refl, sym, ap, ap₂, ◌∙◌}
use mathlib.Core.Bool.{cond, not}
use mathlib.Core.List.{List, [], ◌∷◌, ◌++◌}
use mathlib.Core.Option.{none, some, none-ne-some}
use Prim.Native.Nat.{ℕ, ◌-◌, ◌<◌, ◌≤◌}
use native.Mathlib.Omega.{arith}
use lib.Dec.{eqb, ltb}
use lib.ListN.{length}
use borrow.Author.Tests.{ltb-false, lt-ltb, le-ltb, eq-eqb, ne_eqb}
use Rattle.rules.specs.declared.shapes.Shape.{Shape}
use Rattle.rules.specs.Lost.{lost_count}
use Rattle.std.specs.Prelude.{Ok, Err}
use Rattle.rules.specs.declared.refusals.Refusal.{Refusal}
use Rattle.rules.specs.Refusal.{Check, first_of, number_of, ◌given-when◌}
use Rattle.rules.proofs.Checks.{none-given, none_left, first-later, first-earlier}
use Rattle.layout.specs.declared.answers.Found.{Found}
use Rattle.entries.specs.Pack.{others}
use Rattle.entries.specs.Parts.{shape_in, count_in}
use Rattle.entries.specs.Refusal.{layout_checks, layout_refusal}
use Rattle.layout.specs.Promise.{LayoutIs}
use Rattle.entries.proofs.Sets.{others-count}
use Rattle.layout.proofs.Packs.{found-parts, found-accepted}
use Rattle.pack.specs.declared.answers.Contents.{Contents}
use Rattle.pack.specs.Refusal.{stripe_most, read_refusal}
use Rattle.pack.specs.Promise.{ReadIs, ReadMeets}

module _ (pack before : List ℕ) where
  -- 4: more than r of the n nodes are not held
  abbrev many : Check
  many = 4 given-when ltb (shape_in pack).r ((shape_in pack).n - count_in pack)

  pub read_length : (length before ≡ stripe_most → ⊥) → read_refusal pack before ≡ some 2
  unfolding read_refusal
  read_length h = simp (ne_eqb (length before) stripe_most h)

  module _ (room : length before ≡ stripe_most) where
    after-room : read_refusal pack before ≡ first_of (layout_checks pack ++ many ∷ [])
    unfolding read_refusal
    after-room = ap (λ b. cond (not b) (some 2) (first_of (layout_checks pack ++ many ∷ []))) (eq-eqb (length before) stripe_most room)

    pub read_layout : {q : ℕ} → layout_refusal pack ≡ some q → read_refusal pack before ≡ some q
    unfolding layout_refusal
    read_layout {q} e = after-room ∙ first-earlier (layout_checks pack) (many ∷ []) q e

    module _ (taken : layout_refusal pack ≡ none) where
      after_layout : read_refusal pack before ≡ first_of (many ∷ [])
      unfolding layout_refusal
      after_layout = after-room ∙ first-later (layout_checks pack) (many ∷ []) taken

      pub read-many : (shape_in pack).r < (shape_in pack).n - count_in pack → read_refusal pack before ≡ some 4
      read-many h = after_layout ∙ ap (λ b. cond b (some 4) none) (lt-ltb (shape_in pack).r ((shape_in pack).n - count_in pack) h)

      pub read_none : (shape_in pack).n - count_in pack ≤ (shape_in pack).r → read_refusal pack before ≡ none
      read_none h = after_layout ∙ ap (λ b. cond b (some 4) none) (le-ltb (shape_in pack).r ((shape_in pack).n - count_in pack) h)

  pub read-refused : (q : Refusal) → read_refusal pack before ≡ some (number_of q) → ReadMeets pack before (Err q) before
  read-refused q e = record {
    refused = λ p h. sym e ∙ h;
    reads = λ h. absurd (none-ne-some (number_of q) (sym h ∙ e));
    unfillable = λ h. absurd (none-ne-some (number_of q) (sym h ∙ e));
    kept = λ p h. refl;
  }

  pub none-few : read_refusal pack before ≡ none → (shape_in pack).n - count_in pack ≤ (shape_in pack).r
  unfolding read_refusal
  none-few e =
      ltb-false (shape_in pack).r ((shape_in pack).n - count_in pack)
      (none-given (2 given-when not (eqb (length before) stripe_most) ∷ layout_checks pack ++ many ∷ []) e).1.1.1.1.1.1.1.1.1.1.0

-- the nodes that a pack doesn't hold, by its bytes and by its content
module _ (pack before : List ℕ) (found : Found) (is : LayoutIs pack found) where
  abbrev lost : ℕ
  lost = others found.shape found.held

  not_held : ((shape_in pack).n - count_in pack ≡ lost_count lost) × ((shape_in pack).r ≡ found.shape.r)
  not_held =
      let (shape, count) = found-parts pack found is in (
        ap₂ (λ (sh : Shape) (p : ℕ). sh.n - p) shape count ∙ sym (others-count found.shape found.held is.inside),
        ap (λ (sh : Shape). sh.r) shape,
      )

  pub found-few : read_refusal pack before ≡ none → lost_count lost ≤ found.shape.r
  found-few e = let (lost-is, r-is) = not_held in omega (arith, none-few pack before e, lost-is, r-is)

  module _ (room : length before ≡ stripe_most) where
    pub found-many : found.shape.r < lost_count lost → read_refusal pack before ≡ some 4
    found-many h = let (lost-is, r-is) = not_held in read-many pack before room (found-accepted pack found is) (omega (arith, h, lost-is, r-is))

    pub found_none : lost_count lost ≤ found.shape.r → read_refusal pack before ≡ none
    found_none h = let (lost-is, r-is) = not_held in read_none pack before room (found-accepted pack found is) (omega (arith, h, lost-is, r-is))

-- what is accepted has passed the checks, and is read
module _ (pack before : List ℕ) (contents : Contents) (later : List ℕ) (p : ReadMeets pack before (Ok contents) later) where
  pub accepted-passes : read_refusal pack before ≡ none
  accepted-passes = none_left (read_refusal pack before) (λ q e. none-ne-some q (p.refused q e))

  pub accepted-read : ReadIs pack before contents later
  accepted-read = p.reads accepted-passes contents refl

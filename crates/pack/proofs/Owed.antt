-- What `fill_found` owes, from what `fill` answers of the columns that were placed. In order: the refusal of the filling, which is 4 or none; where the
-- filling is refused; where it is done.
use mathlib.Core.Path.{◌≡◌, refl, sym, ap, subst, ◌∙◌}
use mathlib.Core.Bool.{false}
use mathlib.Core.List.{List, ◌++◌}
use mathlib.Core.Option.{none, some, none-ne-some, some-ne-none, some-injective}
use Prim.Native.Nat.{ℕ, suc, ◌<◌, ◌≤◌}
use native.Mathlib.Decide.{dec_le}
use native.Mathlib.Nat.{div-eq_of_lt}
use native.Mathlib.Omega.{arith}
use lib.ListN.{length, drop}
use Rattle.rules.specs.declared.refusals.Refusal.TheVariants.{TooManyLost}
use Rattle.rules.specs.Refusal.{number_of, refusal_of}
use Rattle.rules.proofs.Numbers.{number_of-injective}
use Rattle.rules.specs.Stripe.{stripe_length}
use Rattle.rules.specs.Lost.{lost_count, bit_above}
use Rattle.rules.proofs.LostSets.{lost-below}
use Rattle.fill.specs.Refusal.{fill_refusal}
use Rattle.fill.specs.Promise.{FillMeets}
use Rattle.fill.proofs.Taken.{taken→fill, fill-many}
use Rattle.layout.specs.declared.answers.Found.{Found}
use Rattle.entries.specs.Pack.{others}
use Rattle.layout.specs.Promise.{LayoutIs}
use Rattle.entries.proofs.Sets.{others-inside}
use Rattle.std.specs.Prelude.{Result, Ok, Err}
use Rattle.rules.specs.declared.refusals.Refusal.{Refusal}
use Rattle.pack.specs.declared.answers.Contents.{Contents}
use Rattle.pack.specs.Promise.{Unpacks, ReadIs}
use Rattle.pack.specs.Kernel.{Placed, FoundMeets}
use Rattle.pack.proofs.Unpacking.{filled→unpacks, unpacks→filled, unpacks→read}

-- what an answer that is accepted says
abbrev Reads : List ℕ → List ℕ → List ℕ → Result Contents Refusal → Type 0
Reads pack before later (Ok contents) = ReadIs pack before contents later
Reads pack before later (Err q) = Unit {0}

module _ (found : Found) (pack before blank placed : List ℕ) (is : LayoutIs pack found) (exact : length blank ≡ stripe_length found.shape)
    (put : Placed found pack blank placed) where
  abbrev lost : ℕ
  lost = others found.shape found.held

  long : length placed ≡ stripe_length found.shape
  long = put.same_length ∙ exact

  inside : bit_above found.shape lost ≡ false
  inside = others-inside found.shape found.held

  too_many : found.shape.r < lost_count lost → fill_refusal found.shape lost placed ≡ some 4
  too_many h =
      fill-many found.shape lost placed is.taken long
      (div-eq_of_lt (lost-below found.shape lost inside)) h

  few_enough : lost_count lost ≤ found.shape.r → fill_refusal found.shape lost placed ≡ none
  few_enough h =
      taken→fill found.shape lost placed
      (record { shape = is.taken; exact = long; none_above = inside; few = h })

  refused_owed : (q : Refusal) (filled : List ℕ) → FillMeets found.shape lost placed (Err q) filled
      → FoundMeets found pack before (Err q) before
  refused_owed q filled p = record {
    many = λ h. ap Err (number_of-injective q TooManyLost (some-injective _ _ (p.refused 4 (too_many h))));
    reads = λ contents e. absurd (some-ne-none (number_of q) (ap refusal_of e));
    unfillable = λ few k e.
        let (five, none-fills) = p.unfillable (few_enough few) (number_of q) refl in
        (sym (some-injective _ _ e) ∙ five, λ stripe u. none-fills stripe (unpacks→filled found pack blank placed is put stripe exact u));
    kept = λ k e. refl;
  }

  done_owed : (filled : List ℕ) → FillMeets found.shape lost placed (Ok tt) filled
      → FoundMeets found pack before (Ok (record { shape = found.shape; lost = lost })) (filled ++ drop (stripe_length found.shape) before)
  done_owed filled p = record {
    many = λ h. absurd (not_many h);
    reads = λ contents e. subst (Reads pack before later) e (unpacks→read found.shape lost pack filled unpacks before is.taken inside);
    unfillable = λ few k e. absurd (none-ne-some k e);
    kept = λ k e. absurd (none-ne-some k e);
  }
    where
      later : List ℕ
      later = filled ++ drop (stripe_length found.shape) before

      not_many : found.shape.r < lost_count lost → ⊥
      not_many h = none-ne-some 4 (p.refused 4 (too_many h))

      few : Dec (suc found.shape.r ≤ lost_count lost) → lost_count lost ≤ found.shape.r
      few (yes h) = absurd (not_many h)
      few (no h) = omega arith

      unpacks : Unpacks found.shape lost pack filled
      unpacks = filled→unpacks found pack blank placed is put filled (p.filled (few_enough (few (dec_le (suc found.shape.r) (lost_count lost)))) refl)

-- the same of the values that the code has
module _ {found : Found} {pack blank placed filled : List ℕ} {set : ℕ} {answer : Result (Unit {0}) Refusal} (is : LayoutIs pack found)
    (exact : length blank ≡ stripe_length found.shape) (put : Placed found pack blank placed) (lost-is : set ≡ others found.shape found.held)
    (met : FillMeets found.shape set placed answer filled) where
  met_as : (given : Result (Unit {0}) Refusal) → answer ≡ given → FillMeets found.shape (others found.shape found.held) placed given filled
  met_as given e =
      subst (λ lost. FillMeets found.shape lost placed given filled) lost-is (subst (λ a. FillMeets found.shape set placed a filled) e met)

  pub found_refused : {before : List ℕ} {given : Result Contents Refusal} {q : Refusal} → answer ≡ Err q → given ≡ Err q
      → FoundMeets found pack before given before
  found_refused {before} {given} {q} e same =
      subst (λ a. FoundMeets found pack before a before) (sym same) (refused_owed found pack before blank placed is exact put q filled (met_as (Err q) e))

  pub found_filled : {before later : List ℕ} → answer ≡ Ok tt → later ≡ filled ++ drop (stripe_length found.shape) before
      → FoundMeets found pack before (Ok (record { shape = found.shape; lost = set })) later
  found_filled {before} {later} e same =
      subst (λ lost. FoundMeets found pack before (Ok (record { shape = found.shape; lost = lost })) later) (sym lost-is)
      (subst (FoundMeets found pack before (Ok (record { shape = found.shape; lost = others found.shape found.held }))) (sym same)
      (done_owed found pack before blank placed is exact put filled (met_as (Ok tt) e)))

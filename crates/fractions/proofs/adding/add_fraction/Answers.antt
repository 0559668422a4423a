-- `fractions::add_fraction` meets its contract: past all tests what the sums gain is what the fraction alone brings, from a helper in the failed node's group
-- and from one in another.
use mathlib.Core.Path.{◌≡◌, refl, ap, ◌∙◌, subst}
use mathlib.Core.Option.{none, none-ne-some}
use mathlib.Core.List.{List}
use Prim.Native.Nat.{ℕ, ◌-◌, ◌*◌, ◌/◌, ◌%◌}
use Rattle.std.proofs.Common.{rules}
use native.Mathlib.Omega.{arith}
use lib.ListN.{length}
use Rattle.std.specs.Prelude.{Ok}
use Rattle.rules.specs.Fraction.{fraction_length}
use Rattle.rules.specs.Refusal.{shape_refusal}
use Rattle.rules.proofs.Accepted.{bounds}
use Rattle.rules.proofs.Measures.{own-sizes}
use Rattle.fractions.specs.Refusal.{add_refusal}
use Rattle.fractions.specs.Promise.{Added, AddMeets}
use Rattle.fractions.proofs.Alone.{added_mate, added-lone}
use Rattle.fractions.proofs.Pairs.{Pair, pair, Left, left, fraction_whole}
use Rattle.fractions.proofs.adding.add_fraction.Goals as goal
use Rattle.fractions.proofs.adding.add_fraction.Goals.{After-worth, Else-helper-failed}

exact : (c : Else-helper-failed) → length c.args.fraction.now ≡ fraction_length c.in-Ok.z.shape
exact c = c.in_ok-check_len.ensures.when.0 refl ∙ c.fraction_len.ensures.is

both : (c : Else-helper-failed) → Pair c.in-Ok.z c.args.helper c.args.failed
both c =
    pair c.in-Ok.z c.args.helper c.args.failed c.in_ok-check_node.ensures.inside.0 c.in_ok-check_node.ensures.inside.1 c.in_ok-check_node-2.ensures.inside.0
    c.in_ok-check_node-2.ensures.inside.1

digit : (c : After-worth) → Left c.in-Ok.z ((c.args.helper - 1) / c.in-Ok.z.s) ((c.args.failed - 1) / c.in-Ok.z.s) c.worth.result
digit c =
    let p = both (goal.at.After-worth c).Else-helper-failed in
    left c.in-Ok.z _ _ c.left_out.result c.worth.result p.group_below p.failed-below c.if-g-v.false c.left_out.ensures c.worth.ensures

-- nothing is refused
done : (c : Else-helper-failed) {later : List ℕ}
    → Added c.in-Ok.z.shape c.args.failed c.args.helper c.args.fraction.now c.args.sums.now later
    → AddMeets c.args.shape c.args.failed c.args.helper c.args.fraction.now c.args.sums.now (Ok tt) later
unfolding add_refusal shape_refusal
done c {later} added =
    let taken : none ≡ add_refusal c.args.shape c.args.failed c.args.helper c.args.fraction.now c.args.sums.now = search rules in
    record {
      answered = taken;
      written = λ h. subst (λ sh. Added sh c.args.failed c.args.helper c.args.fraction.now c.args.sums.now later) c.in-Ok.ensures added;
      kept = λ q h. absurd (none-ne-some q (taken ∙ h));
    }

pub returns-then-g-v : goal.returns-then-g-v
returns-then-g-v c =
    let z = c.in-Ok.z in
    let i = c.in_ok-check_node.ensures.inside in
    let f = c.in_ok-check_node-2.ensures.inside in
    done (goal.at.returns-then-g-v c).Else-helper-failed
    (added_mate z.shape (bounds z.shape z.of_shape.taken) c.args.failed c.args.helper c.args.fraction.now c.args.sums.now _ i.0 i.1 f.0 f.1 c.if-helper-failed.false
    (exact (goal.at.returns-then-g-v c).Else-helper-failed) z (own-sizes z) _ _
    (c.point.ensures.inside i.0 (omega (arith, i.1, z.of_shape.n-most)))
    c.factor-c.ensures
    c.if-g-v.true
    c.add_mate.ensures)

pub invariant_of-group : goal.invariant_of-group
invariant_of-group c =
    let d = digit (goal.at.invariant_of-group c).After-worth in
    record { nodes = (both (goal.at.invariant_of-group c).Else-helper-failed).nodes; worth_some = d.some; worth_most = d.most }

pub add_lone-requires-clause-short : goal.add_lone-requires-clause-short
add_lone-requires-clause-short c =
    omega (
      arith,
      ap (λ n. n * c.in-Ok.z.s) (exact (goal.at.add_lone-requires-clause-short c).Else-helper-failed) ∙ fraction_whole c.in-Ok.z,
      c.in-Ok.z.of_shape.l-most,
    )

pub add_lone-requires-clause-periods : goal.add_lone-requires-clause-periods
add_lone-requires-clause-periods c =
    ap (λ n. n % (c.worth.result * c.in-Ok.z.s)) (exact (goal.at.add_lone-requires-clause-periods c).Else-helper-failed)
    ∙ (digit (goal.at.add_lone-requires-clause-periods c).After-worth).periods

pub returns : goal.returns
returns c =
    let z = c.in-Ok.z in
    let i = c.in_ok-check_node.ensures.inside in
    let f = c.in_ok-check_node-2.ensures.inside in
    done (goal.at.returns c).Else-helper-failed
    (added-lone z.shape (bounds z.shape z.of_shape.taken) c.args.failed c.args.helper c.args.fraction.now c.args.sums.now _ i.0 i.1 f.0 f.1 c.if-helper-failed.false
    (exact (goal.at.returns c).Else-helper-failed) z (own-sizes z) c.worth.result
    (digit (goal.at.returns c).After-worth).is
    c.if-g-v.false
    c.add_lone.ensures)

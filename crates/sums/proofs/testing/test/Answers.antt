-- `sums::test` meets its contract: `add_all` gives the sums of the equations, and `lowest` finds the first that isn't 0.
use mathlib.Core.Path.{refl, ◌∙◌}
use Prim.Native.Nat.{ℕ, ◌*◌}
use Rattle.std.proofs.lemmas.List.{take-replicate}
use Rattle.columns.proofs.Kernels.{product_small}
use Rattle.sums.proofs.Summing.{sums-clear, tested}
use Rattle.sums.proofs.testing.test.Goals as goal

pub add_all-requires-clause-sums_are : goal.add_all-requires-clause-sums_are
add_all-requires-clause-sums_are c =
    let z = c.in-Ok.z in
    rw (take-replicate {X = ℕ} (z.shape.r * z.l) 1024 0 (product_small z.of_shape.r-most z.of_shape.l-most)) (sums-clear z _ (z.shape.r * z.l) refl)

pub returns : goal.returns
returns c =
    tested c.in-Ok.z c.args.shape c.in-Ok.ensures c.args.stripe.now (c.in_ok-check_len.ensures.when.0 refl ∙ c.stripe_len.ensures.is) c.add_all.new.sums
    c.add_all.ensures c.lowest.result c.lowest.ensures

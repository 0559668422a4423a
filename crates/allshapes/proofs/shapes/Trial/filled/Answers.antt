-- `filled` is safe: the scratch, a stripe long, is at most 16 columns.
use Rattle.std.proofs.Common.{◌≡◌, ℕ, ◌*◌, ◌≤◌, ◌∙◌, arith}
use native.Mathlib.Nat.{mul-le-mul_right}
use Rattle.rules.specs.declared.shapes.Sizes.{Sizes}
use Rattle.rules.specs.Stripe.{stripe_length}
use Rattle.rules.proofs.Measures.{own-sizes}
use Rattle.rules.proofs.Lengths.{stripe-is}
use Rattle.allshapes.proofs.shapes.Trial.filled.Goals as goal

columns-most : (z : Sizes) (k : ℕ) → k ≡ stripe_length z.shape → k ≤ 16 * z.l
columns-most z k long = omega (arith, stripe-is z.shape z (own-sizes z), long, mul-le-mul_right z.l z.of_shape.n-most)

pub spoil-requires : goal.spoil-requires
spoil-requires g c =
    let z = c.args.self.now.z in
    (omega (arith, z.of_shape.l-least), columns-most z _ (c.copy_from_slice.auto.self ∙ c.loop-lost.invariant.long))

pub spoil-requires-then-set-size : goal.spoil-requires-then-set-size
spoil-requires-then-set-size g c =
    let z = c.args.self.now.z in (
      omega (arith, z.of_shape.l-least),
      columns-most z _ (c.fill.auto.stripe ∙ c.spoil.auto.list ∙ c.copy_from_slice.auto.self ∙ c.loop-lost.invariant.long),
    )

-- `rules::worth` meets its contract: `measure` says whether there is such a digit, whose power is small.
use mathlib.Core.Path.{◌≡◌, ap, ◌∙◌}
use mathlib.Core.Logic.{◌⊎◌, inl, inr}
use mathlib.Core.Option.{none, some}
use Prim.Native.Nat.{ℕ, ◌≤◌, ◌<◌, ◌-◌, ◌^◌}
use native.Mathlib.Omega.{arith}
use Rattle.rules.specs.declared.shapes.Shape.{Shape}
use Rattle.rules.specs.Shape.{groups, worth}
use Rattle.rules.specs.Refusal.{shape_refusal}
use Rattle.rules.specs.Promise.{WorthIs}
use Rattle.rules.proofs.Measures.{measured-sizes, refused_not_accepted}
use Rattle.rules.proofs.Sizing.{power-fits}
use Rattle.rules.proofs.measuring.worth.Goals as goal

pub pow-requires : goal.pow-requires
pow-requires c = grind (arith, power-fits)

-- where there is such a digit, nothing else is said
there-is : (sh : Shape) (v w : ℕ) → shape_refusal sh ≡ none → 1 ≤ v → v ≤ groups sh → w ≡ worth sh v → WorthIs sh v w
there-is sh v w k p q e = record { inside = λ x y z. e; outside = none_of }
  where
    none_of : (shape_refusal sh ≡ some 1) ⊎ (v < 1) ⊎ (groups sh < v) → w ≡ 0
    none_of (inl h) = absurd (refused_not_accepted sh 1 h k)
    none_of (inr (inl h)) = absurd (omega (arith, h, p))
    none_of (inr (inr h)) = absurd (omega (arith, h, q))

pub returns : goal.returns
unfolding worth
returns c =
    let sh = c.args.shape in
    let v = c.args.v in
    let h = measured-sizes sh c.measure.ensures c.in-Ok.is in
    there-is sh v c.pow.result h.taken
    c.if-v-lt1.false
    (omega (arith, h.m-is, c.if-v-z.false))
    (c.pow.ensures ∙ ap (λ s. s ^ (v - 1)) h.s-is)

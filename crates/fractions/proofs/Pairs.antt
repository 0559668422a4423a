-- A helper i and the failed node f, in the numbers of the code: groups and places count from 0.
--   Pair z i f   == both groups are there, and the helper's ends among the nodes
--   Left z g v w == w is what a 1 as the digit of group g counts where the digit of group v is left out
use mathlib.Core.Path.{◌≡◌, sym, ap, ap₂, ◌∙◌}
use Prim.Native.Nat.{ℕ, ◌+◌, ◌-◌, ◌*◌, ◌/◌, ◌%◌, ◌<◌, ◌≤◌}
use native.Mathlib.Nat.{mod-lt, div-lt_iff_lt-mul, mul-le-mul_right}
use native.Mathlib.Omega.{arith}
use Rattle.rules.specs.declared.shapes.Sizes.{Sizes}
use Rattle.rules.specs.Shape.{groups, worth}
use Rattle.rules.specs.Fraction.{fraction_length}
use Rattle.rules.specs.Promise.{WorthIs}
use Rattle.rules.proofs.Accepted.{bounds}
use Rattle.rules.proofs.RowsRead.{worth-some, worth-most, fraction-times}
use Rattle.fractions.specs.Kernel.{left_out}
use Rattle.fractions.proofs.Positions.{left-out-bounds, fraction_periods}

pub record Pair (z : Sizes) (i f : ℕ) : Type 0 where
  pub group_below : (i - 1) / z.s < z.m
  pub failed-below : (f - 1) / z.s < z.m
  pub nodes : (i - 1) / z.s * z.s + z.s ≤ 16
  pub place_below : (i - 1) % z.s < z.s

-- a node's group
below : (z : Sizes) (i : ℕ) → 1 ≤ i → i ≤ z.shape.n → (i - 1) / z.s < z.m
below z i first last =
    (div-lt_iff_lt-mul {k = z.s} {x = i - 1} {y = z.m} (omega (arith, z.of_shape.s-least))).1 (omega (arith, first, last, z.of_shape.nodes-least))

pub pair : (z : Sizes) (i f : ℕ) → 1 ≤ i → i ≤ z.shape.n → 1 ≤ f → f ≤ z.shape.n → Pair z i f
pair z i f first last f-first f-last =
    let there = below z i first last in
    record {
      group_below = there;
      failed-below = below z f f-first f-last;
      nodes = omega (arith, mul-le-mul_right z.s there, z.of_shape.nodes-most);
      place_below = mod-lt (i - 1) (omega (arith, z.of_shape.s-least));
    }

pub record Left (z : Sizes) (g v w : ℕ) : Type 0 where
  pub is : w ≡ worth z.shape (left_out g v)
  pub some : 0 < w
  pub most : w ≤ 256
  pub periods : fraction_length z.shape % (w * z.s) ≡ 0

pub left : (z : Sizes) (g v d w : ℕ) → g < z.m → v < z.m → (g ≡ v → ⊥) → d ≡ left_out g v → WorthIs z.shape d w → Left z g v w
left z g v d w hg hv ne d-is worth_is =
    let b = bounds z.shape z.of_shape.taken in
    let o = left-out-bounds g v z.m hg hv ne in
    let inside : left_out g v < groups z.shape = omega (arith, o.1, z.of_shape.m-is) in
    let e : w ≡ worth z.shape (left_out g v) =
    worth_is.inside z.of_shape.taken (omega (arith, o.0, d-is)) (omega (arith, inside, d-is)) ∙ ap (worth z.shape) d-is in record {
      is = e;
      some = omega (arith, e, worth-some z.shape b (left_out g v));
      most = omega (arith, e, worth-most z.shape b (left_out g v) (omega (arith, inside)), b.l-most);
      periods =
          ap (λ n. fraction_length z.shape % n) (ap₂ (λ x y. x * y) e z.of_shape.s-is) ∙ fraction_periods z.shape b (left_out g v) o.0 inside;
    }

-- the fractions of a group's places make a column
pub fraction_whole : (z : Sizes) → fraction_length z.shape * z.s ≡ z.l
fraction_whole z =
    ap (λ s. fraction_length z.shape * s) z.of_shape.s-is ∙ fraction-times z.shape (bounds z.shape z.of_shape.taken) ∙ sym z.of_shape.l-is

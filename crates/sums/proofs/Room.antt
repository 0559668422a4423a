-- How far the numbers of the loop over all groups go, at group v + 1.
--   Room z v   == every number fits, and the group's columns begin in the stripe
--   Counts z v w == w is what a 1 as the group's digit counts
use mathlib.Core.Path.{◌≡◌}
use Prim.Native.Nat.{ℕ, suc, ◌+◌, ◌*◌, ◌<◌, ◌≤◌}
use native.Mathlib.Nat.{mul-le-mul, mul-le-mul_left, mul-le-mul_right}
use native.Mathlib.Omega.{arith}
use Rattle.rules.specs.declared.shapes.Sizes.{Sizes}
use Rattle.rules.specs.Shape.{groups, worth}
use Rattle.rules.specs.Stripe.{stripe_length}
use Rattle.rules.specs.Promise.{WorthIs}
use Rattle.rules.proofs.Accepted.{bounds}
use Rattle.rules.proofs.RowsRead.{worth-some, worth-most}
use Rattle.rules.proofs.Measures.{own-sizes, small}
use Rattle.rules.proofs.Lengths.{stripe-is}
use Rattle.columns.proofs.Kernels.{product_small}

pub record Room (z : Sizes) (v : ℕ) : Type 0 where
  pub groups_most : v + 1 ≤ 16
  pub nodes : v * z.s + z.s ≤ 16
  pub start_most : v * z.s * z.l ≤ 4096
  pub length_most : z.s * z.l ≤ 1024
  pub start_end : v * z.s * z.l ≤ stripe_length z.shape

pub room : (z : Sizes) (v : ℕ) → v < z.m → Room z v
room z v below =
    let h = z.of_shape in
    let ends : suc v * z.s ≤ z.m * z.s = mul-le-mul_right {m = suc v} {n = z.m} z.s below in
    let nodes : v * z.s + z.s ≤ 16 = omega (arith, ends, h.nodes-most) in
    let first : v * z.s ≤ 16 = omega (arith, nodes) in
    record {
      groups_most = omega (arith, nodes, h.s-least, mul-le-mul_left v h.s-least);
      nodes = nodes;
      start_most = mul-le-mul first h.l-most;
      length_most = product_small h.s-most h.l-most;
      -- a group begins with a node that is there
      start_end =
          omega (
            arith,
            mul-le-mul_right {m = v * z.s} {n = z.shape.n} z.l (omega (arith, ends, (small z.shape z (own-sizes z)).phantoms_few)),
            stripe-is z.shape z (own-sizes z),
          );
    }

pub record Counts (z : Sizes) (v w : ℕ) : Type 0 where
  pub is : w ≡ worth z.shape (v + 1)
  pub some : 0 < w
  pub most : w ≤ 256

pub counts : (z : Sizes) (v w : ℕ) → v < z.m → WorthIs z.shape (v + 1) w → Counts z v w
counts z v w below worth_is =
    let b = bounds z.shape z.of_shape.taken in
    let most : v + 1 ≤ groups z.shape = omega (arith, below, z.of_shape.m-is) in
    let e : w ≡ worth z.shape (v + 1) = worth_is.inside z.of_shape.taken (omega arith) most in
    record {
      is = e;
      some = omega (arith, e, worth-some z.shape b (v + 1));
      most = omega (arith, e, worth-most z.shape b (v + 1) most, b.l-most);
    }

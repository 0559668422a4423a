-- What is known of lost nodes that are to be filled. In order: how many there are; how many bytes all sums, the sums solved, and the columns of all nodes
-- are; the list of the nodes, which are among all nodes of the code, each once; each has its column among those of all nodes.
-- Assumes nothing.
use mathlib.Core.Path.{sym, subst}
use Prim.Native.Nat.{ℕ, ◌+◌, ◌*◌, ◌<◌, ◌≤◌}
use native.Mathlib.Nat.{mul-le-mul, mul-le-mul_right}
use native.Mathlib.Omega.{arith}
use lib.ListN.{get_or}
use Rattle.theory.specs.Set.{Lists}
use Rattle.theory.proofs.Counts.{lists-wider}
use Rattle.rules.specs.Shape.{group_size, groups}
use Rattle.rules.proofs.Accepted.{Bounds, bounds, nodes-least}
use Rattle.columns.proofs.Kernels.{product_small, column-within}
use Rattle.corrections.specs.Correction.{chosen}
use Rattle.levels.specs.declared.level.Lost.{Lost}
use Rattle.levels.proofs.Nodes.{ordered-lists}

module _ (lost : Lost) where
  pub fits : Bounds lost.z.shape
  fits = bounds lost.z.shape lost.z.of_shape.taken

  pub count_most : lost.count ≤ 4
  count_most = omega arith

  pub sums-most : lost.z.shape.r * lost.z.l ≤ 1024
  sums-most = product_small lost.z.of_shape.r-most lost.z.of_shape.l-most

  pub found-most : lost.count * lost.z.l ≤ 1024
  found-most = product_small count_most lost.z.of_shape.l-most

  pub found-within : lost.count * lost.z.l ≤ lost.z.shape.r * lost.z.l
  found-within = mul-le-mul_right lost.z.l lost.few

  pub nodes-most : lost.z.m * lost.z.s * lost.z.l ≤ 4096
  nodes-most = mul-le-mul lost.z.of_shape.nodes-most lost.z.of_shape.l-most

  pub lists : Lists (groups lost.z.shape * group_size lost.z.shape) (chosen lost.flags) lost.count (λ j. get_or lost.nodes j 0)
  lists =
      lists-wider lost.z.shape.n (groups lost.z.shape * group_size lost.z.shape) (chosen lost.flags) lost.count _ lost.none_above (nodes-least lost.z.shape fits)
      (subst (λ k. Lists lost.z.shape.n (chosen lost.flags) k (λ j. get_or lost.nodes j 0)) (sym lost.counted) (ordered-lists lost.in_order))

  module _ (j : ℕ) (h : j < lost.count) where
    pub node-below : get_or lost.nodes j 0 < lost.z.shape.n
    node-below = lost.in_order.below j (omega arith)

    pub node-within : get_or lost.nodes j 0 * lost.z.l + lost.z.l ≤ lost.z.m * lost.z.s * lost.z.l
    node-within = column-within lost.z.l (omega (arith, node-below))

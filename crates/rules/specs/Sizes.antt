-- What the type `Sizes` keeps: document 01, "Shape". It names no value of that type, which is declared over it.
--   AreSizes sh k m l s == the shape is accepted, and k, m, l, s are its sizes; what follows of them for every accepted shape stands beside it, so that no
--                          function works it out again
use Rattle.std.specs.Prelude.{◌≡◌, ℕ, ◌+◌, ◌*◌, ◌^◌, ◌≤◌}
use Rattle.std.proofs.Math.Option.{none}
use Rattle.rules.specs.declared.shapes.Shape.{Shape}
use Rattle.rules.specs.Shape.{group_size, data_nodes, groups, rows}
use Rattle.rules.specs.Refusal.{shape_refusal}

pub record AreSizes (sh : Shape) (k m l s : ℕ) : Type 0 where
  pub taken : shape_refusal sh ≡ none
  pub k-is : k ≡ data_nodes sh
  pub m-is : m ≡ groups sh
  pub l-is : l ≡ rows sh
  pub s-is : s ≡ group_size sh
  -- what follows
  pub r-least : 2 ≤ sh.r
  pub r-most : sh.r ≤ 4
  pub s-least : 2 ≤ s
  pub s-most : s ≤ 4
  pub n-most : sh.n ≤ 16
  pub k-least : 1 ≤ k
  pub k-adds : k + sh.r ≡ sh.n
  pub m-most : m ≤ 8
  pub l-least : 1 ≤ l
  pub l-most : l ≤ 256
  pub l-power : l ≡ s ^ m
  pub nodes-least : sh.n ≤ m * s
  pub nodes-most : m * s ≤ 16

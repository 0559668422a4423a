-- What each public function promises of its result, for every input.
--   NewIs n r sh         == `Shape::new`: the shape holds n and r
--   SizesAre sh z        == the shape is accepted, and z has its sizes
--   MeasuredIs sh answer == `measure`: the sizes of an accepted shape, which are that shape's by their type (`AreSizes`), or refusal 1
--   WorthIs sh v w       == `worth`: w is what a 1 as digit v counts, or 0 where the shape isn't accepted or has no such digit
--   PointIs sh i p       == `point`: p is point i, or 0 where i isn't 1 to 16
use Rattle.std.specs.Prelude.{◌≡◌, ◌⊎◌, ℕ, ◌<◌, ◌≤◌, Result, Ok, Err}
use Rattle.std.proofs.Math.Option.{none, some}
use Rattle.rules.specs.declared.refusals.Refusal.{Refusal}
use Rattle.rules.specs.declared.shapes.Shape.{Shape}
use Rattle.rules.specs.declared.shapes.Sizes.{Sizes}
use Rattle.rules.specs.Shape.{group_size, data_nodes, groups, rows, worth}
use Rattle.rules.specs.Point.{point_of}
use Rattle.rules.specs.Refusal.{shape_refusal, number_of}

pub record NewIs (n r : ℕ) (sh : Shape) : Type 0 where
  pub nodes : sh.n ≡ n
  pub parity : sh.r ≡ r

pub record SizesAre (sh : Shape) (z : Sizes) : Type 0 where
  pub taken : shape_refusal sh ≡ none
  pub n-is : z.shape.n ≡ sh.n
  pub r-is : z.shape.r ≡ sh.r
  pub k-is : z.k ≡ data_nodes sh
  pub m-is : z.m ≡ groups sh
  pub l-is : z.l ≡ rows sh
  pub s-is : z.s ≡ group_size sh

-- what each case of the answer means
abbrev pub MeasuredIs : Shape → Result Sizes Refusal → Type 0
MeasuredIs sh (Ok z) = z.shape ≡ sh
MeasuredIs sh (Err q) = shape_refusal sh ≡ some (number_of q)

pub record WorthIs (sh : Shape) (v w : ℕ) : Type 0 where
  pub inside : shape_refusal sh ≡ none → 1 ≤ v → v ≤ groups sh → w ≡ worth sh v
  pub outside : (shape_refusal sh ≡ some 1) ⊎ (v < 1) ⊎ (groups sh < v) → w ≡ 0

pub record PointIs (sh : Shape) (i p : ℕ) : Type 0 where
  pub inside : 1 ≤ i → i ≤ 16 → p ≡ point_of sh i
  pub outside : (i < 1) ⊎ (16 < i) → p ≡ 0

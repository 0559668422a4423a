-- What the answer of `measure` tells whoever takes it apart: the first thing that every entry does. In order: the answer's two cases; the sizes of a shape
-- as one value; how small they are.
--   Small z    == bounds of sizes that `measure` gave
use mathlib.Core.Path.{◌≡◌, refl, sym, ap, ap₂, ◌∙◌, subst}
use mathlib.Core.HLevel.{is_prop→PathP}
use mathlib.Core.Option.{none, some, none-ne-some}
use Rattle.std.proofs.Math.Option.{Path-none_prop}
use Rattle.std.proofs.Math.Nat.{ℕ_set}
use Rattle.std.proofs.Math.Bridge.{le_prop}
use Prim.Native.Nat.{ℕ, ◌+◌, ◌*◌, ◌<◌, ◌≤◌}
use native.Mathlib.Omega.{arith}
use Rattle.rules.specs.declared.shapes.Shape.{Shape}
use Rattle.rules.specs.declared.shapes.Sizes.{Sizes}
use Rattle.std.specs.Prelude.{Result, Ok, Err}
use Rattle.rules.specs.declared.refusals.Refusal.{Refusal}
use Rattle.rules.specs.Sizes.{AreSizes}
use Rattle.rules.specs.Shape.{group_size, data_nodes, groups, rows}
use Rattle.rules.specs.Refusal.{shape_refusal, number_of}
use Rattle.rules.specs.Promise.{MeasuredIs, SizesAre}
use Rattle.rules.proofs.Sizing.{kept}
use Rattle.rules.proofs.Accepted.{Bounds, bounds, is-refused, phantoms_few}

-- what a value of the type says, of its own shape
pub own-sizes : (z : Sizes) → SizesAre z.shape z
own-sizes z = record {
  taken = z.of_shape.taken;
  n-is = refl;
  r-is = refl;
  k-is = z.of_shape.k-is;
  m-is = z.of_shape.m-is;
  l-is = z.of_shape.l-is;
  s-is = z.of_shape.s-is;
}

pub measured-sizes : (sh : Shape) {x : Result Sizes Refusal} {z : Sizes} → MeasuredIs sh x → x ≡ Ok z → SizesAre sh z
measured-sizes sh {x} {z} h e = subst (λ (y : Shape). SizesAre y z) (subst (MeasuredIs sh) e h) (own-sizes z)

pub measured-refused : (sh : Shape) {x : Result Sizes Refusal} {q : Refusal} → MeasuredIs sh x → x ≡ Err q → shape_refusal sh ≡ some 1
measured-refused sh {x} {q} h e = (is-refused sh (number_of q) (subst (MeasuredIs sh) e h)).1

-- a shape is not both refused and accepted
pub refused_not_accepted : (sh : Shape) (q : ℕ) → shape_refusal sh ≡ some q → shape_refusal sh ≡ none → ⊥
refused_not_accepted sh q h k = none-ne-some q (sym k ∙ h)

-- what the type keeps is one fact: two proofs of it are the same
kept_once : {sh : Shape} {k m l s : ℕ} → IsProp (AreSizes sh k m l s)
kept_once {sh} x y = λ i. record {
  taken = Path-none_prop (shape_refusal sh) x.taken y.taken i;
  k-is = ℕ_set _ _ x.k-is y.k-is i;
  m-is = ℕ_set _ _ x.m-is y.m-is i;
  l-is = ℕ_set _ _ x.l-is y.l-is i;
  s-is = ℕ_set _ _ x.s-is y.s-is i;
  r-least = le_prop x.r-least y.r-least i;
  r-most = le_prop x.r-most y.r-most i;
  s-least = le_prop x.s-least y.s-least i;
  s-most = le_prop x.s-most y.s-most i;
  n-most = le_prop x.n-most y.n-most i;
  k-least = le_prop x.k-least y.k-least i;
  k-adds = ℕ_set _ _ x.k-adds y.k-adds i;
  m-most = le_prop x.m-most y.m-most i;
  l-least = le_prop x.l-least y.l-least i;
  l-most = le_prop x.l-most y.l-most i;
  l-power = ℕ_set _ _ x.l-power y.l-power i;
  nodes-least = le_prop x.nodes-least y.nodes-least i;
  nodes-most = le_prop x.nodes-most y.nodes-most i;
}

-- a shape has one value of its sizes
pub sizes_same : (x y : Sizes) → x.shape ≡ y.shape → x ≡ y
sizes_same x y e =
    let k = x.of_shape.k-is ∙ ap data_nodes e ∙ sym y.of_shape.k-is in
    let m = x.of_shape.m-is ∙ ap groups e ∙ sym y.of_shape.m-is in
    let l = x.of_shape.l-is ∙ ap rows e ∙ sym y.of_shape.l-is in
    let s = x.of_shape.s-is ∙ ap group_size e ∙ sym y.of_shape.s-is in λ i. record {
      shape = e i;
      k = k i;
      m = m i;
      l = l i;
      s = s i;
      of_shape = is_prop→PathP (λ (j : 𝕀). AreSizes (e j) (k j) (m j) (l j) (s j)) (λ (j : 𝕀). kept_once {sh = e j} {k = k j} {m = m j} {l = l j} {s = s j}) x.of_shape y.of_shape i;
    }

-- the shape of sizes
pub shape-is : (sh : Shape) (z : Sizes) → SizesAre sh z → z.shape ≡ sh
shape-is sh z h = λ i. record { n = h.n-is i; r = h.r-is i }

-- the sizes that the rules give
abbrev pub sizes_of : (sh : Shape) → Bounds sh → Sizes
sizes_of sh b = record { shape = sh; k = data_nodes sh; m = groups sh; l = rows sh; s = group_size sh; of_shape = kept sh b }

pub sizes_are : (sh : Shape) (z : Sizes) → SizesAre sh z → (b : Bounds sh) → z ≡ sizes_of sh b
sizes_are sh z h b = sizes_same z (sizes_of sh b) (shape-is sh z h)

pub record Small (z : Sizes) : Type 0 where
  pub s-some : 0 < z.s
  pub s-most : z.s ≤ 4
  pub r-most : z.shape.r ≤ 4
  pub n-most : z.shape.n ≤ 16
  pub k-most : z.k ≤ z.shape.n
  pub l-most : z.l ≤ 256
  pub nodes-most : z.m * z.s ≤ 16
  pub nodes-least : z.shape.n ≤ z.m * z.s
  pub phantoms_few : z.m * z.s < z.shape.n + z.s

pub small : (sh : Shape) (z : Sizes) → SizesAre sh z → Small z
small sh z h = record {
  s-some = omega (arith, z.of_shape.s-least);
  s-most = z.of_shape.s-most;
  r-most = z.of_shape.r-most;
  n-most = z.of_shape.n-most;
  k-most = omega (arith, z.of_shape.k-adds);
  l-most = z.of_shape.l-most;
  nodes-most = z.of_shape.nodes-most;
  nodes-least = z.of_shape.nodes-least;
  phantoms_few = omega (arith, ap₂ (λ (x y : ℕ). x * y) z.of_shape.m-is z.of_shape.s-is, z.of_shape.s-is, phantoms_few z.shape (bounds z.shape z.of_shape.taken));
}

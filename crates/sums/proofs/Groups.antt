-- The columns of a group, lent as a part of the stripe, hold what the rules say of its nodes. In order: where the part lies; its bytes are the symbols of
-- the group's nodes, 0 at phantoms; so the weight that the code takes from it is the weight of the node.
--   group_part sh stripe v == the part of the stripe with the columns of group v + 1, as far as it is there
use mathlib.Core.Path.{◌≡◌, refl, sym, ap, ap₂, ◌∙◌}
use mathlib.Core.Bool.{Bool, true, false, cond}
use mathlib.Core.List.{List}
use Prim.Native.Nat.{ℕ, suc, ◌+◌, ◌-◌, ◌*◌, ◌/◌, ◌%◌, ◌<◌, ◌≤◌, min, compare}
use native.Mathlib.Nat.{mod-lt, mul-le-mul_right, min-le_left, min-le_right, le-min, le_trans}
use native.Mathlib.Omega.{arith}
use lib.Arith.{digits_div, digits_mod}
use lib.Dec.{ltb}
use lib.ListN.{get_or, take, drop, length-take, get_or-eq_default}
use lib.Seq.{get_or-take, get_or-drop}
use borrow.Author.Tests.{ltb-true, ltb-false}
use Rattle.rules.specs.declared.shapes.Shape.{Shape}
use Rattle.rules.specs.Shape.{group_size, groups, rows, worth, node, group, place, phantom, digit, with_digit}
use Rattle.rules.specs.Stripe.{Symbols, column_start, symbol}
use Rattle.rules.specs.Equation.{weighed, weight}
use Rattle.rules.proofs.Accepted.{Bounds, size-some}
use Rattle.rules.proofs.Layouts.{set_below}
use Rattle.weights.specs.Promise.{weight_at}

abbrev pub group_part : Shape → List ℕ → ℕ → List ℕ
group_part sh stripe v =
    take (min (v * group_size sh * rows sh + group_size sh * rows sh) (sh.n * rows sh) - v * group_size sh * rows sh)
    (drop (v * group_size sh * rows sh) stripe)

-- with q nodes before the group, the byte at row b of its place u is inside the part if the node is there, else past its end
inside : (q s l n u b : ℕ) → u < s → b < l → q + u < n → u * l + b < min (q * l + s * l) (n * l) - q * l
inside q s l n u b hu hb real =
    omega (
      arith,
      le-min {k = suc (q * l + (u * l + b))} {a = q * l + s * l} {b = n * l}
          (omega (arith, hb, mul-le-mul_right {m = suc u} {n = s} l hu))
          (omega (arith, hb, mul-le-mul_right {m = suc (q + u)} {n = n} l real)),
    )

outside : (q s l n u b : ℕ) → n ≤ q + u → min (q * l + s * l) (n * l) - q * l ≤ u * l + b
outside q s l n u b away = omega (arith, min-le_right (q * l + s * l) (n * l), mul-le-mul_right {m = n} {n = q + u} l away)

module _ (sh : Shape) (stripe : List ℕ) where
  part-real : (v u b : ℕ) → u < group_size sh → b < rows sh → v * group_size sh + u < sh.n
      → get_or (group_part sh stripe v) (u * rows sh + b) 0 ≡ get_or stripe ((v * group_size sh + u) * rows sh + b) 0
  part-real v u b hu hb real =
      get_or-take _ (drop (v * group_size sh * rows sh) stripe) (u * rows sh + b) 0
      (inside (v * group_size sh) (group_size sh) (rows sh) sh.n u b hu hb real)
      ∙ get_or-drop (v * group_size sh * rows sh) stripe (u * rows sh + b) 0
      ∙ ap (λ k. get_or stripe k 0) (omega arith)

  part-phantom : (v u b : ℕ) → sh.n ≤ v * group_size sh + u → get_or (group_part sh stripe v) (u * rows sh + b) 0 ≡ 0
  part-phantom v u b away =
      get_or-eq_default (group_part sh stripe v) 0
      (le_trans
      (rw (length-take _ (drop (v * group_size sh * rows sh) stripe)) (min-le_left _ _))
      (outside (v * group_size sh) (group_size sh) (rows sh) sh.n u b away))

  pub part-symbol : (v u b : ℕ) → u < group_size sh → b < rows sh
      → get_or (group_part sh stripe v) (u * rows sh + b) 0 ≡ symbol sh stripe (suc (v * group_size sh + u)) b
  unfolding symbol phantom column_start
  part-symbol v u b hu hb = go (ltb sh.n (suc (v * group_size sh + u))) refl
    where
      go : (t : Bool) → ltb sh.n (suc (v * group_size sh + u)) ≡ t
          → get_or (group_part sh stripe v) (u * rows sh + b) 0
          ≡ cond (ltb sh.n (suc (v * group_size sh + u))) 0 (get_or stripe ((suc (v * group_size sh + u) - 1) * rows sh + b) 0)
      go true e = rw e (part-phantom v u b (omega (arith, ltb-true sh.n (suc (v * group_size sh + u)) e)))
      go false e =
          rw e
          (part-real v u b hu hb (omega (arith, ltb-false sh.n (suc (v * group_size sh + u)) e))
          ∙ ap (λ k. get_or stripe (k * rows sh + b) 0) (omega arith))

-- the weight of node i of place u and group g
abbrev weigh_as : Shape → Symbols → ℕ → ℕ → ℕ → ℕ → ℕ
weigh_as sh C a i u g = weighed (compare u (digit sh a g)) (C i a) (C (node sh g (digit sh a g)) (with_digit sh a g u))

module _ (sh : Shape) (C : Symbols) (a i : ℕ) where
  weigh_as_lem : weight sh C a (suc i) ≡ weigh_as sh C a (suc i) (i % group_size sh) (i / group_size sh + 1)
  unfolding weight place group
  weigh_as_lem = ap₂ (λ u v. weigh_as sh C a (suc i) (u % group_size sh) (v / group_size sh + 1)) less_one less_one
    where
      less_one : suc i - 1 ≡ i
      less_one = omega arith

node-next : (s v d : ℕ) → suc (v * s + d) ≡ (v + 1 - 1) * s + d + 1
node-next s v d = let e : v + 1 - 1 ≡ v = omega arith in rw e (omega arith)

module _ (sh : Shape) (b : Bounds sh) (stripe : List ℕ) where
  pub part-weight : (a v u : ℕ) → a < rows sh → v < groups sh → u < group_size sh
      → weight_at (group_size sh) (worth sh (v + 1)) (rows sh) (group_part sh stripe v) u a
      ≡ weight sh (symbol sh stripe) a (suc (v * group_size sh + u))
  unfolding weight_at digit with_digit node
  part-weight a v u ha hv hu =
      ap₂ (weighed (compare u d))
      (part-symbol sh stripe v u a hu ha)
      (part-symbol sh stripe v d (with_digit sh a (v + 1) u) hd (set_below sh b a (v + 1) u (omega arith) (omega (arith, hv)) hu ha)
      ∙ ap (λ k. symbol sh stripe k (with_digit sh a (v + 1) u)) (node-next (group_size sh) v d))
      ∙ sym
      (weigh_as_lem sh (symbol sh stripe) a (v * group_size sh + u)
      ∙ ap₂ (λ p g. weigh_as sh (symbol sh stripe) a (suc (v * group_size sh + u)) p (g + 1)) (digits_mod v hu) (digits_div v hu))
    where
      d : ℕ
      d = digit sh a (v + 1)

      hd : d < group_size sh
      hd = mod-lt (a / worth sh (v + 1)) (size-some sh b)

-- What `measure` finds out of a shape within the limits: all that the type of the sizes keeps. In order: the groups counted up by the kit's `div_ceil`; powers
-- that fit; the sizes.
use mathlib.Core.Path.{◌≡◌, refl, ◌∙◌, sym, ap, subst}
use Prim.Native.Nat.{ℕ, zero, suc, ◌+◌, ◌-◌, ◌/◌, ◌^◌, ◌≤◌}
use native.Mathlib.Nat.{one-le-pow, pow-le-pow_left, pow-le-pow_right}
use native.Mathlib.Omega.{arith}
use Rattle.std.specs.Int.{div_ceil}
use Rattle.rules.specs.declared.shapes.Shape.{Shape}
use Rattle.rules.specs.Shape.{group_size, data_nodes, groups, rows}
use Rattle.rules.specs.Sizes.{AreSizes}
use Rattle.rules.proofs.Accepted.{Bounds, bounds→accepted, groups-most, nodes-least, nodes-most}

-- what holds of 2, 3 and 4 holds of what is between
of_three : (P : ℕ → Type 0) (s : ℕ) → P 2 → P 3 → P 4 → 2 ≤ s → s ≤ 4 → P s
of_three P zero a b c low high = absurd (omega arith)
of_three P (suc zero) a b c low high = absurd (omega arith)
of_three P (suc (suc zero)) a b c low high = a
of_three P (suc (suc (suc zero))) a b c low high = b
of_three P (suc (suc (suc (suc zero)))) a b c low high = c
of_three P (suc (suc (suc (suc (suc s))))) a b c low high = absurd (omega arith)

ceil_is : (n s : ℕ) → 2 ≤ s → s ≤ 4 → div_ceil n s ≡ (n + s - 1) / s
ceil_is n s low high = of_three (λ (s : ℕ). div_ceil n s ≡ (n + s - 1) / s) s (omega arith) (omega arith) (omega arith) low high

pub groups_few : (n s : ℕ) → 2 ≤ s → s ≤ 4 → n ≤ 30 → div_ceil n s ≤ 15
groups_few n s low high h = of_three (λ (s : ℕ). div_ceil n s ≤ 15) s (omega arith) (omega arith) (omega arith) low high

pub power-fits : (s m : ℕ) → s ≤ 4 → m ≤ 15 → s ^ m ≤ 1073741824
power-fits s m a b =
    let p : s ^ m ≤ 4 ^ m = pow-le-pow_left a m in
    let q : 4 ^ m ≤ 4 ^ 15 = pow-le-pow_right {n = 4} (omega arith) b in
    omega arith

pub kept : (sh : Shape) → Bounds sh → AreSizes sh (data_nodes sh) (groups sh) (rows sh) (group_size sh)
unfolding rows group_size data_nodes
kept sh b = record {
  taken = bounds→accepted sh b;
  k-is = refl;
  m-is = refl;
  l-is = refl;
  s-is = refl;
  r-least = b.r-least;
  r-most = b.r-most;
  s-least = b.r-least;
  s-most = b.r-most;
  n-most = b.n-most;
  k-least = omega (arith, b.n-least);
  k-adds = omega (arith, b.n-least);
  m-most = groups-most sh b;
  l-least = one-le-pow (groups sh) sh.r (omega (arith, b.r-least));
  l-most = b.l-most;
  l-power = refl;
  nodes-least = nodes-least sh b;
  nodes-most = nodes-most sh b;
}

pub found : (sh : Shape) (m l : ℕ) → 2 ≤ sh.r → sh.r ≤ 4 → sh.r + 1 ≤ sh.n → sh.n ≤ 16 → m ≡ div_ceil sh.n sh.r → l ≡ sh.r ^ m → l ≤ 256
    → AreSizes sh (sh.n - sh.r) m l sh.r
unfolding rows groups group_size data_nodes
found sh m l low high least most m_is l_is fits =
    let ceil : m ≡ (sh.n + sh.r - 1) / sh.r = m_is ∙ ceil_is sh.n sh.r low high in
    let power : l ≡ sh.r ^ ((sh.n + sh.r - 1) / sh.r) = l_is ∙ ap (λ (e : ℕ). sh.r ^ e) ceil in
    let b : Bounds sh = record { r-least = low; r-most = high; n-least = least; n-most = most; l-most = omega (arith, power, fits) } in
    subst (λ (x : ℕ). AreSizes sh (sh.n - sh.r) m x sh.r) (sym power)
    (subst (λ (x : ℕ). AreSizes sh (sh.n - sh.r) x (sh.r ^ ((sh.n + sh.r - 1) / sh.r)) sh.r) (sym ceil) (kept sh b))

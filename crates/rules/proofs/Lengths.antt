-- Lengths and groups of an accepted shape, in the sizes that `measure` gives. In order: the length of a stripe, of a fraction, of the
-- sums of the rows read, of the columns of all nodes; how long they are at most; the group of a node ends among the nodes; what the group's digit counts is small.
use mathlib.Core.Path.{◌≡◌, ap₂}
use Prim.Native.Nat.{ℕ, suc, ◌+◌, ◌*◌, ◌/◌, ◌<◌, ◌≤◌}
use native.Mathlib.Nat.{div-le_self, div-lt_iff_lt-mul, mul-le-mul, mul-le-mul_right}
use native.Mathlib.Omega.{arith}
use Rattle.rules.specs.declared.shapes.Shape.{Shape}
use Rattle.rules.specs.declared.shapes.Sizes.{Sizes}
use Rattle.rules.specs.Shape.{group_size, data_nodes, groups, rows, worth}
use Rattle.rules.specs.Stripe.{stripe_length, data_length}
use Rattle.rules.specs.Fraction.{fraction_length}
use Rattle.rules.specs.Promise.{SizesAre, WorthIs}
use Rattle.rules.proofs.Accepted.{Bounds, bounds}
use Rattle.rules.proofs.Measures.{small}
use Rattle.rules.proofs.RowsRead.{worth-some, worth-most}

pub stripe-is : (sh : Shape) (z : Sizes) → SizesAre sh z → z.shape.n * z.l ≡ stripe_length sh
unfolding stripe_length
stripe-is sh z h = ap₂ (λ (x y : ℕ). x * y) h.n-is h.l-is

pub fraction-is : (sh : Shape) (z : Sizes) → SizesAre sh z → z.l / z.s ≡ fraction_length sh
unfolding fraction_length
fraction-is sh z h = ap₂ (λ (x y : ℕ). x / y) h.l-is h.s-is

-- r sums for each row read
pub sums_are : (sh : Shape) (z : Sizes) → SizesAre sh z → z.shape.r * (z.l / z.s) ≡ sh.r * fraction_length sh
sums_are sh z h = ap₂ (λ (x y : ℕ). x * y) h.r-is (fraction-is sh z h)

-- phantoms too
pub all-nodes : (sh : Shape) (z : Sizes) → SizesAre sh z → z.m * z.s * z.l ≡ groups sh * group_size sh * rows sh
all-nodes sh z h = ap₂ (λ (x y : ℕ). x * y) (ap₂ (λ (x y : ℕ). x * y) h.m-is h.s-is) h.l-is

pub stripe-most : (sh : Shape) → Bounds sh → stripe_length sh ≤ 4096
unfolding stripe_length
stripe-most sh b = mul-le-mul b.n-most b.l-most

-- the data columns are the first of a stripe
pub data_most : (sh : Shape) → data_length sh ≤ stripe_length sh
unfolding data_length data_nodes stripe_length
data_most sh = mul-le-mul_right (rows sh) (omega arith)

pub fraction-most : (sh : Shape) → Bounds sh → fraction_length sh ≤ 256
unfolding fraction_length
fraction-most sh b = omega (arith, div-le_self (rows sh) (group_size sh), b.l-most)

-- the group of node i + 1 of m groups of s
pub group-within : (i m s : ℕ) → 0 < s → i < m * s → i / s * s + s ≤ m * s
group-within i m s pos h = omega (arith, mul-le-mul_right {m = suc (i / s)} {n = m} s ((div-lt_iff_lt-mul {k = s} {x = i} {y = m} pos).1 h))

pub counts : (sh : Shape) (z : Sizes) → SizesAre sh z → (i : ℕ) → i < z.m * z.s → {w : ℕ} → WorthIs sh (i / z.s + 1) w
    → (0 < w) × (w ≤ 256) × (w ≡ worth sh (i / z.s + 1))
counts sh z h i k {w} is =
    let b = bounds sh h.taken in
    let less : i / z.s < z.m = (div-lt_iff_lt-mul {k = z.s} {x = i} {y = z.m} (small sh z h).s-some).1 k in
    let most : i / z.s + 1 ≤ groups sh = omega (arith, less, h.m-is) in
    let e = is.inside h.taken (omega arith) most in
    (omega (arith, e, worth-some sh b (i / z.s + 1)), omega (arith, e, worth-most sh b (i / z.s + 1) most, b.l-most), e)

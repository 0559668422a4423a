-- Lost sets. In order: a set among the n nodes, and theory's set, which has no phantom; the count of a lost number's ones; the parity columns, r of n, as a
-- set and as a number.
--   lost_among sh L == how many of the nodes 1 to n are in the set L
--   real sh L      == theory's set: node i is there exactly where i + 1 is a node, no phantom, and in L
use mathlib.Core.Path.{◌≡◌, refl, sym, ap, ap₂, ◌∙◌}
use mathlib.Core.Bool.{Bool, true, false, not, ◌&&◌, ◌||◌}
use Prim.Native.Nat.{ℕ, zero, suc, ◌+◌, ◌-◌, ◌*◌, ◌/◌, ◌%◌, ◌^◌, ◌<◌, ◌≤◌}
use native.Mathlib.Nat.{zero-add, div-eq_of_lt, div-lt_iff_lt-mul, one-le-pow}
use native.Mathlib.Omega.{arith}
use lib.Dec.{T, eqb, ltb}
use borrow.Author.Tests.{eq-eqb, lt-ltb, le-ltb}
use Rattle.theory.specs.Set.{count}
use Rattle.theory.proofs.Counts.{count_ext, count_none, count-all, count-split, count-beyond}
use Rattle.field.proofs.Tests.{all, all-at}
use Rattle.rules.specs.declared.shapes.Shape.{Shape}
use Rattle.rules.specs.Shape.{group_size, groups, data_nodes}
use Rattle.rules.specs.Lost.{is_lost, lost_count, bit_above, is_parity}
use Rattle.rules.specs.Bench.{shape}
use Rattle.rules.proofs.Checks.{not_other}
use Rattle.rules.proofs.Accepted.{Bounds, nodes-least}
use Rattle.rules.proofs.Ties.{is-lost-suc, lost_tie}

abbrev pub lost_among : Shape → (ℕ → Bool) → ℕ
lost_among sh L = count sh.n (λ i. L (suc i))

unfoldable pub real : Shape → (ℕ → Bool) → ℕ → Bool
real sh L i = ltb i sh.n && L (suc i)

pub real_in : (sh : Shape) (L : ℕ → Bool) (i : ℕ) → i < sh.n → real sh L i ≡ L (suc i)
unfolding real
real_in sh L i h = rw (lt-ltb i sh.n h)

pub real-out : (sh : Shape) (L : ℕ → Bool) (i : ℕ) → sh.n ≤ i → real sh L i ≡ false
unfolding real
real-out sh L i h = rw (le-ltb i sh.n h)

pub real-count : (sh : Shape) → Bounds sh → (L : ℕ → Bool) → count (groups sh * group_size sh) (real sh L) ≡ lost_among sh L
real-count sh b L = count-beyond sh.n (groups sh * group_size sh) (real sh L) (real-out sh L) (nodes-least sh b) ∙ count_ext sh.n _ _ (real_in sh L)

-- two sets with the same nodes among n
pub among_same : (sh : Shape) (L M : ℕ → Bool) → ((i : ℕ) → 1 ≤ i → i ≤ sh.n → L i ≡ M i) → lost_among sh L ≡ lost_among sh M
among_same sh L M h = count_ext sh.n _ _ (λ i l. h (suc i) (omega arith) l)

-- a number without bits from n on is below 2 to the power n
pub bits_below : (n lost : ℕ) → lost / 2 ^ n ≡ 0 → lost < 2 ^ n
bits_below n lost e =
    omega (arith, (div-lt_iff_lt-mul {k = 2 ^ n} {x = lost} {y = 1} (one-le-pow n 2 (omega arith))).0 (omega arith))

-- then no node above n is lost
pub lost-beyond : (n lost : ℕ) → lost < 2 ^ n → is_lost lost (suc n) ≡ false
lost-beyond n lost h = is-lost-suc lost n ∙ ap (λ d. eqb (d % 2) 1) (div-eq_of_lt h)

-- no bit above n
pub no_bit_above : (sh : Shape) (lost : ℕ) → lost / 2 ^ sh.n ≡ 0 → bit_above sh lost ≡ false
unfolding bit_above
no_bit_above sh lost h = ap not (eq-eqb (lost / 2 ^ sh.n) 0 h)

pub lost-below : (sh : Shape) (lost : ℕ) → bit_above sh lost ≡ false → lost < 2 ^ sh.n
unfolding bit_above
lost-below sh lost h = bits_below sh.n lost (not_other (lost / 2 ^ sh.n) 0 h)

pub below-lost : (sh : Shape) (lost : ℕ) → lost < 2 ^ sh.n → bit_above sh lost ≡ false
below-lost sh lost h = no_bit_above sh lost (div-eq_of_lt h)

-- "how many are lost is the count of its ones"
pub lost_among_lem : (sh : Shape) (lost : ℕ) → bit_above sh lost ≡ false → lost_among sh (is_lost lost) ≡ lost_count lost
lost_among_lem sh lost h = lost_tie sh.n lost (lost-below sh lost h)

-- "parity columns k + 1 to n": r of them
pub parity_among : (sh : Shape) → Bounds sh → lost_among sh (is_parity sh) ≡ sh.r
unfolding is_parity data_nodes
parity_among sh b =
    ap (λ n. count n (λ i. ltb (sh.n - sh.r) (suc i))) (sym split)
    ∙ count-split (sh.n - sh.r) sh.r _
    ∙ ap₂ ◌+◌ (count_none (sh.n - sh.r) _ (λ i l. le-ltb (sh.n - sh.r) (suc i) l))
    (count-all sh.r _ (λ i l. lt-ltb (sh.n - sh.r) (suc (sh.n - sh.r + i)) (omega arith)))
    ∙ zero-add sh.r
  where
    split : sh.n - sh.r + sh.r ≡ sh.n
    split = omega (arith, b.n-least)

-- every accepted shape at once: the number whose ones are the parity columns
abbrev same : Bool → Bool → Bool
same true c = c
same false c = not c

same-equal : (c d : Bool) → T (same c d) → c ≡ d
same-equal true true t = refl
same-equal true false t = absurd t
same-equal false true t = absurd t
same-equal false false t = refl

abbrev agrees : ℕ → ℕ → ℕ → Bool
agrees n r i = not (ltb i n) || same (is_lost (2 ^ n - 2 ^ data_nodes (shape n r)) (suc i)) (is_parity (shape n r) (suc i))

tested : T (all (λ n. all (λ r. all (agrees n r) 16) 5) 17)
unfolding is_lost is_parity data_nodes
tested = tt

agrees-all : (sh : Shape) → Bounds sh → (i : ℕ) → i < sh.n → T (agrees sh.n sh.r i)
agrees-all sh b i l =
    all-at (agrees sh.n sh.r) 16
    (all-at (λ r. all (agrees sh.n r) 16) 5
    (all-at (λ n. all (λ r. all (agrees n r) 16) 5) 17 tested sh.n (omega (arith, b.n-most)))
    sh.r
    (omega (arith, b.r-most)))
    i
    (omega (arith, l, b.n-most))

pub parity-number : (sh : Shape) → Bounds sh → (i : ℕ) → 1 ≤ i → i ≤ sh.n → is_lost (2 ^ sh.n - 2 ^ data_nodes sh) i ≡ is_parity sh i
parity-number sh b zero h k = absurd (omega arith)
parity-number sh b (suc i) h k = same-equal _ _ (rw (lt-ltb i sh.n k) at (agrees-all sh b i k))

pub parity-number-below : (sh : Shape) → 2 ^ sh.n - 2 ^ data_nodes sh < 2 ^ sh.n
parity-number-below sh = omega (arith, one-le-pow sh.n 2 (omega arith), one-le-pow (data_nodes sh) 2 (omega arith))

pub parity-number-taken : (sh : Shape) → Bounds sh
    → (bit_above sh (2 ^ sh.n - 2 ^ data_nodes sh) ≡ false) × (lost_count (2 ^ sh.n - 2 ^ data_nodes sh) ≡ sh.r)
parity-number-taken sh b = (
  below-lost sh _ (parity-number-below sh),
  sym (lost_among_lem sh _ (below-lost sh _ (parity-number-below sh))) ∙ among_same sh _ _ (parity-number sh b) ∙ parity_among sh b,
)

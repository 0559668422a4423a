-- Document 01's definitions are theory's, with nodes, groups and digits counted from 1 where theory counts from 0.
-- In order: groups, places, nodes, digits, and their first laws in document 01's words; phantoms hold 0; sums and weights; the equations, a row that
-- meets them, a whole stripe; rows read, lists of them, and what a rebuilt column meets; the count of the lost set. A statement `x ↔ y` has
-- document 01's words on the left and theory's on the right.
-- Not here: the code that a shape is (`House`).
use mathlib.Core.Path.{◌≡◌, refl, sym, ap, ap₂, ◌∙◌, fun_ext}
use mathlib.Core.Bool.{Bool, true}
use mathlib.Core.List.{List}
use mathlib.Core.Logic.{◌↔◌}
use Prim.Native.Nat.{ℕ, zero, suc, ◌+◌, ◌-◌, ◌*◌, ◌/◌, ◌%◌, ◌^◌, ◌<◌, ◌≤◌, Ordering}
use native.Mathlib.Nat.{div-one, div-add-mod', div-div-eq-div-mul, div-lt_iff_lt-mul, pow-suc, pow-succ'}
use native.Mathlib.Omega.{arith}
use lib.Dec.{eqb}
use lib.ListN.{get_or}
use lib.Count.{ones_step, ones-le}
use lib.Arith.{le-zero}
use borrow.Author.Tests.{lt-ltb, eqb-true, eq-eqb, ne_eqb}
use Rattle.theory.specs.Digit as digits
use Rattle.theory.specs.Power as powers
use Rattle.theory.specs.Read as reads
use Rattle.theory.specs.Set as sets
use Rattle.theory.specs.Sum as sums
use Rattle.theory.specs.Weight as weights
use Rattle.theory.specs.Whole as wholes
use Rattle.theory.proofs.Counts.{changed_case, count-zero, count-suc, count-split, count_ext}
use Rattle.theory.proofs.Digits.{digit_lt, digit-set-same, digit_closed, set_closed, group-node, place-node}
use Rattle.theory.proofs.Sums.{sum_ext}
use Rattle.field.specs.Number.{add, mul}
use Rattle.field.proofs.Xor.{add-below}
use Rattle.field.proofs.Product.{mul-below}
use Rattle.field.proofs.Numbers.{numbers, number, number-zero, number-add, number-mul, number-power, number_injective}
use Rattle.rules.specs.declared.shapes.Shape.{Shape}
use Rattle.rules.specs.Shape.{group_size, groups, rows, worth, node, group, place, phantom, digit, with_digit}
use Rattle.rules.specs.Point.{point_of, γ}
use Rattle.rules.specs.Stripe.{Symbols, symbol}
use Rattle.rules.specs.Equation.{weighed, weight, sum_below, sum_to, equation, MeetsRow, Whole}
use Rattle.rules.specs.Fraction.{is_read, rows_read, arrived, MeetsRead}
use Rattle.rules.specs.Lost.{is_lost, lost_count}
use Rattle.rules.specs.Rising.{Listed}
use Rattle.rules.proofs.Accepted.{Bounds, size-some}
use Rattle.rules.proofs.Risings.{rising→listed, listed→rising}
use Rattle.rules.proofs.House.{code, stripe}

less_one : (i : ℕ) → suc i - 1 ≡ i
less_one i = omega arith

module _ (sh : Shape) where
  pub worth-suc : (v : ℕ) → worth sh (suc v) ≡ group_size sh ^ v
  unfolding worth
  worth-suc v = rw less_one

  pub group_tie : (i : ℕ) → group sh (suc i) ≡ suc (digits.group (group_size sh) i)
  unfolding group digits.group
  group_tie i = rw less_one (omega arith)

  pub place_tie : (i : ℕ) → place sh (suc i) ≡ digits.place (group_size sh) i
  unfolding place digits.place
  place_tie i = rw less_one

  pub node_tie : (v u : ℕ) → node sh (suc v) u ≡ suc (digits.node (group_size sh) v u)
  unfolding node digits.node
  node_tie v u = rw less_one (omega arith)

  -- group and place of a node
  pub node-group : (v u : ℕ) → 1 ≤ v → u < group_size sh → group sh (node sh v u) ≡ v
  node-group zero u h l = absurd (omega arith)
  node-group (suc v) u h l = rw (node_tie, group_tie) (ap suc (group-node (group_size sh) v u l))

  pub node-place : (v u : ℕ) → 1 ≤ v → u < group_size sh → place sh (node sh v u) ≡ u
  node-place zero u h l = absurd (omega arith)
  node-place (suc v) u h l = rw (node_tie, place_tie) (place-node (group_size sh) v u l)

-- a digit of a taken off, w being what a 1 there counts
pub digit-off : (a w s : ℕ) → a - a / w % s * w ≡ a / (w * s) * (w * s) + a % w
digit-off a w s =
    rw (← div-div-eq-div-mul)
    (omega (arith, div-add-mod' a w, ap (λ (q : ℕ). q * w) (div-add-mod' (a / w) s)))

module _ (sh : Shape) (b : Bounds sh) where
  pub digit_tie : (a v : ℕ) → digit sh a (suc v) ≡ digits.digit (group_size sh) a v
  unfolding digit
  digit_tie a v = rw worth-suc (sym (digit_closed (group_size sh) (size-some sh b) a v))

  pub with_digit_tie : (a v u : ℕ) → with_digit sh a (suc v) u ≡ digits.with_digit (group_size sh) a v u
  unfolding with_digit digit
  with_digit_tie a v u =
      rw (worth-suc, set_closed (group_size sh) (size-some sh b) a v u, digit-off) (omega arith)

  pub digit-below : (a v : ℕ) → 1 ≤ v → digit sh a v < group_size sh
  digit-below a zero h = absurd (omega arith)
  digit-below a (suc v) h = rw digit_tie (digit_lt (group_size sh) (size-some sh b) a v)

  pub digit_set : (a v u : ℕ) → 1 ≤ v → u < group_size sh → digit sh (with_digit sh a v u) v ≡ u
  digit_set a zero u h l = absurd (omega arith)
  digit_set a (suc v) u h l = rw (digit_tie, with_digit_tie) (digit-set-same (group_size sh) (size-some sh b) a v u l)

pub symbol-phantom : (sh : Shape) (bytes : List ℕ) (i a : ℕ) → sh.n < i → symbol sh bytes i a ≡ 0
unfolding symbol phantom
symbol-phantom sh bytes i a h = rw (lt-ltb sh.n i h)

pub sum_tie : (n : ℕ) (f : ℕ → ℕ) → number (sum_below n f) ≡ sums.sum numbers n (λ i. number (f i))
unfolding sum_below sums.sum
sum_tie zero f = number-zero
sum_tie (suc n) f = number-add (sum_below n f) (f n) ∙ ap (λ x. numbers.add x (number (f n))) (sum_tie n f)

-- sums of equal terms
pub sum_same : (n : ℕ) (f g : ℕ → ℕ) → ((i : ℕ) → i < n → f i ≡ g i) → sum_below n f ≡ sum_below n g
unfolding sum_below
sum_same zero f g h = refl
sum_same (suc n) f g h = ap₂ add (sum_same n f g (λ i l. h i (omega arith))) (h n (omega arith))

pub sum_below_lem : (n : ℕ) (f : ℕ → ℕ) → ((i : ℕ) → i < n → f i < 256) → sum_below n f < 256
unfolding sum_below
sum_below_lem zero f h = omega arith
sum_below_lem (suc n) f h = add-below 8 (sum_below n f) (f n) (sum_below_lem n f (λ i l. h i (omega arith))) (h n (omega arith))

weighed_tie : (sh : Shape) (o : Ordering) (x y : ℕ) → number (weighed o x y) ≡ weights.weighed (code sh) o (number x) (number y)
unfolding weighed weights.weighed
weighed_tie sh Ordering.lt x y = number-add (mul γ x) y ∙ ap (λ z. numbers.add z (number y)) (number-mul γ x)
weighed_tie sh Ordering.eq x y = refl
weighed_tie sh Ordering.gt x y = number-add x y

module _ (sh : Shape) (b : Bounds sh) where
  pub weight_tie : (C : Symbols) (a i : ℕ) → number (weight sh C a (suc i)) ≡ weights.weight (code sh) (stripe sh C) a i
  unfolding weight weights.weight weights.side weights.mate_node weights.mate_row
  weight_tie C a i = simp (group_tie, place_tie, node_tie, digit_tie sh b, with_digit_tie sh b) (weighed_tie sh _ _ _)

  pub equation_tie : (C : Symbols) (a t : ℕ) → number (equation sh C a t) ≡ wholes.equation (code sh) (stripe sh C) a t
  unfolding equation sum_to wholes.equation powers.moment
  equation_tie C a t =
      sum_tie (groups sh * group_size sh) _
      ∙ sum_ext numbers (groups sh * group_size sh) _ _ (λ i l. number-mul _ _ ∙ ap₂ numbers.mul (number-power (point_of sh (suc i)) t) (weight_tie C a i))

pub equation-below : (sh : Shape) (C : Symbols) (a t : ℕ) → equation sh C a t < 256
unfolding equation sum_to
equation-below sh C a t = sum_below_lem (groups sh * group_size sh) _ (λ i l. mul-below _ _)

module _ (sh : Shape) (b : Bounds sh) where
  equation-zero : (C : Symbols) (a t : ℕ) → (equation sh C a t ≡ 0) ↔ (wholes.equation (code sh) (stripe sh C) a t ≡ numbers.zero)
  equation-zero C a t = (
    λ e. sym (equation_tie sh b C a t) ∙ ap number e ∙ number-zero,
    λ e. number_injective (equation sh C a t) 0 (equation-below sh C a t) (omega arith) (equation_tie sh b C a t ∙ e ∙ sym number-zero),
  )

  pub meets-row_tie : (C : Symbols) (a : ℕ) → MeetsRow sh C a ↔ wholes.MeetsRow (code sh) sh.r (stripe sh C) a
  meets-row_tie C a = (λ h t l. (equation-zero C a t).0 (h t l), λ h t l. (equation-zero C a t).1 (h t l))

  pub whole_tie : (bytes : List ℕ) → Whole sh bytes ↔ wholes.Whole (code sh) sh.r (stripe sh (symbol sh bytes))
  unfolding rows
  whole_tie bytes = (
    λ h a l. (meets-row_tie (symbol sh bytes) a).0 (h a l),
    λ h a l. (meets-row_tie (symbol sh bytes) a).1 (h a l),
  )

  pub is-read_tie : (f a : ℕ) → (is_read sh (suc f) a ≡ true) ↔ reads.IsRead (group_size sh) f a
  unfolding is_read
  is-read_tie f a = rw (group_tie, place_tie, digit_tie sh b) (eqb-true _ _, eq-eqb _ _)

pub listed-read : (sh : Shape) (f a : ℕ) → Listed a (rows_read sh f) ↔ ((a < rows sh) × (is_read sh f a ≡ true))
unfolding rows_read
listed-read sh f a = (listed→rising (rows sh) (is_read sh f) a, λ h. rising→listed (rows sh) (is_read sh f) a h.0 h.1)

pub arrived-own : (sh : Shape) (f : ℕ) (fractions col : List ℕ) (a : ℕ) → arrived sh f fractions col f a ≡ get_or col a 0
unfolding arrived
arrived-own sh f fractions col a = rw (eq-eqb f f refl)

-- the symbols of the other nodes don't depend on the column
pub arrived-other : (sh : Shape) (f : ℕ) (fractions x y : List ℕ) (i a : ℕ) → (i ≡ f → ⊥) → arrived sh f fractions x i a ≡ arrived sh f fractions y i a
unfolding arrived
arrived-other sh f fractions x y i a ne = rw (ne_eqb i f ne)

-- the column that is asked of stands among the symbols known already
arrived-changed : (sh : Shape) (f : ℕ) (fractions col : List ℕ)
    → sets.changed f (λ a. number (get_or col a 0)) (stripe sh (arrived sh (suc f) fractions col)) ≡ stripe sh (arrived sh (suc f) fractions col)
arrived-changed sh f fractions col =
    fun_ext (λ i.
    changed_case (λ x. x ≡ stripe sh (arrived sh (suc f) fractions col) i) f _ _ i
    (λ e. rw e (fun_ext (λ a. ap number (sym (arrived-own sh (suc f) fractions col a)))))
    (λ ne. refl))

pub meets-read_tie : (sh : Shape) → Bounds sh → (f : ℕ) (fractions col : List ℕ)
    → MeetsRead sh (suc f) fractions col
    ↔ reads.MeetsRead (code sh) sh.r f (stripe sh (arrived sh (suc f) fractions col)) (λ a. number (get_or col a 0))
unfolding rows
meets-read_tie sh b f fractions col = rw arrived-changed (
  λ h a l e. (meets-row_tie sh b (arrived sh (suc f) fractions col) a).0 (h a ((listed-read sh (suc f) a).1 (l, (is-read_tie sh b f a).1 e))),
  λ h a l.
      let (al, e) = (listed-read sh (suc f) a).0 l in
      (meets-row_tie sh b (arrived sh (suc f) fractions col) a).1 (h a al ((is-read_tie sh b f a).0 e)),
)

-- a digit to base 2
bit_one : (d : ℕ) → d < 2 → sets.one_if (eqb d 1) ≡ d
bit_one zero h = refl
bit_one (suc zero) h = refl
bit_one (suc (suc d)) h = absurd (omega arith)

pub is-lost-suc : (lost i : ℕ) → is_lost lost (suc i) ≡ eqb (lost / 2 ^ i % 2) 1
unfolding is_lost
is-lost-suc lost i = rw less_one

-- node 1 apart
count-first : (n : ℕ) (L : ℕ → Bool) → sets.count (suc n) L ≡ sets.one_if (L 0) + sets.count n (λ i. L (suc i))
count-first n L =
    ap (λ k. sets.count k L) (one-add n)
    ∙ count-split 1 n L
    ∙ ap₂ ◌+◌ (omega (arith, count-suc 0 L, count-zero L)) (count_ext n _ _ (λ i l. ap L (sym (one-add i))))
  where
    one-add : (i : ℕ) → suc i ≡ 1 + i
    one-add i = omega arith

-- the lowest bit, and the others
pub lost-first : (lost : ℕ) → is_lost lost 1 ≡ eqb (lost % 2) 1
lost-first lost = is-lost-suc lost 0 ∙ rw div-one

pub lost-half : (lost i : ℕ) → is_lost lost (suc (suc i)) ≡ is_lost (lost / 2) (suc i)
lost-half lost i = is-lost-suc lost (suc i) ∙ simp (is-lost-suc, pow-succ', div-div-eq-div-mul)

pub lost_tie : (n lost : ℕ) → lost < 2 ^ n → sets.count n (λ i. is_lost lost (suc i)) ≡ lost_count lost
unfolding lost_count
lost_tie zero lost h = count-zero _ ∙ sym (le-zero (ones-le 0 lost h))
lost_tie (suc n) lost h =
    count-first n _
    ∙ ap₂ ◌+◌ (ap sets.one_if (lost-first lost) ∙ bit_one (lost % 2) (omega arith))
    (count_ext n _ _ (λ i l. lost-half lost i) ∙ lost_tie n (lost / 2) ((div-lt_iff_lt-mul (omega arith)).1 (rw pow-suc at h)))
    ∙ sym (ones_step lost)

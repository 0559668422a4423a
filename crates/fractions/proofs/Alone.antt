-- What a stripe that holds one fraction and nothing else brings to the equations of the rows read for node f; i is the helper. In order: sums with few terms
-- that count; the symbols of such a stripe; a helper in f's group, which weighs alone; a helper in another group, whose group weighs alone; what the
-- sums have gained is what the fraction brings, in the numbers of the code.
use mathlib.Core.Path.{◌≡◌, refl, sym, ap, ap₂, ◌∙◌, subst}
use mathlib.Core.Bool.{cond}
use mathlib.Core.List.{List}
use mathlib.Core.Logic.{◌⊎◌, inl, inr}
use Prim.Native.Nat.{ℕ, zero, suc, ◌+◌, ◌-◌, ◌*◌, ◌/◌, ◌%◌, ◌<◌, ◌≤◌, compare, Ordering}
use native.Mathlib.Decide.{ℕ_discrete}
use native.Mathlib.Nat.{div-lt_iff_lt-mul, le-div_iff_mul-le, mul-le-mul_right, suc-mul, mod-lt, add-zero as plus-zero, add-suc, add-sub_of_le}
use native.Mathlib.Omega.{arith}
use lib.Dec.{eqb}
use lib.ListN.{length, get_or}
use borrow.Author.Tests.{eq-eqb, ne_eqb, lt-ltb, le-ltb}
use Rattle.theory.proofs.Mates.{compare_only}
use Rattle.field.specs.Number.{add, mul, power}
use Rattle.field.proofs.Powers.{power_below}
use Rattle.field.proofs.Product.{mul-zero, mul_assoc, mul-one}
use Rattle.field.proofs.Xor.{zero-add, add-zero, add_assoc}
use Rattle.rules.specs.declared.shapes.Shape.{Shape}
use Rattle.rules.specs.declared.shapes.Sizes.{Sizes}
use Rattle.rules.specs.Shape.{group_size, groups, node, group, place, worth, digit}
use Rattle.rules.specs.Point.{point_of, γ}
use Rattle.rules.specs.Equation.{weighed, weight, sum_below, sum_to, equation}
use Rattle.rules.specs.Fraction.{fraction_length, alone}
use Rattle.rules.specs.Promise.{SizesAre}
use Rattle.rules.proofs.Accepted.{Bounds, size-some, nodes-least}
use Rattle.rules.proofs.Measures.{sizes_of, sizes_are}
use Rattle.rules.proofs.RowsRead.{place_lt, group_from_1, group-most}
use Rattle.rules.proofs.Ties.{node-group, node-place, digit-below, sum_same}
use Rattle.rules.proofs.Layouts.{node_of}
use Rattle.weights.specs.Promise.{Shared}
use Rattle.fractions.specs.Kernel.{Gained, gain, lone, weight_of, factor_of, left_out}
use Rattle.fractions.specs.Promise.{Added}
use Rattle.fractions.proofs.Positions.{lt_or_gt, with_part, row_of, worth_left, other-digit, other-set, row-own-digit, row_read, row_before, read_at}

sum-none : (n : ℕ) (f : ℕ → ℕ) → ((j : ℕ) → j < n → f j ≡ 0) → sum_below n f ≡ 0
unfolding sum_below
sum-none zero f h = refl
sum-none (suc n) f h = ap₂ add (sum-none n f (λ j l. h j (omega arith))) (h n (omega arith)) ∙ zero-add 0

sum-split : (n k : ℕ) (f : ℕ → ℕ) → sum_below (n + k) f ≡ add (sum_below n f) (sum_below k (λ j. f (n + j)))
unfolding sum_below
sum-split n zero f = rw (plus-zero n) (sym (add-zero (sum_below n f)))
sum-split n (suc k) f = rw (add-suc n k) (ap (λ x. add x (f (n + k))) (sum-split n k f) ∙ add_assoc _ _ _)

-- the terms outside k places from n on are 0
sum_window : (n k all : ℕ) (f : ℕ → ℕ) → n + k ≤ all → ((j : ℕ) → j < n → f j ≡ 0) → ((j : ℕ) → n + k ≤ j → f j ≡ 0)
    → sum_below all f ≡ sum_below k (λ j. f (n + j))
sum_window n k all f most before after =
    ap (λ e. sum_below e f) (sym (add-sub_of_le most))
    ∙ sum-split (n + k) (all - (n + k)) f
    ∙ ap₂ add
    (sum-split n k f ∙ ap (λ x. add x (sum_below k (λ j. f (n + j)))) (sum-none n f before) ∙ zero-add _)
    (sum-none (all - (n + k)) (λ j. f (n + k + j)) (λ j l. after (n + k + j) (omega arith)))
    ∙ add-zero _

sum_one : (f : ℕ → ℕ) → sum_below 1 f ≡ f 0
unfolding sum_below
sum_one f = zero-add (f 0)

weighed-none : (o : Ordering) → weighed o 0 0 ≡ 0
unfolding weighed
weighed-none Ordering.lt = add-zero (mul γ 0) ∙ mul-zero γ
weighed-none Ordering.eq = refl
weighed-none Ordering.gt = zero-add 0

-- nodes by the number of nodes before them
pub node-next : (sh : Shape) (v x : ℕ) → suc ((v - 1) * group_size sh + x) ≡ node sh v x
unfolding node
node-next sh v x = omega arith

pub group-less : (sh : Shape) (i : ℕ) → group sh i - 1 ≡ (i - 1) / group_size sh
unfolding group
group-less sh i = omega arith

group-same : (sh : Shape) (i f : ℕ) → (i - 1) / group_size sh ≡ (f - 1) / group_size sh → group sh i ≡ group sh f
unfolding group
group-same sh i f e = ap (λ v. v + 1) e

group-after : (sh : Shape) (k : ℕ) → group sh (suc k) ≡ k / group_size sh + 1
unfolding group
group-after sh k = ap (λ j. j / group_size sh + 1) (omega arith)

group-below : (sh : Shape) → Bounds sh → (v k : ℕ) → k < (v - 1) * group_size sh → group sh (suc k) < v
group-below sh b v k l = omega (arith, group-after sh k, (div-lt_iff_lt-mul {k = group_size sh} {x = k} {y = v - 1} (size-some sh b)).1 l)

group-above : (sh : Shape) → Bounds sh → (v k : ℕ) → 1 ≤ v → (v - 1) * group_size sh + group_size sh ≤ k → v < group sh (suc k)
group-above sh b v k h l =
    omega (
      arith,
      group-after sh k,
      (le-div_iff_mul-le {k = group_size sh} {x = suc (v - 1)} {y = k} (size-some sh b)).1 (omega (arith, suc-mul (v - 1) (group_size sh), l)),
    )

pub alone-other : (sh : Shape) (f i : ℕ) (given : List ℕ) (j a : ℕ) → (j ≡ i → ⊥) → alone sh f i given j a ≡ 0
unfolding alone
alone-other sh f i given j a ne = rw (ne_eqb j i ne)

module _ (sh : Shape) (b : Bounds sh) (f i : ℕ) (given : List ℕ) (first : 1 ≤ i) where
  alone-own : (j : ℕ) → alone sh f i given i (row_of sh f j) ≡ get_or given j 0
  unfolding alone
  alone-own j = rw (eq-eqb i i refl, row_read sh b f j, row_before sh b f j)

  -- a node weighs nothing where neither it nor its mate is the helper
  weight-none : (a k : ℕ) → (k ≡ i → ⊥) → (node sh (group sh k) (digit sh a (group sh k)) ≡ i → ⊥) → weight sh (alone sh f i given) a k ≡ 0
  unfolding weight
  weight-none a k own mate =
      ap₂ (weighed (compare (place sh k) (digit sh a (group sh k)))) (alone-other sh f i given k a own) (alone-other sh f i given _ _ mate)
      ∙ weighed-none (compare (place sh k) (digit sh a (group sh k)))

  mate_group : (a k : ℕ) → node sh (group sh k) (digit sh a (group sh k)) ≡ i → group sh k ≡ group sh i
  mate_group a k e =
      sym (node-group sh (group sh k) (digit sh a (group sh k)) (group_from_1 sh k) (digit-below sh b a (group sh k) (group_from_1 sh k)))
      ∙ ap (group sh) e

  weight_elsewhere : (a k : ℕ) → (group sh k ≡ group sh i → ⊥) → weight sh (alone sh f i given) a k ≡ 0
  weight_elsewhere a k ne = weight-none a k (λ e. ne (ap (group sh) e)) (λ e. ne (mate_group a k e))

  abbrev term : ℕ → ℕ → ℕ → ℕ
  term a t k = mul (power (point_of sh k) t) (weight sh (alone sh f i given) a k)

  term-none : (a t k : ℕ) → weight sh (alone sh f i given) a k ≡ 0 → term a t k ≡ 0
  term-none a t k e = ap (mul (power (point_of sh k) t)) e ∙ mul-zero (power (point_of sh k) t)

  module _ (last : i ≤ sh.n) (f-first : 1 ≤ f) (apart : i ≡ f → ⊥) where
    -- the helper is in f's group
    module _ (same : group sh i ≡ group sh f) where
      -- at a row read the mate of a node of the group is f
      mate_failed : (j k : ℕ) → node sh (group sh k) (digit sh (row_of sh f j) (group sh k)) ≡ i → ⊥
      mate_failed j k e =
          let in_group : group sh k ≡ group sh f = mate_group (row_of sh f j) k e ∙ same in
          apart
          (sym e
          ∙ ap (λ v. node sh v (digit sh (row_of sh f j) v)) in_group
          ∙ ap (node sh (group sh f)) (row-own-digit sh b f j)
          ∙ node_of sh f f-first)

      places-apart : place sh i ≡ place sh f → ⊥
      places-apart e = apart (sym (node_of sh i first) ∙ ap₂ (node sh) same e ∙ node_of sh f f-first)

      own-weight : (j : ℕ) → weight sh (alone sh f i given) (row_of sh f j) i ≡ weighed (compare (place sh i) (place sh f)) (get_or given j 0) 0
      unfolding weight
      own-weight j =
          ap₂ (weighed (compare (place sh i) (digit sh (row_of sh f j) (group sh i)))) (alone-own j)
          (alone-other sh f i given _ _ (mate_failed j i))
          ∙ ap (λ d. weighed (compare (place sh i) d) (get_or given j 0) 0) (ap (digit sh (row_of sh f j)) same ∙ row-own-digit sh b f j)

      factored : (q x : ℕ) → q < 256 → (place sh i < place sh f) ⊎ (place sh f < place sh i)
          → mul q (weighed (compare (place sh i) (place sh f)) x 0) ≡ mul q (mul (factor_of (place sh i) (place sh f)) x)
      unfolding weighed factor_of
      factored q x hq (inl l) =
          rw (compare_only (place sh i) (place sh f) Ordering.lt l, le-ltb (place sh f) (place sh i) (omega (arith, l))) (ap (mul q) (add-zero (mul γ x)))
      factored q x hq (inr l) =
          rw (compare_only (place sh i) (place sh f) Ordering.gt l, lt-ltb (place sh f) (place sh i) l)
          (ap (mul q) (add-zero x) ∙ ap (λ p. mul p x) (sym (mul-one q hq)) ∙ mul_assoc q 1 x)

      pub mate_brings : (j t : ℕ)
          → equation sh (alone sh f i given) (row_of sh f j) t
          ≡ mul (power (point_of sh i) t) (mul (factor_of (place sh i) (place sh f)) (get_or given j 0))
      unfolding equation sum_to
      mate_brings j t =
          sum_window (i - 1) 1 (groups sh * group_size sh) (λ k. term (row_of sh f j) t (suc k)) (omega (arith, first, last, nodes-least sh b))
          (λ k l. none (suc k) (λ e. omega (arith, e, l)))
          (λ k l. none (suc k) (λ e. omega (arith, e, l, first)))
          ∙ sum_one _
          ∙ ap (term (row_of sh f j) t) at_i
          ∙ ap (mul (power (point_of sh i) t)) (own-weight j)
          ∙ factored (power (point_of sh i) t) (get_or given j 0) (power_below (point_of sh i) t) (lt_or_gt (place sh i) (place sh f) places-apart)
        where
          none : (k : ℕ) → (k ≡ i → ⊥) → term (row_of sh f j) t k ≡ 0
          none k ne = term-none (row_of sh f j) t k (weight-none (row_of sh f j) k ne (mate_failed j k))

          at_i : suc (i - 1 + 0) ≡ i
          at_i = omega (arith, first)

    -- it is in another group
    module _ (other : group sh i ≡ group sh f → ⊥) where
      symbol-lone : (y j : ℕ) → y < group_size sh → alone sh f i given (node sh (group sh i) y) (row_of sh f j) ≡ lone (place sh i) given y j
      unfolding lone
      symbol-lone y j hy = go (ℕ_discrete y (place sh i))
        where
          go : Dec (y ≡ place sh i)
              → alone sh f i given (node sh (group sh i) y) (row_of sh f j) ≡ cond (eqb y (place sh i)) (get_or given j 0) 0
          go (yes e) =
              rw (eq-eqb y (place sh i) e)
              (ap (λ k. alone sh f i given k (row_of sh f j)) (ap (node sh (group sh i)) e ∙ node_of sh i first) ∙ alone-own j)
          go (no ne) =
              rw (ne_eqb y (place sh i) ne)
              (alone-other sh f i given _ _ (λ e. ne (sym (node-place sh (group sh i) y (group_from_1 sh i) hy) ∙ ap (place sh) e)))

      weight-lone : (x j : ℕ) → x < group_size sh
          → weight sh (alone sh f i given) (row_of sh f j) (node sh (group sh i) x)
          ≡ weight_of (group_size sh) (worth_left sh (group sh f) (group sh i)) (lone (place sh i) given) x j
      unfolding weight weight_of
      weight-lone x j hx =
          rw (node-group sh (group sh i) x (group_from_1 sh i) hx, node-place sh (group sh i) x (group_from_1 sh i) hx, is_digit)
          (ap₂ (weighed (compare x d)) (symbol-lone x j hx)
          (ap (alone sh f i given (node sh (group sh i) d)) (other-set sh b (group sh f) (place sh f) (group_from_1 sh f) (place_lt sh b f) (group sh i) j x (group_from_1 sh i) other hx)
          ∙ symbol-lone d (with_part (group_size sh) (worth_left sh (group sh f) (group sh i)) j x) (mod-lt _ (size-some sh b))))
        where
          d : ℕ
          d = j / worth_left sh (group sh f) (group sh i) % group_size sh

          is_digit : digit sh (row_of sh f j) (group sh i) ≡ d
          is_digit = other-digit sh b (group sh f) (place sh f) (group_from_1 sh f) (place_lt sh b f) (group sh i) j (group_from_1 sh i) other

      pub lone-brings : (j t : ℕ)
          → equation sh (alone sh f i given) (row_of sh f j) t
          ≡ gain sh ((group sh i - 1) * group_size sh) (group_size sh) (weight_of (group_size sh) (worth_left sh (group sh f) (group sh i)) (lone (place sh i) given)) t j
      unfolding equation sum_to gain
      lone-brings j t =
          sum_window ((group sh i - 1) * group_size sh) (group_size sh) (groups sh * group_size sh) (λ k. term (row_of sh f j) t (suc k)) most
          (λ k l. term-none (row_of sh f j) t (suc k) (weight_elsewhere (row_of sh f j) (suc k) (λ e. omega (arith, group-below sh b (group sh i) k l, e))))
          (λ k l. term-none (row_of sh f j) t (suc k) (weight_elsewhere (row_of sh f j) (suc k) (λ e. omega (arith, group-above sh b (group sh i) k (group_from_1 sh i) l, e))))
          ∙ sum_same (group_size sh) _ _
          (λ x l.
          ap (mul (power (point_of sh (suc ((group sh i - 1) * group_size sh + x))) t))
          (ap (weight sh (alone sh f i given) (row_of sh f j)) (node-next sh (group sh i) x) ∙ weight-lone x j l))
        where
          group-times : (group sh i - 1) * group_size sh + group_size sh ≡ group sh i * group_size sh
          group-times = sym (suc-mul (group sh i - 1) (group_size sh)) ∙ ap (λ v. v * group_size sh) (omega (arith, group_from_1 sh i))

          most : (group sh i - 1) * group_size sh + group_size sh ≤ groups sh * group_size sh
          most = omega (arith, mul-le-mul_right (group_size sh) (group-most sh b i first last), group-times)

-- where the code counts from 0
module _ (sh : Shape) (b : Bounds sh) (f i : ℕ) (given before later : List ℕ) (first : 1 ≤ i) (last : i ≤ sh.n) (f-first : 1 ≤ f) (f-last : f ≤ sh.n)
    (apart : i ≡ f → ⊥) (exact : length given ≡ fraction_length sh) where
  added_from : (gains : ℕ → ℕ → ℕ) → ((t j : ℕ) → equation sh (alone sh f i given) (row_of sh f j) t ≡ gains t j)
      → Gained sh.r (length given) gains before later → Added sh f i given before later
  added_from gains brings gained = record {
    same_length = gained.same_length;
    bytes = λ t j ht hj.
        subst (λ l. get_or later (t * l + j) 0 ≡ add (get_or before (t * l + j) 0) (gains t j)) exact (gained.bytes t j ht (omega (arith, hj, exact)))
        ∙ ap (add (get_or before (t * fraction_length sh + j) 0))
        (sym (ap (λ a. equation sh (alone sh f i given) a t) (read_at sh b f j f-first f-last hj) ∙ brings t j));
  }

  abbrev Mate : Sizes → Type 0
  Mate z = (p c : ℕ) → p ≡ point_of sh i → c ≡ factor_of ((i - 1) % z.s) ((f - 1) % z.s) → (i - 1) / z.s ≡ (f - 1) / z.s
      → Shared z.shape.r p (length given) (λ j. mul c (get_or given j 0)) before later → Added sh f i given before later

  mate_at : Mate (sizes_of sh b)
  unfolding place
  mate_at p c is-point is-factor same shared =
      added_from (λ t j. mul (power p t) (mul c (get_or given j 0)))
      (λ t j.
      mate_brings sh b f i given first last f-first apart (group-same sh i f same) j t
      ∙ ap₂ (λ q d. mul (power q t) (mul d (get_or given j 0))) (sym is-point) (sym is-factor))
      (record { same_length = shared.same_length; bytes = shared.bytes })

  abbrev Lone : Sizes → Type 0
  Lone z = (w : ℕ) → w ≡ worth sh (left_out ((i - 1) / z.s) ((f - 1) / z.s)) → ((i - 1) / z.s ≡ (f - 1) / z.s → ⊥)
      → Gained z.shape.r (length given) (gain sh ((i - 1) / z.s * z.s) z.s (weight_of z.s w (lone ((i - 1) % z.s) given))) before later
      → Added sh f i given before later

  lone-at : Lone (sizes_of sh b)
  unfolding place
  lone-at w is-worth apart-groups gained =
      added_from _
      (λ t j.
      lone-brings sh b f i given first last f-first apart (λ e. apart-groups (sym (group-less sh i) ∙ ap (λ v. v - 1) e ∙ group-less sh f)) j t
      ∙ ap₂ (λ v d. gain sh (v * group_size sh) (group_size sh) (weight_of (group_size sh) d (lone (place sh i) given)) t j)
      (group-less sh i)
      (ap₂ (λ g v. worth sh (left_out g v)) (group-less sh i) (group-less sh f) ∙ sym is-worth))
      gained

  module _ (z : Sizes) (sizes : SizesAre sh z) where
    pub added_mate : Mate z
    added_mate = subst Mate (sym (sizes_are sh z sizes b)) mate_at

    pub added-lone : Lone z
    added-lone = subst Lone (sym (sizes_are sh z sizes b)) lone-at

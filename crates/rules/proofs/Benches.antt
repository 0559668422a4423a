-- The bench stripes of document 01: every case of the table at once, by one computed test; that an answer is the only one follows from `parity-only` and
-- `rebuilt-only`. In order: tests that a computation decides, each with what it shows; the test of a case, and that a case that passes it holds; the
-- table; the shape of A to D and H to J; cases by name; the phantom's weight.
--   each f l           == every number of the list l passes f
--   listed a l         == a is one of the list l
--   eq_list x y        == the lists x and y are equal
--   eq_refusal x y     == the refusals x and y are equal
--   zeros sh C a n     == the sums of row a are 0 for every t below n
--   meets sh C a       == row a meets its equations
--   lower sh C rs a    == of the rows rs, those below a meet their equations
--   lowest sh C rs a t == of the rows rs, a is the lowest that fails, and t the lowest in it
--   are_bytes n list   == the list is n bytes
--   accepts sh         == the shape is accepted
--   is_node sh f       == f is 1 to n
--   check c            == the test of case c
--   check_all cs       == every case of cs passes its test
use mathlib.Core.Path.{◌≡◌, refl, ap, ap₂}
use mathlib.Core.Bool.{Bool, true, false, not, ◌&&◌, ◌||◌}
use mathlib.Core.List.{List, [], ◌∷◌, ◌++◌}
use mathlib.Core.Logic.{◌⊎◌, inl, inr}
use mathlib.Core.Option.{Option, none, some}
use Prim.Native.Nat.{ℕ, ◌-◌, ◌*◌, ◌<◌, ◌≤◌}
use lib.Dec.{T, T_not, leb, eqb, ltb, leb→le, eqb→eq, eqb_refl, ltb→lt, lt→ltb}
use lib.ListN.{length, get_or}
use lib.Ieee.Fits.{and_l, and_r}
use Rattle.field.specs.Number.{modulus, add, double, by_bits, mul, power}
use Rattle.field.proofs.Tests.{all, all-at, all-equal}
use Rattle.rules.specs.declared.shapes.Shape.{Shape}
use Rattle.rules.specs.Rising.{rising, Listed}
use Rattle.rules.specs.Shape.{group_size, data_nodes, groups, rows, accepted, node, group, place, phantom, worth, digit, with_digit}
use Rattle.rules.specs.Point.{point_of, γ}
use Rattle.rules.specs.Stripe.{Symbols, IsBytes, stripe_length, data_length, symbol, column, column_start}
use Rattle.rules.specs.Equation.{weighed, weight, sum_below, sum_to, equation, MeetsRow, Whole, LowestFailure, all_rows}
use Rattle.rules.specs.Fraction.{is_read, rows_read, fraction_length, fraction, helper_before, fraction_of, arrived, MeetsRead}
use Rattle.rules.specs.Refusal.{shape_refusal}
use Rattle.rules.proofs.Accepted.{Bounds, bounds, five}
use Rattle.rules.proofs.Fillings.{parity-only}
use Rattle.rules.proofs.Rebuildings.{rebuilt-only}
use Rattle.rules.specs.Bench.{Case, parity-is, fraction-is, product_is, rows_are, refused_with, rebuilt-is, fails-at}
use Rattle.rules.specs.Bench.{Claim, AllHold, shape, stripe_c, stripe_j, table}

abbrev each : (ℕ → Bool) → List ℕ → Bool
each f [] = true
each f (a ∷ l) = f a && each f l

each_at : (f : ℕ → Bool) (l : List ℕ) → T (each f l) → (a : ℕ) → Listed a l → T (f a)
each_at f [] t a h = absurd h
each_at f (b ∷ l) t a (inl e) = rw e (and_l (f b) (each f l) t)
each_at f (b ∷ l) t a (inr h) = each_at f l (and_r (f b) (each f l) t) a h

abbrev listed : ℕ → List ℕ → Bool
listed a [] = false
listed a (b ∷ l) = eqb a b || listed a l

or_cases : (a b : Bool) → T (a || b) → T a ⊎ T b
or_cases true b t = inl tt
or_cases false b t = inr t

listed_sound : (a : ℕ) (l : List ℕ) → T (listed a l) → Listed a l
listed_sound a [] t = absurd t
listed_sound a (b ∷ l) t = go (or_cases (eqb a b) (listed a l) t) (listed_sound a l)
  where
    go : T (eqb a b) ⊎ T (listed a l) → (T (listed a l) → Listed a l) → Listed a (b ∷ l)
    go (inl e) ih = inl (eqb→eq a b e)
    go (inr h) ih = inr (ih h)

abbrev eq_list : List ℕ → List ℕ → Bool
eq_list [] [] = true
eq_list [] (b ∷ y) = false
eq_list (a ∷ x) [] = false
eq_list (a ∷ x) (b ∷ y) = eqb a b && eq_list x y

eq_list_sound : (x y : List ℕ) → T (eq_list x y) → x ≡ y
eq_list_sound [] [] t = refl
eq_list_sound [] (b ∷ y) t = absurd t
eq_list_sound (a ∷ x) [] t = absurd t
eq_list_sound (a ∷ x) (b ∷ y) t =
    ap₂ (λ (c : ℕ) (z : List ℕ). c ∷ z) (eqb→eq a b (and_l (eqb a b) (eq_list x y) t)) (eq_list_sound x y (and_r (eqb a b) (eq_list x y) t))

abbrev eq_refusal : Option ℕ → Option ℕ → Bool
eq_refusal none none = true
eq_refusal none (some q) = false
eq_refusal (some p) none = false
eq_refusal (some p) (some q) = eqb p q

eq_refusal_sound : (x y : Option ℕ) → T (eq_refusal x y) → x ≡ y
eq_refusal_sound none none t = refl
eq_refusal_sound none (some q) t = absurd t
eq_refusal_sound (some p) none t = absurd t
eq_refusal_sound (some p) (some q) t = ap some (eqb→eq p q t)

abbrev zeros : Shape → Symbols → ℕ → ℕ → Bool
zeros sh C a n = all (λ t. eqb (equation sh C a t) 0) n

zeros_sound : (sh : Shape) (C : Symbols) (a n : ℕ) → T (zeros sh C a n) → (t : ℕ) → t < n → equation sh C a t ≡ 0
zeros_sound sh C a n h = all-equal (equation sh C a) (λ t. 0) n h

abbrev meets : Shape → Symbols → ℕ → Bool
meets sh C a = zeros sh C a sh.r

meets_sound : (sh : Shape) (C : Symbols) (a : ℕ) → T (meets sh C a) → MeetsRow sh C a
meets_sound sh C a h = zeros_sound sh C a sh.r h

abbrev lower : Shape → Symbols → List ℕ → ℕ → Bool
lower sh C rs a = each (λ b. not (ltb b a) || meets sh C b) rs

abbrev lowest : Shape → Symbols → List ℕ → ℕ → ℕ → Bool
lowest sh C rs a t = listed a rs && ltb t sh.r && not (eqb (equation sh C a t) 0) && lower sh C rs a && zeros sh C a t

lower_sound : (sh : Shape) (C : Symbols) (rs : List ℕ) (a : ℕ) → T (lower sh C rs a) → (b : ℕ) → Listed b rs → b < a → MeetsRow sh C b
lower_sound sh C rs a t b m l = go (or_cases (not (ltb b a)) (meets sh C b) (each_at (λ c. not (ltb c a) || meets sh C c) rs t b m))
  where
    go : T (not (ltb b a)) ⊎ T (meets sh C b) → MeetsRow sh C b
    go (inl n) = absurd (T_not (ltb b a) n (lt→ltb b a l))
    go (inr m) = meets_sound sh C b m

lowest_sound : (sh : Shape) (C : Symbols) (rs : List ℕ) (a t : ℕ) → T (lowest sh C rs a t) → LowestFailure sh C rs a t
lowest_sound sh C rs a t h =
    let p = five (listed a rs) (ltb t sh.r) (not (eqb (equation sh C a t) 0)) (lower sh C rs a) (zeros sh C a t) h in
    record {
      row_listed = listed_sound a rs p.0;
      t-below = ltb→lt t sh.r p.1;
      fails = λ e. T_not (eqb (equation sh C a t) 0) p.2 (rw e (eqb_refl 0));
      lower-rows = lower_sound sh C rs a p.3;
      lower-t = zeros_sound sh C a t p.4;
    }

abbrev are_bytes : ℕ → List ℕ → Bool
are_bytes n list = eqb (length list) n && all (λ k. ltb (get_or list k 0) 256) n

are_bytes_sound : (n : ℕ) (list : List ℕ) → T (are_bytes n list) → IsBytes n list
are_bytes_sound n list t = record {
  exact = eqb→eq (length list) n (and_l (eqb (length list) n) small t);
  bytes = λ k h. ltb→lt (get_or list k 0) 256 (all-at (λ k. ltb (get_or list k 0) 256) n (and_r (eqb (length list) n) small t) k h);
}
  where
    small : Bool
    small = all (λ k. ltb (get_or list k 0) 256) n

abbrev accepts : Shape → Bool
accepts sh = eq_refusal (shape_refusal sh) none

accepts_sound : (sh : Shape) → T (accepts sh) → Bounds sh
accepts_sound sh t = bounds sh (eq_refusal_sound (shape_refusal sh) none t)

abbrev is_node : Shape → ℕ → Bool
is_node sh f = leb 1 f && leb f sh.n

is_node_sound : (sh : Shape) (f : ℕ) → T (is_node sh f) → (1 ≤ f) × (f ≤ sh.n)
is_node_sound sh f t = (leb→le 1 f (and_l (leb 1 f) (leb f sh.n) t), leb→le f sh.n (and_r (leb 1 f) (leb f sh.n) t))

abbrev check : Case → Bool
check (parity-is sh kept parity) =
    accepts sh && (are_bytes (data_length sh) kept && are_bytes (stripe_length sh) (kept ++ parity) && all (meets sh (symbol sh (kept ++ parity))) (rows sh))
check (fraction-is sh stripe h f given) = eq_list (fraction sh f (column sh stripe h)) given
check (product_is a b c) = eqb (mul a b) c
check (rows_are sh l) = accepts sh && eqb (rows sh) l
check (refused_with sh q) = eq_refusal (shape_refusal sh) (some q)
check (rebuilt-is sh f fractions col) =
    accepts sh && is_node sh f
    && (are_bytes ((sh.n - 1) * fraction_length sh) fractions && are_bytes (rows sh) col && each (meets sh (arrived sh f fractions col)) (rows_read sh f))
check (fails-at sh stripe a t) = are_bytes (stripe_length sh) stripe && lowest sh (symbol sh stripe) (all_rows sh) a t

-- two and three tests in one
both : {P Q : Type 0} (a b : Bool) → (T a → P) → (T b → Q) → T (a && b) → P × Q
both a b f g t = (f (and_l a b t), g (and_r a b t))

three : {P Q R : Type 0} (a b c : Bool) → (T a → P) → (T b → Q) → (T c → R) → T (a && b && c) → P × Q × R
three a b c f g h t = (f (and_l a b (and_l (a && b) c t)), g (and_r a b (and_l (a && b) c t)), h (and_r (a && b) c t))

-- the answer passes its tests, and it is the only one
parity_sound : (sh : Shape) (kept parity : List ℕ) → T (check (parity-is sh kept parity)) → Claim (parity-is sh kept parity)
parity_sound sh kept parity t = (parts.0, parts.1, parts.2, only)
  where
    rest : Bool
    rest = are_bytes (data_length sh) kept && are_bytes (stripe_length sh) (kept ++ parity) && all (meets sh (symbol sh (kept ++ parity))) (rows sh)

    parts : IsBytes (data_length sh) kept × IsBytes (stripe_length sh) (kept ++ parity) × Whole sh (kept ++ parity)
    parts =
        three (are_bytes (data_length sh) kept) (are_bytes (stripe_length sh) (kept ++ parity)) (all (meets sh (symbol sh (kept ++ parity))) (rows sh))
        (are_bytes_sound (data_length sh) kept)
        (are_bytes_sound (stripe_length sh) (kept ++ parity))
        (λ h a l. meets_sound sh (symbol sh (kept ++ parity)) a (all-at (meets sh (symbol sh (kept ++ parity))) (rows sh) h a l))
        (and_r (accepts sh) rest t)

    only : (other : List ℕ) → IsBytes (stripe_length sh) (kept ++ other) → Whole sh (kept ++ other) → other ≡ parity
    only other bytes whole =
        parity-only sh (accepts_sound sh (and_l (accepts sh) rest t)) kept parts.0.exact other parity bytes parts.1 whole parts.2

rebuilt_sound : (sh : Shape) (f : ℕ) (fractions col : List ℕ) → T (check (rebuilt-is sh f fractions col)) → Claim (rebuilt-is sh f fractions col)
rebuilt_sound sh f fractions col t = (parts.0, parts.1, parts.2, only)
  where
    rest : Bool
    rest =
        are_bytes ((sh.n - 1) * fraction_length sh) fractions && are_bytes (rows sh) col && each (meets sh (arrived sh f fractions col)) (rows_read sh f)

    parts : IsBytes ((sh.n - 1) * fraction_length sh) fractions × IsBytes (rows sh) col × MeetsRead sh f fractions col
    parts =
        three (are_bytes ((sh.n - 1) * fraction_length sh) fractions) (are_bytes (rows sh) col) (each (meets sh (arrived sh f fractions col)) (rows_read sh f))
        (are_bytes_sound ((sh.n - 1) * fraction_length sh) fractions)
        (are_bytes_sound (rows sh) col)
        (λ h a m. meets_sound sh (arrived sh f fractions col) a (each_at (meets sh (arrived sh f fractions col)) (rows_read sh f) h a m))
        (and_r (accepts sh && is_node sh f) rest t)

    here : Bounds sh × ((1 ≤ f) × (f ≤ sh.n))
    here = both (accepts sh) (is_node sh f) (accepts_sound sh) (is_node_sound sh f) (and_l (accepts sh && is_node sh f) rest t)

    only : (other : List ℕ) → IsBytes (rows sh) other → MeetsRead sh f fractions other → other ≡ col
    only other bytes meets = rebuilt-only sh here.0 f here.1.0 here.1.1 fractions other col bytes parts.1 meets parts.2

check_sound : (c : Case) → T (check c) → Claim c
check_sound (parity-is sh kept parity) t = parity_sound sh kept parity t
check_sound (fraction-is sh stripe i f given) t = eq_list_sound (fraction sh f (column sh stripe i)) given t
check_sound (product_is a b c) t = eqb→eq (mul a b) c t
check_sound (rows_are sh l) t =
    both (accepts sh) (eqb (rows sh) l) (eq_refusal_sound (shape_refusal sh) none) (eqb→eq (rows sh) l) t
check_sound (refused_with sh q) t = eq_refusal_sound (shape_refusal sh) (some q) t
check_sound (rebuilt-is sh f fractions col) t = rebuilt_sound sh f fractions col t
check_sound (fails-at sh stripe a t) h =
    both (are_bytes (stripe_length sh) stripe) (lowest sh (symbol sh stripe) (all_rows sh) a t)
    (are_bytes_sound (stripe_length sh) stripe)
    (lowest_sound sh (symbol sh stripe) (all_rows sh) a t)
    h

abbrev check_all : List Case → Bool
check_all [] = true
check_all (c ∷ cs) = check c && check_all cs

all_sound : (cs : List Case) → T (check_all cs) → AllHold cs
all_sound [] t = tt
all_sound (c ∷ cs) t = (check_sound c (and_l (check c) (check_all cs) t), all_sound cs (and_r (check c) (check_all cs) t))

checked : T (check_all table)
unfolding rising group_size groups rows accepted node group place phantom worth digit with_digit point_of γ data_nodes stripe_length data_length
    symbol column column_start weighed weight
    sum_below sum_to equation is_read rows_read fraction_length fraction helper_before fraction_of arrived shape_refusal modulus add double by_bits mul power
checked = tt

pub bench : AllHold table
bench = all_sound table checked

-- "A to D and H to M have n = 3, r = 2, l = 4; column 1 is data"
pub bench-shape : (shape_refusal (shape 3 2) ≡ none) × (rows (shape 3 2) ≡ 4) × (data_nodes (shape 3 2) ≡ 1)
unfolding shape_refusal accepted rows groups group_size data_nodes
bench-shape = (refl, refl, refl)

-- A, B, C, H and I: the answer, and that there is no other
pub parity-a : Claim (parity-is (shape 3 2) (4 ∷ 0 ∷ 0 ∷ 0 ∷ []) (6 ∷ 5 ∷ 0 ∷ 0 ∷ 2 ∷ 3 ∷ 0 ∷ 0 ∷ []))
parity-a = bench.0

pub parity-b : Claim (parity-is (shape 3 2) (0 ∷ 0 ∷ 0 ∷ 12 ∷ []) (0 ∷ 10 ∷ 12 ∷ 30 ∷ 0 ∷ 15 ∷ 0 ∷ 5 ∷ []))
parity-b = bench.1.0

pub parity-c : Claim (parity-is (shape 3 2) (4 ∷ 0 ∷ 0 ∷ 12 ∷ []) (6 ∷ 15 ∷ 12 ∷ 30 ∷ 2 ∷ 12 ∷ 0 ∷ 5 ∷ []))
parity-c = bench.1.1.0

pub rebuilt-h : Claim (rebuilt-is (shape 3 2) 1 (6 ∷ 12 ∷ 2 ∷ 0 ∷ []) (4 ∷ 0 ∷ 0 ∷ 12 ∷ []))
rebuilt-h = bench.1.1.1.1.1.1.1.1.1.0

pub rebuilt-i : Claim (rebuilt-is (shape 3 2) 3 (4 ∷ 0 ∷ 6 ∷ 15 ∷ []) (2 ∷ 12 ∷ 0 ∷ 5 ∷ []))
rebuilt-i = bench.1.1.1.1.1.1.1.1.1.1.0

pub whole-c : Whole (shape 3 2) stripe_c
whole-c = parity-c.2

pub fails-j : LowestFailure (shape 3 2) (symbol (shape 3 2) stripe_j) (all_rows (shape 3 2)) 1 0
fails-j = bench.1.1.1.1.1.1.1.1.1.1.1.0.1

-- document 01's first slip: in C, row 1, node 4 has weight 5 though its column is zero
pub node_4_weighs_5 : weight (shape 3 2) (symbol (shape 3 2) stripe_c) 1 4 ≡ 5
unfolding weight weighed symbol column_start phantom place group digit node with_digit worth group_size groups rows add
node_4_weighs_5 = refl

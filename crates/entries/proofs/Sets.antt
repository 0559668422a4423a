-- Sets of nodes, held or lost. In order: the nodes of a set from 1 on, one after the other, which they are, and that they rise; how many; the bits of a
-- set; the other nodes; a set is known by its nodes; no node; a node more, above all others.
--   nodes_to set i == the nodes 1 to i of the set, in rising order
--   Rises m nodes == each of the list is 1 to m, and above the one before
use mathlib.Core.Path.{◌≡◌, refl, sym, ap, ◌∙◌, subst}
use mathlib.Core.Bool.{Bool, true, false, not, ◌&&◌, true≢false, false≢true}
use mathlib.Core.List.{List, [], ◌∷◌, ◌++◌}
use mathlib.Core.Logic.{◌⊎◌, inl, inr}
use Prim.Native.Nat.{ℕ, zero, suc, ◌+◌, ◌-◌, ◌/◌, ◌%◌, ◌^◌, ◌<◌, ◌≤◌}
use native.Mathlib.Nat.{eq-or-lt_of_le, div-eq_of_lt-le, one-le-pow, pow-zero, pow-suc, pow-le-pow_right}
use native.Mathlib.Omega.{arith}
use lib.Dec.{leb, eqb}
use lib.ListN.{length, get_or, length-append, get_or-append}
use lib.Seq.{get_or-append_seam}
use borrow.Author.Tests.{leb-true, le-leb, eq-eqb, ne_eqb}
use Rattle.theory.specs.Set.{count}
use Rattle.theory.proofs.Counts.{count-zero, count-suc, count-all, count_add, count_le, count_up}
use Rattle.rules.specs.declared.shapes.Shape.{Shape}
use Rattle.rules.specs.Rising.{rising, Listed}
use Rattle.rules.specs.Lost.{lost_count, bit_above}
use Rattle.rules.proofs.Checks.{both}
use Rattle.rules.proofs.Risings.{rising_skip, rising-take, rising_ext, rising→listed, listed→rising, length-rising}
use Rattle.rules.proofs.Ties.{is-lost-suc, lost-first, lost-half}
use Rattle.rules.proofs.LostSets.{lost_among, lost_among_lem, among_same, lost-beyond, lost-below, below-lost}
use Rattle.entries.specs.Pack.{has, nodes_of, others}

abbrev member : ℕ → ℕ → Bool
member set i = leb 1 i && has set i

unfoldable pub nodes_to : ℕ → ℕ → List ℕ
nodes_to set i = rising (suc i) (member set)

pub nodes-all : (sh : Shape) (set : ℕ) → nodes_of sh set ≡ nodes_to set sh.n
unfolding nodes_of nodes_to
nodes-all sh set = ap (λ n. rising n (member set)) (omega arith)

pub nodes_start : (set : ℕ) → nodes_to set 0 ≡ []
unfolding nodes_to rising
nodes_start set = refl

member-suc : (set i : ℕ) → member set (suc i) ≡ has set (suc i)
member-suc set i = rw (le-leb 1 (suc i) (omega arith))

pub nodes-take : (set i : ℕ) → has set (suc i) ≡ true → nodes_to set (suc i) ≡ nodes_to set i ++ (suc i ∷ [])
unfolding nodes_to
nodes-take set i h = rising-take (suc i) (member set) (member-suc set i ∙ h)

pub nodes_skip : (set i : ℕ) → has set (suc i) ≡ false → nodes_to set (suc i) ≡ nodes_to set i
unfolding nodes_to
nodes_skip set i h = rising_skip (suc i) (member set) (member-suc set i ∙ h)

-- the code's test of node i + 1
pub in_set : (set i : ℕ) → set / 2 ^ i % 2 ≡ 1 → has set (suc i) ≡ true
in_set set i e = is-lost-suc set i ∙ eq-eqb (set / 2 ^ i % 2) 1 e

pub not_in_set : (set i : ℕ) → (set / 2 ^ i % 2 ≡ 1 → ⊥) → has set (suc i) ≡ false
not_in_set set i e = is-lost-suc set i ∙ ne_eqb (set / 2 ^ i % 2) 1 e

-- which nodes are listed
member-true : (set i : ℕ) → member set i ≡ true → (1 ≤ i) × (has set i ≡ true)
member-true set i h = let (from-1, passes) = both (leb 1 i) (has set i) h in (leb-true 1 i from-1, passes)

pub listed_to : (set i a : ℕ) → Listed a (nodes_to set i) → (1 ≤ a) × (a ≤ i) × (has set a ≡ true)
unfolding nodes_to
listed_to set i a m =
    let (below, passes) = listed→rising (suc i) (member set) a m in
    let (first, e) = member-true set a passes in
    (first, omega (arith, below), e)

pub listed_held : (sh : Shape) (set i : ℕ) → Listed i (nodes_of sh set) → (1 ≤ i) × (i ≤ sh.n) × (has set i ≡ true)
listed_held sh set i m = listed_to set sh.n i (subst (Listed i) (nodes-all sh set) m)

pub held_listed : (sh : Shape) (set i : ℕ) → 1 ≤ i → i ≤ sh.n → has set i ≡ true → Listed i (nodes_of sh set)
unfolding nodes_of
held_listed sh set i h k e = rising→listed (sh.n + 1) (member set) i (omega arith) (rw (le-leb 1 i h) e)

-- they rise, from 1 to i
pub record Rises (m : ℕ) (nodes : List ℕ) : Type 0 where
  pub least : (e : ℕ) → e < length nodes → 1 ≤ get_or nodes e 0
  pub most : (e : ℕ) → e < length nodes → get_or nodes e 0 ≤ m
  pub rises : (e : ℕ) → suc e < length nodes → get_or nodes e 0 < get_or nodes (suc e) 0

-- an entry of a list with one more at its end
snoc_case : (P : ℕ → Type 0) (l : List ℕ) (x e : ℕ) → e < length (l ++ (x ∷ [])) → (e < length l → P (get_or l e 0)) → (e ≡ length l → P x)
    → P (get_or (l ++ (x ∷ [])) e 0)
snoc_case P l x e h f g = go (eq-or-lt_of_le {n = e} {m = length l} (omega (arith, length-append l (x ∷ []))))
  where
    go : (e ≡ length l) ⊎ (e < length l) → P (get_or (l ++ (x ∷ [])) e 0)
    go (inl q) = subst P (sym (ap (λ n. get_or (l ++ (x ∷ [])) n 0) q ∙ get_or-append_seam l x [] 0)) (g q)
    go (inr k) = subst P (sym (get_or-append l (x ∷ []) 0 e k)) (f k)

rises_more : (m : ℕ) (nodes : List ℕ) → Rises m nodes → Rises (suc m) (nodes ++ (suc m ∷ []))
rises_more m nodes r = record {
  least = λ e h. snoc_case (λ y. 1 ≤ y) nodes (suc m) e h (r.least e) (λ q. omega arith);
  most = λ e h. snoc_case (λ y. y ≤ suc m) nodes (suc m) e h (λ k. omega (arith, r.most e k)) (λ q. omega arith);
  rises = λ e h.
      let l : e < length nodes = omega (arith, length-append nodes (suc m ∷ [])) in
      rw (get_or-append nodes (suc m ∷ []) 0 e l)
      (snoc_case (λ y. get_or nodes e 0 < y) nodes (suc m) (suc e) h (r.rises e) (λ q. omega (arith, r.most e l)));
}

rises_up : (m : ℕ) (nodes : List ℕ) → Rises m nodes → Rises (suc m) nodes
rises_up m nodes r = record { least = r.least; most = λ e h. omega (arith, r.most e h); rises = r.rises }

pub nodes_rise : (set i : ℕ) → Rises i (nodes_to set i)
nodes_rise set zero =
    rw nodes_start (record { least = λ e h. absurd (omega arith); most = λ e h. absurd (omega arith); rises = λ e h. absurd (omega arith) })
nodes_rise set (suc i) = go (has set (suc i)) refl (nodes_rise set i)
  where
    go : (b : Bool) → has set (suc i) ≡ b → Rises i (nodes_to set i) → Rises (suc i) (nodes_to set (suc i))
    go true h r = rw (nodes-take set i h) (rises_more i (nodes_to set i) r)
    go false h r = rw (nodes_skip set i h) (rises_up i (nodes_to set i) r)

-- as many as there are bits
count_members : (set n : ℕ) → count (suc n) (member set) ≡ count n (λ i. has set (suc i))
count_members set zero = rw (count-suc, count-zero, count-zero)
count_members set (suc n) =
    count-suc (suc n) (member set) ∙ simp (count_members set n, member-suc set n) (sym (count-suc n (λ i. has set (suc i))))

pub nodes-count : (sh : Shape) (set : ℕ) → length (nodes_of sh set) ≡ lost_among sh (has set)
unfolding nodes_to
nodes-count sh set = ap length (nodes-all sh set) ∙ length-rising (suc sh.n) (member set) ∙ count_members set sh.n

pub nodes-few : (sh : Shape) (set : ℕ) → length (nodes_of sh set) ≤ sh.n
nodes-few sh set = rw (nodes-count sh set) (count_le sh.n (λ i. has set (suc i)))

pub nodes_up : (set i n : ℕ) → i ≤ n → length (nodes_to set i) ≤ length (nodes_to set n)
unfolding nodes_to
nodes_up set i n h = rw (length-rising (suc i), length-rising (suc n)) (count_up (suc i) (suc n) _ (omega arith))

pub held_count : (sh : Shape) (set : ℕ) → bit_above sh set ≡ false → length (nodes_of sh set) ≡ lost_count set
held_count sh set h = nodes-count sh set ∙ lost_among_lem sh set h

-- bit by bit, the lowest first
bit_not : (a b : ℕ) → a + b ≡ 1 → eqb a 1 ≡ not (eqb b 1)
bit_not zero zero e = absurd (omega arith)
bit_not zero (suc zero) e = refl
bit_not zero (suc (suc b)) e = absurd (omega arith)
bit_not (suc zero) zero e = refl
bit_not (suc zero) (suc b) e = absurd (omega arith)
bit_not (suc (suc a)) b e = absurd (omega arith)

has-flipped : (n x i : ℕ) → x < 2 ^ n → i < n → has (2 ^ n - 1 - x) (suc i) ≡ not (has x (suc i))
has-flipped zero x i h k = absurd (omega arith)
has-flipped (suc n) x zero h k =
    lost-first (2 ^ suc n - 1 - x) ∙ bit_not ((2 ^ suc n - 1 - x) % 2) (x % 2) (omega (arith, pow-suc 2 n)) ∙ ap not (sym (lost-first x))
has-flipped (suc n) x (suc i) h k =
    lost-half (2 ^ suc n - 1 - x) i
    ∙ ap (λ y. has y (suc i)) (omega (arith, pow-suc 2 n))
    ∙ has-flipped n (x / 2) i (omega (arith, pow-suc 2 n)) (omega arith)
    ∙ ap not (sym (lost-half x i))

others_below : (sh : Shape) (set : ℕ) → others sh set < 2 ^ sh.n
unfolding others
others_below sh set = omega (arith, one-le-pow sh.n 2 (omega arith))

pub others-inside : (sh : Shape) (set : ℕ) → bit_above sh (others sh set) ≡ false
others-inside sh set = below-lost sh (others sh set) (others_below sh set)

pub others-has : (sh : Shape) (set i : ℕ) → bit_above sh set ≡ false → 1 ≤ i → i ≤ sh.n → has (others sh set) i ≡ not (has set i)
unfolding others
others-has sh set zero h k l = absurd (omega arith)
others-has sh set (suc i) h k l = has-flipped sh.n set i (lost-below sh set h) l

pub others-others : (sh : Shape) (set : ℕ) → bit_above sh set ≡ false → others sh (others sh set) ≡ set
unfolding others
others-others sh set h = omega (arith, lost-below sh set h)

pub others-count : (sh : Shape) (set : ℕ) → bit_above sh set ≡ false → lost_count (others sh set) ≡ sh.n - length (nodes_of sh set)
others-count sh set h =
    sym (lost_among_lem sh (others sh set) (others-inside sh set))
    ∙ among_same sh (has (others sh set)) (λ i. not (has set i)) (λ i k l. others-has sh set i h k l)
    ∙ omega (arith, nodes-count sh set, count-all sh.n (λ i. true) (λ i l. refl), count_add sh.n (λ i. true) (λ i. has set (suc i)))

-- two sets with the same nodes
bit_same : (a b : ℕ) → a < 2 → b < 2 → eqb a 1 ≡ eqb b 1 → a ≡ b
bit_same zero zero h k e = refl
bit_same zero (suc zero) h k e = absurd (false≢true e)
bit_same zero (suc (suc b)) h k e = absurd (omega arith)
bit_same (suc zero) zero h k e = absurd (true≢false e)
bit_same (suc zero) (suc zero) h k e = refl
bit_same (suc zero) (suc (suc b)) h k e = absurd (omega arith)
bit_same (suc (suc a)) b h k e = absurd (omega arith)

same_bits : (n x y : ℕ) → x < 2 ^ n → y < 2 ^ n → ((i : ℕ) → i < n → has x (suc i) ≡ has y (suc i)) → x ≡ y
same_bits zero x y h k e = omega (arith, pow-zero 2)
same_bits (suc n) x y h k e =
    let low = bit_same (x % 2) (y % 2) (omega arith) (omega arith) (sym (lost-first x) ∙ e 0 (omega arith) ∙ lost-first y) in
    let high =
    same_bits n (x / 2) (y / 2) (omega (arith, pow-suc 2 n)) (omega (arith, pow-suc 2 n))
    (λ i l. sym (lost-half x i) ∙ e (suc i) (omega arith) ∙ lost-half y i) in
    omega arith

both_ways : (a b : Bool) → (a ≡ true → b ≡ true) → (b ≡ true → a ≡ true) → a ≡ b
both_ways true b f g = sym (f refl)
both_ways false true f g = g refl
both_ways false false f g = refl

has_listed : (sh : Shape) (x y i : ℕ) → nodes_of sh x ≡ nodes_of sh y → i < sh.n → has x (suc i) ≡ true → has y (suc i) ≡ true
has_listed sh x y i e l h = (listed_held sh y (suc i) (subst (Listed (suc i)) e (held_listed sh x (suc i) (omega arith) l h))).2

pub same_nodes : (sh : Shape) (x y : ℕ) → bit_above sh x ≡ false → bit_above sh y ≡ false → nodes_of sh x ≡ nodes_of sh y → x ≡ y
same_nodes sh x y h k e =
    same_bits sh.n x y (lost-below sh x h) (lost-below sh y k)
    (λ i l. both_ways _ _ (has_listed sh x y i e l) (has_listed sh y x i (sym e) l))

-- a set below 2 to the power j, and node j + 1 besides
has-lower : (j x k : ℕ) → k < j → has (x + 2 ^ j) (suc k) ≡ has x (suc k)
has-lower zero x k h = absurd (omega arith)
has-lower (suc j) x zero h =
    lost-first (x + 2 ^ suc j) ∙ ap (λ d. eqb d 1) {x = (x + 2 ^ suc j) % 2} {y = x % 2} (omega (arith, pow-suc 2 j)) ∙ sym (lost-first x)
has-lower (suc j) x (suc k) h =
    lost-half (x + 2 ^ suc j) k
    ∙ ap (λ y. has y (suc k)) (omega (arith, pow-suc 2 j))
    ∙ has-lower j (x / 2) k (omega arith)
    ∙ sym (lost-half x k)

has_top : (j x : ℕ) → x < 2 ^ j → has (x + 2 ^ j) (suc j) ≡ true
has_top j x h =
    is-lost-suc (x + 2 ^ j) j ∙ ap (λ d. eqb (d % 2) 1) (div-eq_of_lt-le {k = 1} (2 ^ j) (omega arith) (omega arith))

-- nothing above node m
nodes-beyond : (set m n : ℕ) → m ≤ n → set < 2 ^ m → nodes_to set n ≡ nodes_to set m
nodes-beyond set m zero h l = ap (nodes_to set) (omega arith)
nodes-beyond set m (suc n) h l = go (eq-or-lt_of_le h) (λ k. nodes-beyond set m n k l)
  where
    go : (m ≡ suc n) ⊎ (m < suc n) → (m ≤ n → nodes_to set n ≡ nodes_to set m) → nodes_to set (suc n) ≡ nodes_to set m
    go (inl e) ih = ap (nodes_to set) (sym e)
    go (inr k) ih =
        nodes_skip set n (lost-beyond n set (omega (arith, pow-le-pow_right {n = 2} (omega arith) {i = m} {j = n} (omega arith)))) ∙ ih (omega arith)

pub nodes-none : (sh : Shape) → nodes_of sh 0 ≡ []
nodes-none sh = nodes-all sh 0 ∙ nodes-beyond 0 0 sh.n (omega arith) (one-le-pow 0 2 (omega arith)) ∙ nodes_start 0

nodes-agree : (x y i : ℕ) → ((k : ℕ) → k < i → has x (suc k) ≡ has y (suc k)) → nodes_to x i ≡ nodes_to y i
unfolding nodes_to
nodes-agree x y i h = rising_ext (suc i) (member x) (member y) go
  where
    go : (a : ℕ) → a < suc i → member x a ≡ member y a
    go zero l = refl
    go (suc a) l = member-suc x a ∙ h a (omega arith) ∙ sym (member-suc y a)

node_more : (set j n : ℕ) → j < n → set < 2 ^ j → nodes_to (set + 2 ^ j) n ≡ nodes_to set n ++ (suc j ∷ [])
node_more set j n k l =
    nodes-beyond (set + 2 ^ j) (suc j) n k (omega (arith, pow-suc 2 j))
    ∙ nodes-take (set + 2 ^ j) j (has_top j set l)
    ∙ ap (λ (nodes : List ℕ). nodes ++ (suc j ∷ []))
    (nodes-agree (set + 2 ^ j) set j (λ i m. has-lower j set i m) ∙ sym (nodes-beyond set j n (omega arith) l))

-- a node above all others
pub nodes_more : (sh : Shape) (set i : ℕ) → 1 ≤ i → i ≤ sh.n → set < 2 ^ (i - 1) → nodes_of sh (set + 2 ^ (i - 1)) ≡ nodes_of sh set ++ (i ∷ [])
nodes_more sh set zero h k l = absurd (omega arith)
nodes_more sh set (suc j) h k l =
    let e : suc j - 1 ≡ j = omega arith in
    rw (e, nodes-all sh (set + 2 ^ j), nodes-all sh set) (node_more set j sh.n k (rw e at l))

-- The equations of document 01 are those that Ye and Barg print: source 000, (3) with the matrices of (4), (5) and (6). A stripe is whole exactly
-- when, for every t, the sum over its n nodes of A(t, i) times column i is the zero column.
--   entry sh o t i v a b == the entry of A(t, i) at row a and column b, node i being in group v, and o how its place compares with digit v of row a
--   matrix sh t i a b    == the same, with group and place of node i
-- In order: these matrices are as printed, and no others are; a row of a matrix times a column is theory's share; the theorem.
use mathlib.Core.Path.{◌≡◌, refl, sym, ap, ap₂, ◌∙◌}
use mathlib.Core.Bool.{Bool, true, false, cond}
use mathlib.Core.List.{List}
use mathlib.Core.Logic.{◌↔◌}
use mathlib.Core.Option.{none}
use Prim.Native.Nat.{ℕ, zero, suc, ◌*◌, ◌<◌, ◌≤◌, compare, Ordering}
use native.Mathlib.Decide.{ℕ_discrete}
use native.Mathlib.Omega.{arith}
use lib.Dec.{eqb}
use borrow.Author.Tests.{eqb-true, eq-eqb, ne_eqb}
use Rattle.theory.specs.Pair.{Compared}
use Rattle.theory.specs.Digit as digits
use Rattle.theory.specs.Power as theory
use Rattle.theory.specs.Set.{Lists}
use Rattle.theory.specs.Share.{spread, shared, share}
use Rattle.theory.specs.Sum.{sum, sum_over}
use Rattle.theory.specs.Weight.{side}
use Rattle.theory.proofs.Ring.{zero-mul}
use Rattle.theory.proofs.Sums.{sum_ext, sum_one, sum-over-list}
use Rattle.theory.proofs.Digits.{node-split, group_lt, place_lt}
use Rattle.theory.proofs.Shares.{equation-real}
use Rattle.theory.proofs.Mates.{compare_says, compare_only}
use Rattle.field.specs.Number.{mul, power}
use Rattle.field.proofs.Product.{mul-below}
use Rattle.field.proofs.Numbers.{numbers, number, number-zero, number-mul, number-power, number_injective}
use Rattle.rules.specs.declared.shapes.Shape.{Shape}
use Rattle.rules.specs.Shape.{group_size, groups, rows, node, group, place, digit, with_digit}
use Rattle.rules.specs.Point.{point_of, γ}
use Rattle.rules.specs.Stripe.{Symbols, symbol}
use Rattle.rules.specs.Equation.{sum_below, sum_to, equation, Whole}
use Rattle.rules.specs.Refusal.{shape_refusal}
use Rattle.rules.specs.Paper.{Stands, Matrices, Meets}
use Rattle.rules.proofs.Accepted.{Bounds, bounds, size-some, nodes-least}
use Rattle.rules.proofs.House.{code, stripe, house_lawful}
use Rattle.rules.proofs.Layouts.{set_below}
use Rattle.rules.proofs.Ties.{node_tie, node-group, node-place, digit_tie, with_digit_tie, digit-below, digit_set}
use Rattle.rules.proofs.Ties.{symbol-phantom, sum_tie, sum_below_lem, equation_tie, equation-below}

unfoldable pub entry : Shape → Ordering → ℕ → ℕ → ℕ → ℕ → ℕ → ℕ
entry sh Ordering.lt t i v a b = cond (eqb b a) (mul γ (power (point_of sh i) t)) 0
entry sh Ordering.eq t i v a b = cond (eqb b (with_digit sh a v (digit sh b v))) (power (point_of sh (node sh v (digit sh b v))) t) 0
entry sh Ordering.gt t i v a b = cond (eqb b a) (power (point_of sh i) t) 0

unfoldable pub matrix : Shape → ℕ → ℕ → ℕ → ℕ → ℕ
matrix sh t i a b = entry sh (compare (place sh i) (digit sh a (group sh i))) t i (group sh i) a b

-- a number that is y where b is a, and 0 elsewhere
decided : {x y : ℕ} (b a : ℕ) → (b ≡ a → x ≡ y) → ((b ≡ a → ⊥) → x ≡ 0) → x ≡ cond (eqb b a) y 0
decided {x} {y} b a same other = go (ℕ_discrete b a)
  where
    go : Dec (b ≡ a) → x ≡ cond (eqb b a) y 0
    go (yes e) = rw (eq-eqb b a e) (same e)
    go (no ne) = rw (ne_eqb b a ne) (other ne)

module _ (sh : Shape) (bs : Bounds sh) where
  -- the digit that sets a to b is b's
  set-digit-only : (a b v w : ℕ) → 1 ≤ v → w < group_size sh → b ≡ with_digit sh a v w → digit sh b v ≡ w
  set-digit-only a b v w h l e = ap (λ x. digit sh x v) e ∙ digit_set sh bs a v w h l

  matrix-entry : (o : Ordering) (t v u a b : ℕ) → Stands sh t v u a b → Compared o u (digit sh a v)
      → matrix sh t (node sh v u) a b ≡ entry sh o t (node sh v u) v a b
  unfolding matrix
  matrix-entry o t v u a b st h =
      rw (node-group sh v u st.first st.small, node-place sh v u st.first st.small)
      (ap (λ o. entry sh o t (node sh v u) v a b) (compare_only u (digit sh a v) o h))

  entry-otherwise : (o : Ordering) (t v u a b : ℕ) → Stands sh t v u a b → Compared o u (digit sh a v)
      → (digit sh a v < u → b ≡ a → ⊥)
      → (u < digit sh a v → b ≡ a → ⊥)
      → (digit sh a v ≡ u → (w : ℕ) → w < group_size sh → b ≡ with_digit sh a v w → ⊥)
      → entry sh o t (node sh v u) v a b ≡ 0
  unfolding entry
  entry-otherwise Ordering.lt t v u a b st h x y z = rw (ne_eqb b a (y h))
  entry-otherwise Ordering.eq t v u a b st h x y z =
      rw (ne_eqb b (with_digit sh a v (digit sh b v)) (z (sym h) (digit sh b v) (digit-below sh bs b v st.first)))
  entry-otherwise Ordering.gt t v u a b st h x y z = rw (ne_eqb b a (x h))

  entry-at : (t i v a b w : ℕ) → digit sh b v ≡ w → b ≡ with_digit sh a v w
      → entry sh Ordering.eq t i v a b ≡ power (point_of sh (node sh v w)) t
  unfolding entry
  entry-at t i v a b w d e = rw (d, eq-eqb b (with_digit sh a v w) e)

  pub matrix-printed : Matrices sh (matrix sh)
  unfolding entry
  matrix-printed = record {
    above = λ t v u a b st h e. matrix-entry Ordering.gt t v u a b st h ∙ rw (eq-eqb b a e);
    below = λ t v u a b st h e. matrix-entry Ordering.lt t v u a b st h ∙ rw (eq-eqb b a e);
    at = λ t v u a b w st h l e.
        matrix-entry Ordering.eq t v u a b st (sym h) ∙ entry-at t (node sh v u) v a b w (set-digit-only a b v w st.first l e) e;
    otherwise = λ t v u a b st x y z.
        matrix-entry (compare u (digit sh a v)) t v u a b st (compare_says u (digit sh a v))
        ∙ entry-otherwise (compare u (digit sh a v)) t v u a b st (compare_says u (digit sh a v)) x y z;
  }

  -- every matrix as printed has these entries
  module _ (A : ℕ → ℕ → ℕ → ℕ → ℕ) (p : Matrices sh A) where
    printed-entry : (o : Ordering) (t v u a b : ℕ) → Stands sh t v u a b → Compared o u (digit sh a v)
        → A t (node sh v u) a b ≡ entry sh o t (node sh v u) v a b
    unfolding entry
    printed-entry Ordering.lt t v u a b st h =
        decided b a (p.below t v u a b st h) (λ ne. p.otherwise t v u a b st (λ k. absurd (omega arith)) (λ k. ne) (λ k. absurd (omega arith)))
    printed-entry Ordering.eq t v u a b st h =
        decided b (with_digit sh a v (digit sh b v)) (p.at t v u a b (digit sh b v) st (sym h) (digit-below sh bs b v st.first))
        (λ ne. p.otherwise t v u a b st (λ k. absurd (omega arith)) (λ k. absurd (omega arith))
        (λ k w l e. ne (e ∙ ap (with_digit sh a v) (sym (set-digit-only a b v w st.first l e)))))
    printed-entry Ordering.gt t v u a b st h =
        decided b a (p.above t v u a b st h) (λ ne. p.otherwise t v u a b st (λ k. ne) (λ k. absurd (omega arith)) (λ k. absurd (omega arith)))

    printed_compare : (t v u a b : ℕ) → Stands sh t v u a b → A t (node sh v u) a b ≡ entry sh (compare u (digit sh a v)) t (node sh v u) v a b
    printed_compare t v u a b st = printed-entry (compare u (digit sh a v)) t v u a b st (compare_says u (digit sh a v))

    -- the same by theory's node
    stands : (t i a b : ℕ) → i < sh.n → t < sh.r → a < rows sh → b < rows sh
        → Stands sh t (suc (digits.group (group_size sh) i)) (digits.place (group_size sh) i) a b
    stands t i a b l tl al bl = record {
      first = omega arith;
      small = place_lt (group_size sh) (size-some sh bs) i;
      real = rw (node_tie, node-split) l;
      t-below = tl;
      row = al;
      column = bl;
    }

    printed-side : (t i a b : ℕ) → i < sh.n → t < sh.r → a < rows sh → b < rows sh
        → A t (suc i) a b ≡ entry sh (side (group_size sh) a i) t (suc i) (suc (digits.group (group_size sh) i)) a b
    unfolding side
    printed-side t i a b l tl al bl =
        rw (node_tie, node-split, digit_tie sh bs)
        at (printed_compare t (suc (digits.group (group_size sh) i)) (digits.place (group_size sh) i) a b (stands t i a b l tl al bl))

  pub matrices_only : (A B : ℕ → ℕ → ℕ → ℕ → ℕ) → Matrices sh A → Matrices sh B
      → (t i a b : ℕ) → 1 ≤ i → i ≤ sh.n → t < sh.r → a < rows sh → b < rows sh → A t i a b ≡ B t i a b
  matrices_only A B p q t zero a b h k tl al bl = absurd (omega arith)
  matrices_only A B p q t (suc i) a b h k tl al bl = printed-side A p t i a b k tl al bl ∙ sym (printed-side B q t i a b k tl al bl)

number_cond : (q : Bool) (z : ℕ) (y : numbers.K) → numbers.mul (number (cond q z 0)) y ≡ cond q (numbers.mul (number z) y) numbers.zero
number_cond true z y = refl
number_cond false z y = ap (λ w. numbers.mul w y) number-zero ∙ zero-mul numbers y

-- a row with one entry
row_one : (l z a : ℕ) (x : ℕ → numbers.K) → a < l → sum numbers l (λ b. numbers.mul (number (cond (eqb b a) z 0)) (x b)) ≡ numbers.mul (number z) (x a)
row_one l z a x h =
    sum_one numbers l a _ h (λ b k ne. number_cond (eqb b a) z (x b) ∙ rw (ne_eqb b a ne))
    ∙ rw (eq-eqb a a refl)

-- a row whose entries are listed
row_list : (l : ℕ) (L : ℕ → Bool) (z : ℕ → ℕ) (x : ℕ → numbers.K) (k : ℕ) (e : ℕ → ℕ) → Lists l L k e
    → sum numbers l (λ b. numbers.mul (number (cond (L b) (z b) 0)) (x b)) ≡ sum numbers k (λ w. numbers.mul (number (z (e w))) (x (e w)))
unfolding sum_over
row_list l L z x k e h =
    sum_ext numbers l _ _ (λ b m. number_cond (L b) (z b) (x b)) ∙ sum-over-list numbers l L k e (λ b. numbers.mul (number (z b)) (x b)) h

module _ (sh : Shape) (bs : Bounds sh) where
  -- the rows that are a but for digit v, by that digit
  mates_list : (v a : ℕ) → v < groups sh → a < rows sh
      → Lists (rows sh) (λ b. eqb b (with_digit sh a (suc v) (digit sh b (suc v)))) (group_size sh) (λ w. with_digit sh a (suc v) w)
  unfolding rows
  mates_list v a vl al = record {
    below = λ w l. set_below sh bs a (suc v) w (omega arith) vl l al;
    inside = λ w l. rw (digit_set sh bs a (suc v) w (omega arith) l) (eq-eqb (with_digit sh a (suc v) w) (with_digit sh a (suc v) w) refl);
    once = λ w z l k e. sym (digit_set sh bs a (suc v) w (omega arith) l) ∙ set-digit-only sh bs a (with_digit sh a (suc v) w) (suc v) z (omega arith) k e;
    all = λ b l q. (digit sh b (suc v), digit-below sh bs b (suc v) (omega arith), sym (eqb-true _ _ q));
  }

  point-node : (t v w : ℕ) → number (power (point_of sh (node sh (suc v) w)) t) ≡ theory.power numbers ((code sh).point (digits.node (group_size sh) v w)) t
  point-node t v w = number-power (point_of sh (node sh (suc v) w)) t ∙ rw node_tie

  row-spread : (t v a : ℕ) (x : ℕ → numbers.K) → v < groups sh → a < rows sh
      → sum numbers (rows sh) (λ b. numbers.mul (number (entry sh Ordering.eq t 0 (suc v) a b)) (x b)) ≡ spread (code sh) t v x a
  unfolding entry spread theory.moment
  row-spread t v a x vl al =
      row_list (rows sh) _ (λ b. power (point_of sh (node sh (suc v) (digit sh b (suc v)))) t) x (group_size sh) _ (mates_list v a vl al)
      ∙ sum_ext numbers (group_size sh) _ _
      (λ w l. rw (digit_set sh bs a (suc v) w (omega arith) l) (ap₂ numbers.mul (point-node t v w) (ap x (with_digit_tie sh bs a v w))))

  row-share : (o : Ordering) (t i a : ℕ) (x : ℕ → numbers.K) → i < groups sh * group_size sh → a < rows sh
      → sum numbers (rows sh) (λ b. numbers.mul (number (entry sh o t (suc i) (suc (digits.group (group_size sh) i)) a b)) (x b)) ≡ shared (code sh) o t i x a
  unfolding entry shared
  row-share Ordering.lt t i a x il al =
      row_one (rows sh) _ a x al
      ∙ ap (λ w. numbers.mul w (x a)) (number-mul γ (power (point_of sh (suc i)) t) ∙ ap (numbers.mul (number γ)) (number-power (point_of sh (suc i)) t))
  row-share Ordering.eq t i a x il al = row-spread t (digits.group (group_size sh) i) a x (group_lt (group_size sh) (size-some sh bs) (groups sh) i il) al
  row-share Ordering.gt t i a x il al = row_one (rows sh) _ a x al ∙ ap (λ w. numbers.mul w (x a)) (number-power (point_of sh (suc i)) t)

module _ (sh : Shape) (bs : Bounds sh) (A : ℕ → ℕ → ℕ → ℕ → ℕ) (p : Matrices sh A) where
  -- row a of A(t, i) times column i
  share-printed : (C : Symbols) (t i a : ℕ) → i < sh.n → t < sh.r → a < rows sh
      → number (sum_below (rows sh) (λ b. mul (A t (suc i) a b) (C (suc i) b))) ≡ share (code sh) t i (stripe sh C i) a
  unfolding share
  share-printed C t i a il tl al =
      sum_tie (rows sh) _
      ∙ sum_ext numbers (rows sh) _ _
      (λ b l. number-mul _ _ ∙ ap (λ e. numbers.mul (number e) (number (C (suc i) b))) (printed-side sh bs A p t i a b il tl al l))
      ∙ row-share sh bs (side (group_size sh) a i) t i a (stripe sh C i) (omega (arith, il, nodes-least sh bs)) al

  -- where phantoms hold 0
  paper_equation : (C : Symbols) → ((i b : ℕ) → sh.n < i → C i b ≡ 0) → (t a : ℕ) → t < sh.r → a < rows sh
      → number (sum_to sh.n (λ i. sum_below (rows sh) (λ b. mul (A t i a b) (C i b)))) ≡ number (equation sh C a t)
  unfolding sum_to rows
  paper_equation C z t a tl al =
      sum_tie sh.n _
      ∙ sum_ext numbers sh.n _ _ (λ i l. share-printed C t i a l tl al)
      ∙ sym (equation-real (code sh) (house_lawful sh bs) sh.n (stripe sh C) a t (nodes-least sh bs) al
      (λ i b ni il bl. ap number (z (suc i) b (omega arith)) ∙ number-zero))
      ∙ sym (equation_tie sh bs C a t)

  paper_below : (C : Symbols) (t a : ℕ) → sum_to sh.n (λ i. sum_below (rows sh) (λ b. mul (A t i a b) (C i b))) < 256
  unfolding sum_to
  paper_below C t a = sum_below_lem sh.n _ (λ i l. sum_below_lem (rows sh) _ (λ b k. mul-below _ _))

  pub paper_sum : (bytes : List ℕ) (t a : ℕ) → t < sh.r → a < rows sh
      → sum_to sh.n (λ i. sum_below (rows sh) (λ b. mul (A t i a b) (symbol sh bytes i b))) ≡ equation sh (symbol sh bytes) a t
  paper_sum bytes t a tl al =
      number_injective _ _ (paper_below (symbol sh bytes) t a) (equation-below sh (symbol sh bytes) a t)
      (paper_equation (symbol sh bytes) (symbol-phantom sh bytes) t a tl al)

  pub paper→whole : (bytes : List ℕ) → Meets sh A (symbol sh bytes) → Whole sh bytes
  paper→whole bytes h a al t tl = sym (paper_sum bytes t a tl al) ∙ h t a tl al

  pub whole→paper : (bytes : List ℕ) → Whole sh bytes → Meets sh A (symbol sh bytes)
  whole→paper bytes h t a tl al = paper_sum bytes t a tl al ∙ h a al t tl

-- a stripe meets (3) with the printed matrices exactly when it is whole
pub paper_exactly : (sh : Shape) → shape_refusal sh ≡ none → (A : ℕ → ℕ → ℕ → ℕ → ℕ) → Matrices sh A → (stripe : List ℕ)
    → Meets sh A (symbol sh stripe) ↔ Whole sh stripe
paper_exactly sh taken A p stripe = (paper→whole sh (bounds sh taken) A p stripe, whole→paper sh (bounds sh taken) A p stripe)

-- Rebuilding one column, of bytes: theory's theorems in document 01's words. In order: what the rebuilder knows but for the column; the column is the only
-- one, and there is one; fractions laid end to end, and each found again; those cut out of a whole stripe give its column.
--   known sh f fractions == theory's stripe of the fractions, with 0 as the failed node's column
-- Theory's node f is document 01's node f + 1.
use mathlib.Core.Path.{◌≡◌, refl, sym, ap, ◌∙◌, fun_ext, subst}
use mathlib.Core.Bool.{Bool, true, false, cond, not, ◌&&◌, ◌||◌, and-true, and-false}
use mathlib.Core.List.{List, []}
use mathlib.Core.Logic.{◌↔◌}
use Prim.Native.Nat.{ℕ, zero, suc, ◌+◌, ◌-◌, ◌*◌, ◌<◌, ◌≤◌}
use native.Mathlib.Nat.{add-sub_of_le}
use native.Mathlib.Numerals.{add-one}
use native.Mathlib.Omega.{arith}
use lib.Arith.{lt_of_le-ne}
use lib.Dec.{leb, ltb, eqb}
use lib.ListN.{length, get_or}
use lib.Seq.{ext_get_or}
use borrow.Author.Tests.{ltb-true, ltb-false, leb-true, eqb-false, eq-eqb, ne_eqb, le-leb, not-true}
use Rattle.theory.specs.Code.{Code, Stripe, Lawful}
use Rattle.theory.specs.Code as codes
use Rattle.theory.specs.Read as reads
use Rattle.theory.specs.Set as sets
use Rattle.theory.specs.Whole as wholes
use Rattle.theory.proofs.Linearity.{equation_ext}
use Rattle.theory.proofs.Mates.{mate_node_lt, mate_row_lt}
use Rattle.theory.proofs.Counts.{count_remove, changed_case, changed-same, changed-other, count-zero, count-suc, count_ext, count-split}
use Rattle.theory.proofs.Rebuilding.{rebuilding-only, rebuilding_exists, column-meets}
use Rattle.field.proofs.Numbers.{numbers, number, value, value-below, number-value, number_injective}
use Rattle.rules.specs.declared.shapes.Shape.{Shape}
use Rattle.rules.specs.Shape.{group_size, groups, rows, phantom}
use Rattle.rules.specs.Stripe.{IsBytes, column, symbol}
use Rattle.rules.specs.Equation.{Whole}
use Rattle.rules.specs.Fraction.{is_read, rows_read, fraction_length, fraction, helpers, end_to_end, cut_all, helper_before, fraction_of, arrived, MeetsRead}
use Rattle.rules.specs.Rising.{rising, Listed}
use Rattle.rules.proofs.Checks.{both}
use Rattle.rules.proofs.Accepted.{Bounds, nodes-least}
use Rattle.rules.proofs.Risings.{listed→rising, length-rising, get_or_rising}
use Rattle.rules.proofs.Pieces.{flat_same, flat_length, flat_piece}
use Rattle.rules.proofs.RowsRead.{get_or-map, fraction-length}
use Rattle.rules.proofs.House.{code, stripe, house_lawful}
use Rattle.rules.proofs.Ties.{symbol-phantom, whole_tie, is-read_tie, arrived-other, meets-read_tie}
use Rattle.rules.proofs.Layouts.{symbol-column}
use Rattle.rules.proofs.Stripes.{tabulated, length-tabulated, get_or_tabulated}

abbrev known : (sh : Shape) → ℕ → List ℕ → Stripe (code sh)
known sh f fractions = stripe sh (arrived sh (suc f) fractions [])

module _ (sh : Shape) (b : Bounds sh) (f : ℕ) (fractions : List ℕ) where
  known-changed : (col : List ℕ) (x : ℕ → numbers.K)
      → sets.changed f x (stripe sh (arrived sh (suc f) fractions col)) ≡ sets.changed f x (known sh f fractions)
  known-changed col x =
      fun_ext (λ i.
      changed_case (λ y. y ≡ sets.changed f x (known sh f fractions) i) f x _ i
      (λ e. rw e (sym (changed-same f x (known sh f fractions))))
      (λ ne. fun_ext (λ a. ap number (arrived-other sh (suc f) fractions col [] (suc i) a (λ q. ne (omega (arith, q)))))
      ∙ sym (changed-other f x (known sh f fractions) i ne)))

  pub meets-known : (col : List ℕ)
      → MeetsRead sh (suc f) fractions col ↔ reads.MeetsRead (code sh) sh.r f (known sh f fractions) (λ a. number (get_or col a 0))
  unfolding rows
  meets-known col =
      subst (λ S. MeetsRead sh (suc f) fractions col ↔ ((a : ℕ) → a < rows sh → reads.IsRead (group_size sh) f a → wholes.MeetsRow (code sh) sh.r S a))
      (known-changed col (λ a. number (get_or col a 0)))
      (meets-read_tie sh b f fractions col)

-- of a column only the l symbols count
module _ (c : Code) (h : Lawful c) (k f : ℕ) (G : Stripe c) where
  meets-same : (C D : Stripe c) (a : ℕ) → wholes.Same c C D → a < codes.rows c → wholes.MeetsRow c k C a → wholes.MeetsRow c k D a
  meets-same C D a same al w t l =
      sym (equation_ext c C D a t (λ i il. same i a il al)
      (λ i il. same _ _ (mate_node_lt c.s h.some-place c.m a i il) (mate_row_lt c.s h.some-place c.m a i il al)))
      ∙ w t l

  changed-column : (x y : ℕ → c.field.K) → ((a : ℕ) → a < codes.rows c → x a ≡ y a) → wholes.Same c (sets.changed f x G) (sets.changed f y G)
  changed-column x y same i a il al =
      changed_case (λ z. z a ≡ sets.changed f y G i a) f x G i
      (λ e. rw e (same a al ∙ sym (ap (λ z. z a) (changed-same f y G))))
      (λ ne. sym (ap (λ z. z a) (changed-other f y G i ne)))

  meets-read-same : (x y : ℕ → c.field.K) → ((a : ℕ) → a < codes.rows c → x a ≡ y a) → reads.MeetsRead c k f G x → reads.MeetsRead c k f G y
  meets-read-same x y same w a al read = meets-same _ _ a (changed-column x y same) al (w a al read)

module _ (sh : Shape) (b : Bounds sh) where
  node-below : (f : ℕ) → suc f ≤ sh.n → f < groups sh * group_size sh
  node-below f k = omega (arith, k, nodes-least sh b)

  -- "the one column that, with them, meets the equations of every row with a_v = u"
  pub rebuilt-only : (f : ℕ) → 1 ≤ f → f ≤ sh.n → (fractions x y : List ℕ) → IsBytes (rows sh) x → IsBytes (rows sh) y
      → MeetsRead sh f fractions x → MeetsRead sh f fractions y → x ≡ y
  unfolding rows group_size
  rebuilt-only zero h k fractions x y bx by v w = absurd (omega arith)
  rebuilt-only (suc f) h k fractions x y bx by v w =
      ext_get_or 0 x y (bx.exact ∙ sym by.exact)
      (λ a l. let al : a < rows sh = omega (arith, l, bx.exact) in
      number_injective _ _ (bx.bytes a al) (by.bytes a al)
      (rebuilding-only (code sh) (house_lawful sh b) f (node-below f k) (known sh f fractions) (λ a. number (get_or x a 0)) (λ a. number (get_or y a 0))
      ((meets-known sh b f fractions x).0 v) ((meets-known sh b f fractions y).0 w) a al))

  -- there is one, "For all fractions"
  pub rebuilt_exists : (f : ℕ) → 1 ≤ f → f ≤ sh.n → (fractions : List ℕ) → (col : List ℕ) × IsBytes (rows sh) col × MeetsRead sh f fractions col
  unfolding rows group_size
  rebuilt_exists zero h k fractions = absurd (omega arith)
  rebuilt_exists (suc f) h k fractions =
      let (x, w) = rebuilding_exists (code sh) (house_lawful sh b) f (node-below f k) (known sh f fractions) in (
        column_of x,
        record {
          exact = length-tabulated (rows sh) _;
          bytes = λ a l. rw (get_or_tabulated (rows sh) (λ a. value (x a)) a l) (value-below (x a));
        },
        (meets-known sh b f fractions (column_of x)).1
            (meets-read-same (code sh) (house_lawful sh b) sh.r f (known sh f fractions) x (λ a. number (get_or (column_of x) a 0))
            (λ a l. sym (ap number (get_or_tabulated (rows sh) (λ a. value (x a)) a l) ∙ number-value (x a))) w),
      )
    where
      column_of : (ℕ → numbers.K) → List ℕ
      column_of x = tabulated (rows sh) (λ a. value (x a))

abbrev helps : ℕ → ℕ → Bool
helps f i = leb 1 i && not (eqb i f)

helps-true : (f i : ℕ) → 1 ≤ i → (i ≡ f → ⊥) → helps f i ≡ true
helps-true f i h ne = rw (le-leb 1 i h, ne_eqb i f ne)

helps-says : (f i : ℕ) → helps f i ≡ true → (1 ≤ i) × (i ≡ f → ⊥)
helps-says f i e =
    let (from-1, other) = both (leb 1 i) (not (eqb i f)) e in
    (leb-true 1 i from-1, eqb-false i f (not-true (eqb i f) other))

-- nodes from 1 on
nodes-count : (i : ℕ) → sets.count (suc i) (leb 1) ≡ i
nodes-count zero = count-suc 0 (leb 1) ∙ ap (λ (n : ℕ). n + 0) (count-zero (leb 1))
nodes-count (suc i) = simp (count-suc (suc i), nodes-count i, le-leb 1 (suc i) (omega arith)) (omega arith)

helps-before : (f i : ℕ) → i ≤ f → sets.count i (helps f) ≡ sets.count i (leb 1)
helps-before f i h = count_ext i (helps f) (leb 1) (λ j l. rw (ne_eqb j f (omega arith)) (and-true (leb 1 j)))

helps-after : (f i : ℕ) → 1 ≤ f → f < i → sets.count i (leb 1) ≡ suc (sets.count i (helps f))
helps-after f i h l =
    count_remove i f (leb 1) l (le-leb 1 f h) ∙ ap suc (count_ext i (sets.without f (leb 1)) (helps f) (λ j m. same j))
  where
    same : (j : ℕ) → sets.without f (leb 1) j ≡ helps f j
    same j =
        changed_case (λ c. c ≡ helps f j) f false (leb 1) j
        (λ e. sym (rw (eq-eqb j f e) (and-false (leb 1 j))))
        (λ ne. sym (rw (ne_eqb j f ne) (and-true (leb 1 j))))

helper_before_lem : (f i : ℕ) → 1 ≤ f → 1 ≤ i → (i ≡ f → ⊥) → sets.count i (helps f) ≡ helper_before f i
unfolding helper_before
helper_before_lem f zero hf hi ne = absurd (omega arith)
helper_before_lem f (suc i) hf hi ne = go (ltb (suc i) f) refl
  where
    go : (c : Bool) → ltb (suc i) f ≡ c → sets.count (suc i) (helps f) ≡ cond c (suc i - 1) (suc i - 2)
    go true e = omega (arith, helps-before f (suc i) (omega (arith, ltb-true (suc i) f e)), nodes-count i)
    go false e = omega (arith, helps-after f (suc i) hf (lt_of_le-ne (ltb-false (suc i) f e) (λ q. ne (sym q))), nodes-count i)

module _ (sh : Shape) (f : ℕ) (first : 1 ≤ f) (last : f ≤ sh.n) where
  pub helper_is : (i : ℕ) → Listed i (helpers sh f) → (1 ≤ i) × (i ≤ sh.n) × (i ≡ f → ⊥)
  unfolding helpers
  helper_is i l =
      let (below, e) = listed→rising (sh.n + 1) (helps f) i l in
      let (h, ne) = helps-says f i e in (h, omega (arith, below), ne)

  helpers-length : length (helpers sh f) ≡ sh.n - 1
  unfolding helpers
  helpers-length =
      length-rising (sh.n + 1) (helps f)
      ∙ omega (arith, last, helps-after f (sh.n + 1) first (omega (arith, last)), ap (λ k. sets.count k (leb 1)) (add-one sh.n), nodes-count sh.n)

  helper_at_lem : (i : ℕ) → 1 ≤ i → i ≤ sh.n → (i ≡ f → ⊥) → get_or (helpers sh f) (helper_before f i) 0 ≡ i
  unfolding helpers
  helper_at_lem i h k ne =
      ap (λ j. get_or (helpers sh f) j 0) (sym (helper_before_lem f i first h ne))
      ∙ get_or_rising (sh.n + 1) (helps f) i (omega (arith, k)) (helps-true f i h ne)

  -- as many come before as there are, less one at least
  helper_room : (i : ℕ) → 1 ≤ i → i ≤ sh.n → (i ≡ f → ⊥) → helper_before f i < sh.n - 1
  unfolding helper_before
  helper_room i h k ne = go (ltb i f) refl
    where
      go : (c : Bool) → ltb i f ≡ c → cond c (i - 1) (i - 2) < sh.n - 1
      go true e = omega (arith, ltb-true i f e, last, h)
      go false e = omega (arith, lt_of_le-ne (ltb-false i f e) (λ q. ne (sym q)), k, first)

  module _ (parts : ℕ → List ℕ) (long : (i : ℕ) → 1 ≤ i → i ≤ sh.n → (i ≡ f → ⊥) → length (parts i) ≡ fraction_length sh) where
    listed-long : (i : ℕ) → Listed i (helpers sh f) → length (parts i) ≡ fraction_length sh
    listed-long i l = let (h, k, ne) = helper_is i l in long i h k ne

    -- each is found again
    pub fraction_of_lem : (i : ℕ) → 1 ≤ i → i ≤ sh.n → (i ≡ f → ⊥) → fraction_of sh f (end_to_end sh f parts) i ≡ parts i
    unfolding fraction_of end_to_end
    fraction_of_lem i h k ne =
        flat_piece (fraction_length sh) parts (helpers sh f) listed-long (helper_before f i) (omega (arith, helpers-length, helper_room i h k ne))
        ∙ ap parts (helper_at_lem i h k ne)

    pub end_to_end-length : length (end_to_end sh f parts) ≡ (sh.n - 1) * fraction_length sh
    unfolding end_to_end
    end_to_end-length = flat_length (fraction_length sh) parts (helpers sh f) listed-long ∙ ap (λ k. k * fraction_length sh) helpers-length

  pub end_to_end-same : (parts others : ℕ → List ℕ) → ((i : ℕ) → 1 ≤ i → i ≤ sh.n → (i ≡ f → ⊥) → parts i ≡ others i)
      → end_to_end sh f parts ≡ end_to_end sh f others
  unfolding end_to_end
  end_to_end-same parts others same =
      flat_same parts others (helpers sh f) (λ i l. let (h, k, ne) = helper_is i l in same i h k ne)

-- fewer numbers pass below one that does than below n
count_passed : (n a : ℕ) (L : ℕ → Bool) → a < n → L a ≡ true → sets.count a L < sets.count n L
count_passed n a L h e =
    omega (
      arith,
      ap (λ k. sets.count k L) (sym (add-sub_of_le h)) ∙ count-split (suc a) (n - suc a) L,
      count-suc a L ∙ ap (λ c. sets.count a L + sets.one_if c) e,
    )

-- the byte of a fraction that was cut at row a
fraction-byte : (sh : Shape) (f : ℕ) (col : List ℕ) (a : ℕ) → a < rows sh → is_read sh f a ≡ true
    → get_or (fraction sh f col) (length (rising a (is_read sh f))) 0 ≡ get_or col a 0
unfolding fraction rows_read
fraction-byte sh f col a l e =
    get_or-map (λ x. get_or col x 0) (rising (rows sh) (is_read sh f)) (length (rising a (is_read sh f))) 0 0
    (rw (length-rising a (is_read sh f), length-rising (rows sh) (is_read sh f)) (count_passed (rows sh) a (is_read sh f) l e))
    ∙ ap (λ x. get_or col x 0) (ap (λ j. get_or (rising (rows sh) (is_read sh f)) j 0) (length-rising a (is_read sh f)) ∙ get_or_rising (rows sh) (is_read sh f) a l e)

module _ (sh : Shape) (b : Bounds sh) (f : ℕ) (last : suc f ≤ sh.n) (bytes : List ℕ) where
  abbrev cut : ℕ → List ℕ
  cut i = fraction sh (suc f) (column sh bytes i)

  cut-long : (i : ℕ) → 1 ≤ i → i ≤ sh.n → (i ≡ suc f → ⊥) → length (cut i) ≡ fraction_length sh
  cut-long i h k ne = fraction-length sh b (suc f) (omega arith) last (column sh bytes i)

  -- of a node other than f, at a row read, what arrives is its symbol
  cut-arrived : (i a : ℕ) → (i ≡ f → ⊥) → a < rows sh → is_read sh (suc f) a ≡ true
      → symbol sh bytes (suc i) a ≡ arrived sh (suc f) (cut_all sh (suc f) bytes) [] (suc i) a
  unfolding arrived cut_all phantom
  cut-arrived i a ne l read = rw (ne_eqb (suc i) (suc f) (λ q. ne (omega (arith, q))), read) (go (ltb sh.n (suc i)) refl)
    where
      go : (c : Bool) → ltb sh.n (suc i) ≡ c
          → symbol sh bytes (suc i) a
          ≡ cond (c || false) 0 (get_or (fraction_of sh (suc f) (end_to_end sh (suc f) cut) (suc i)) (length (rising a (is_read sh (suc f)))) 0)
      go true e = symbol-phantom sh bytes (suc i) a (ltb-true sh.n (suc i) e)
      go false e =
          let k : suc i ≤ sh.n = ltb-false sh.n (suc i) e in
          symbol-column sh bytes (suc i) a k l
          ∙ sym (fraction-byte sh (suc f) (column sh bytes (suc i)) a l read)
          ∙ ap (λ z. get_or z (length (rising a (is_read sh (suc f)))) 0)
          (sym (fraction_of_lem sh (suc f) (omega arith) last cut cut-long (suc i) (omega arith) k (λ q. ne (omega (arith, q)))))

  cut-column : Whole sh bytes → MeetsRead sh (suc f) (cut_all sh (suc f) bytes) (column sh bytes (suc f))
  unfolding rows
  cut-column w =
      (meets-known sh b f (cut_all sh (suc f) bytes) (column sh bytes (suc f))).1
      (meets-read-same (code sh) (house_lawful sh b) sh.r f (known sh f (cut_all sh (suc f) bytes)) (stripe sh (symbol sh bytes) f) _
      (λ a l. ap number (symbol-column sh bytes (suc f) a last l))
      (column-meets (code sh) (house_lawful sh b) f (node-below sh b f last) (known sh f (cut_all sh (suc f) bytes)) sh.r (stripe sh (symbol sh bytes))
      (λ i a il al read ne. ap number (cut-arrived i a ne al ((is-read_tie sh b f a).1 read)))
      (λ a al read. (whole_tie sh b bytes).0 w a al)))

-- "Rebuilding one column from fractions cut out of a whole stripe gives that column": it meets what a rebuilt column must, and by `rebuilt-only` no other does
pub cut-rebuilt : (sh : Shape) → Bounds sh → (f : ℕ) → 1 ≤ f → f ≤ sh.n → (bytes : List ℕ) → Whole sh bytes
    → MeetsRead sh f (cut_all sh f bytes) (column sh bytes f)
cut-rebuilt sh b zero h k bytes w = absurd (omega arith)
cut-rebuilt sh b (suc f) h k bytes w = cut-column sh b f k bytes w

pub cut-all-length : (sh : Shape) → Bounds sh → (f : ℕ) → 1 ≤ f → f ≤ sh.n → (bytes : List ℕ)
    → length (cut_all sh f bytes) ≡ (sh.n - 1) * fraction_length sh
unfolding cut_all
cut-all-length sh b f h k bytes = end_to_end-length sh f h k _ (λ i x y ne. fraction-length sh b f h k (column sh bytes i))

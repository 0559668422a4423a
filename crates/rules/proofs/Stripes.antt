-- Stripes of bytes by their symbols, and lists made from functions. In order: a list of the values of a function; a byte's node and row; two lists of
-- columns that agree; two stripes with the same symbols; two columns; a stripe made from one of theory's; sums and multiples byte by byte.
--   tabulated n f == f 0, f 1, .., f (n − 1)
--   made sh D     == the n × l bytes that are the symbols of theory's stripe D
-- Nodes count from 0 here, as in theory: node i is document 01's node i + 1.
use mathlib.Core.Path.{◌≡◌, refl, sym, ap, ap₂, ◌∙◌, subst}
use mathlib.Core.Bool.{Bool, true, false, cond}
use mathlib.Core.List.{List, [], ◌∷◌, map, zip_with}
use Prim.Native.Nat.{ℕ, zero, suc, ◌+◌, ◌*◌, ◌/◌, ◌%◌, ◌<◌, ◌≤◌}
use native.Mathlib.Nat.{mod-lt, div-add-mod', div-lt_iff_lt-mul, suc_inj, suc-ne-zero}
use native.Mathlib.Omega.{arith}
use native.Mathlib.Decide.{dec_le}
use lib.Arith.{digits_lt, digits_div, digits_mod}
use lib.ListN.{length, get_or, length-map}
use lib.Seq.{ext_get_or}
use Rattle.theory.specs.Code.{Stripe, plus, scaled}
use Rattle.theory.specs.Whole.{Same}
use Rattle.theory.proofs.Counts.{count-all}
use Rattle.field.specs.Number.{add, mul}
use Rattle.field.proofs.Xor.{add-below, add-zero}
use Rattle.field.proofs.Product.{mul-below, mul-zero}
use Rattle.field.proofs.Numbers.{numbers, number, value, value-below, number-value, number-zero, number-add, number-mul, number_injective}
use Rattle.rules.specs.declared.shapes.Shape.{Shape}
use Rattle.rules.specs.Rising.{up_to}
use Rattle.rules.specs.Shape.{rows, phantom}
use Rattle.rules.specs.Stripe.{IsBytes, stripe_length, column_start, column, symbol, plus_bytes, times_bytes}
use Rattle.rules.proofs.Accepted.{Bounds, nodes-least}
use Rattle.rules.proofs.Risings.{length-rising, get_or_rising}
use Rattle.rules.proofs.RowsRead.{get_or-map}
use Rattle.rules.proofs.House.{code, stripe}
use Rattle.rules.proofs.Ties.{symbol-phantom}
use Rattle.rules.proofs.Layouts.{symbol-byte, column-length, symbol-column}

unfoldable pub tabulated : ℕ → (ℕ → ℕ) → List ℕ
tabulated n f = map f (up_to n)

pub length-tabulated : (n : ℕ) (f : ℕ → ℕ) → length (tabulated n f) ≡ n
unfolding tabulated
length-tabulated n f = length-map (up_to n) f ∙ length-rising n (λ a. true) ∙ count-all n (λ a. true) (λ i l. refl)

pub get_or_tabulated : (n : ℕ) (f : ℕ → ℕ) (k : ℕ) → k < n → get_or (tabulated n f) k 0 ≡ f k
unfolding tabulated
get_or_tabulated n f k h =
    get_or-map f (up_to n) k 0 0 (omega (arith, length-rising n (λ a. true), count-all n (λ a. true) (λ i l. refl)))
    ∙ ap f (ap (λ j. get_or (up_to n) j 0) (sym (count-all k (λ a. true) (λ i l. refl))) ∙ get_or_rising n (λ a. true) k h refl)

some-row : (k n l : ℕ) → k < n * l → 0 < l
some-row k n zero h = absurd (omega arith)
some-row k n (suc l) h = omega arith

-- a byte of a stripe has a node and a row
pub byte-node : (n l k : ℕ) → k < n * l → k / l < n
byte-node n l k h = (div-lt_iff_lt-mul (some-row k n l h)).1 h

pub byte-row : (n l k : ℕ) → k < n * l → k % l < l
byte-row n l k h = mod-lt k (some-row k n l h)

-- two lists of r columns of length l that agree at row a of every column t are equal
pub by_columns : (r l : ℕ) (x y : List ℕ) → length x ≡ r * l → length y ≡ r * l
    → ((t a : ℕ) → t < r → a < l → get_or x (t * l + a) 0 ≡ get_or y (t * l + a) 0) → x ≡ y
by_columns r l x y ex ey same =
    ext_get_or 0 x y (ex ∙ sym ey)
    (λ k h. let kl : k < r * l = omega (arith, h, ex) in
    subst (λ j. get_or x j 0 ≡ get_or y j 0) (div-add-mod' k l) (same (k / l) (k % l) (byte-node r l k kl) (byte-row r l k kl)))

module _ (sh : Shape) where
  pub symbol-at : (list : List ℕ) (i a : ℕ) → i < sh.n → symbol sh list (suc i) a ≡ get_or list (i * rows sh + a) 0
  unfolding column_start
  symbol-at list i a h = symbol-byte sh list (suc i) a h ∙ ap (λ j. get_or list (j * rows sh + a) 0) (omega arith)

  -- byte k of a stripe is a symbol
  pub byte-symbol : (list : List ℕ) (k : ℕ) → k < stripe_length sh → get_or list k 0 ≡ symbol sh list (suc (k / rows sh)) (k % rows sh)
  unfolding stripe_length
  byte-symbol list k h =
      ap (λ j. get_or list j 0) (sym (div-add-mod' k (rows sh))) ∙ sym (symbol-at list (k / rows sh) (k % rows sh) (byte-node sh.n (rows sh) k h))

  pub symbol-below : (list : List ℕ) → IsBytes (stripe_length sh) list → (i a : ℕ) → i < sh.n → a < rows sh → symbol sh list (suc i) a < 256
  unfolding stripe_length
  symbol-below list b i a h l = rw (symbol-at list i a h) (b.bytes (i * rows sh + a) (digits_lt h l))

  pub same_symbols : (x y : List ℕ) → length x ≡ stripe_length sh → length y ≡ stripe_length sh
      → ((i a : ℕ) → i < sh.n → a < rows sh → symbol sh x (suc i) a ≡ symbol sh y (suc i) a) → x ≡ y
  unfolding stripe_length
  same_symbols x y ex ey same =
      by_columns sh.n (rows sh) x y ex ey (λ i a h l. sym (symbol-at x i a h) ∙ same i a h l ∙ symbol-at y i a h)

  pub same-column : (x y : List ℕ) (i : ℕ) → length x ≡ stripe_length sh → length y ≡ stripe_length sh → i < sh.n
      → ((a : ℕ) → a < rows sh → symbol sh x (suc i) a ≡ symbol sh y (suc i) a) → column sh x (suc i) ≡ column sh y (suc i)
  same-column x y i ex ey h same =
      ext_get_or 0 (column sh x (suc i)) (column sh y (suc i)) (long x ex ∙ sym (long y ey))
      (λ a l. let al : a < rows sh = omega (arith, l, long x ex) in
      sym (symbol-column sh x (suc i) a h al) ∙ same a al ∙ symbol-column sh y (suc i) a h al)
    where
      long : (z : List ℕ) → length z ≡ stripe_length sh → length (column sh z (suc i)) ≡ rows sh
      long z e = column-length sh z (suc i) e (omega arith) h

  pub column-same : (x y : List ℕ) (i : ℕ) → i < sh.n → column sh x (suc i) ≡ column sh y (suc i)
      → (a : ℕ) → a < rows sh → symbol sh x (suc i) a ≡ symbol sh y (suc i) a
  column-same x y i h e a l = symbol-column sh x (suc i) a h l ∙ ap (λ c. get_or c a 0) e ∙ sym (symbol-column sh y (suc i) a h l)

-- two stripes of bytes that are the same stripe of theory's
pub same-stripes : (sh : Shape) → Bounds sh → (x y : List ℕ) → IsBytes (stripe_length sh) x → IsBytes (stripe_length sh) y
    → Same (code sh) (stripe sh (symbol sh x)) (stripe sh (symbol sh y)) → x ≡ y
unfolding rows
same-stripes sh b x y bx by same =
    same_symbols sh x y bx.exact by.exact
    (λ i a h l. number_injective _ _ (symbol-below sh x bx i a h l) (symbol-below sh y by i a h l)
    (same i a (omega (arith, h, nodes-least sh b)) l))

unfoldable pub made : (sh : Shape) → Stripe (code sh) → List ℕ
made sh D = tabulated (stripe_length sh) (λ k. value (D (k / rows sh) (k % rows sh)))

module _ (sh : Shape) (D : Stripe (code sh)) where
  pub made_bytes : IsBytes (stripe_length sh) (made sh D)
  unfolding made
  made_bytes = record {
    exact = length-tabulated (stripe_length sh) _;
    bytes = λ k h. rw (get_or_tabulated (stripe_length sh) (λ k. value (D (k / rows sh) (k % rows sh))) k h) (value-below _);
  }

  pub made-symbol : (i a : ℕ) → i < sh.n → a < rows sh → symbol sh (made sh D) (suc i) a ≡ value (D i a)
  unfolding made stripe_length
  made-symbol i a h l =
      symbol-at sh (made sh D) i a h
      ∙ get_or_tabulated (stripe_length sh) _ (i * rows sh + a) (digits_lt h l)
      ∙ ap₂ (λ j b. value (D j b)) (digits_div i l) (digits_mod i l)

  -- it is D, where D is 0 at the phantoms
  pub made-same : (i a : ℕ) → a < rows sh → (sh.n ≤ i → D i a ≡ numbers.zero) → stripe sh (symbol sh (made sh D)) i a ≡ D i a
  made-same i a l phantom = go (dec_le (suc i) sh.n)
    where
      go : Dec (suc i ≤ sh.n) → stripe sh (symbol sh (made sh D)) i a ≡ D i a
      go (yes h) = ap number (made-symbol i a h l) ∙ number-value (D i a)
      go (no h) = ap number (symbol-phantom sh (made sh D) (suc i) a (omega arith)) ∙ number-zero ∙ sym (phantom (omega arith))

length-plus : (x y : List ℕ) → length x ≡ length y → length (plus_bytes x y) ≡ length x
unfolding plus_bytes zip_with
length-plus [] y e = refl
length-plus (c ∷ x) [] e = absurd (suc-ne-zero (length x) e)
length-plus (c ∷ x) (d ∷ y) e = ap suc (length-plus x y (suc_inj e))

get_or_plus : (x y : List ℕ) → length x ≡ length y → (k : ℕ) → get_or (plus_bytes x y) k 0 ≡ add (get_or x k 0) (get_or y k 0)
unfolding plus_bytes zip_with
get_or_plus [] [] e k = sym (add-zero 0)
get_or_plus [] (d ∷ y) e k = absurd (suc-ne-zero (length y) (sym e))
get_or_plus (c ∷ x) [] e k = absurd (suc-ne-zero (length x) e)
get_or_plus (c ∷ x) (d ∷ y) e zero = refl
get_or_plus (c ∷ x) (d ∷ y) e (suc k) = get_or_plus x y (suc_inj e) k

get_or_times : (c : ℕ) (x : List ℕ) (k : ℕ) → get_or (times_bytes c x) k 0 ≡ mul c (get_or x k 0)
unfolding times_bytes
get_or_times c [] k = sym (mul-zero c)
get_or_times c (d ∷ x) zero = refl
get_or_times c (d ∷ x) (suc k) = get_or_times c x k

pub plus-bytes : (n : ℕ) (x y : List ℕ) → IsBytes n x → IsBytes n y → IsBytes n (plus_bytes x y)
plus-bytes n x y bx by = record {
  exact = length-plus x y (bx.exact ∙ sym by.exact) ∙ bx.exact;
  bytes = λ k h. rw (get_or_plus x y (bx.exact ∙ sym by.exact) k) (add-below 8 (get_or x k 0) (get_or y k 0) (bx.bytes k h) (by.bytes k h));
}

pub times-bytes : (n c : ℕ) (x : List ℕ) → IsBytes n x → IsBytes n (times_bytes c x)
unfolding times_bytes
times-bytes n c x bx = record { exact = length-map x (mul c) ∙ bx.exact; bytes = λ k h. rw (get_or_times c x k) (mul-below c (get_or x k 0)) }

module _ (sh : Shape) (x y : List ℕ) where
  pub plus-symbol : length x ≡ length y → (i a : ℕ) → symbol sh (plus_bytes x y) i a ≡ add (symbol sh x i a) (symbol sh y i a)
  unfolding symbol
  plus-symbol e i a = go (phantom sh i)
    where
      go : (b : Bool) → cond b 0 (get_or (plus_bytes x y) (column_start sh i + a) 0)
          ≡ add (cond b 0 (get_or x (column_start sh i + a) 0)) (cond b 0 (get_or y (column_start sh i + a) 0))
      go true = sym (add-zero 0)
      go false = get_or_plus x y e (column_start sh i + a)

  pub plus-stripe : length x ≡ length y → (i a : ℕ)
      → stripe sh (symbol sh (plus_bytes x y)) i a ≡ plus (code sh) (stripe sh (symbol sh x)) (stripe sh (symbol sh y)) i a
  plus-stripe e i a = ap number (plus-symbol e (suc i) a) ∙ number-add _ _

module _ (sh : Shape) (c : ℕ) (x : List ℕ) where
  pub times-symbol : (i a : ℕ) → symbol sh (times_bytes c x) i a ≡ mul c (symbol sh x i a)
  unfolding symbol
  times-symbol i a = go (phantom sh i)
    where
      go : (b : Bool) → cond b 0 (get_or (times_bytes c x) (column_start sh i + a) 0) ≡ mul c (cond b 0 (get_or x (column_start sh i + a) 0))
      go true = sym (mul-zero c)
      go false = get_or_times c x (column_start sh i + a)

  pub times-stripe : (i a : ℕ) → stripe sh (symbol sh (times_bytes c x)) i a ≡ scaled (code sh) (number c) (stripe sh (symbol sh x)) i a
  times-stripe i a = ap number (times-symbol (suc i) a) ∙ number-mul c _

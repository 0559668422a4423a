-- Filling lost columns, of stripes of bytes: theory's theorems in document 01's words. In order: `Filled` is theory's `Fills`, from the bytes and to them;
-- only the survivors count, and of the set only the nodes 1 to n; a set inside another; at most one stripe is filled in, and with r lost there is one; parity
-- columns; sums and multiples.
--   OnNodes sh P == P holds of the nodes 1 to n
use mathlib.Core.Path.{◌≡◌, refl, sym, ap, ap₂, ◌∙◌}
use mathlib.Core.Bool.{Bool, true, false, true≢false}
use mathlib.Core.List.{List, ◌++◌, append_cancel_left}
use Prim.Native.Nat.{ℕ, zero, suc, ◌+◌, ◌*◌, ◌<◌, ◌≤◌}
use native.Mathlib.Omega.{arith}
use native.Mathlib.Decide.{dec_le}
use lib.Arith.{digits_lt}
use lib.ListN.{length, get_or, get_or-append}
use borrow.Author.Tests.{ltb-false}
use Rattle.theory.specs.Code.{Stripe, plus, scaled}
use Rattle.theory.specs.Whole.{Same, Fills}
use Rattle.theory.proofs.Filling.{whole_same, fills-only, filling_exists}
use Rattle.theory.proofs.Linearity.{whole-add, whole_scaled}
use Rattle.field.specs.Number.{add, mul}
use Rattle.field.proofs.Numbers.{number, number-zero, number_injective}
use Rattle.rules.specs.declared.shapes.Shape.{Shape}
use Rattle.rules.specs.Shape.{rows, data_nodes}
use Rattle.rules.specs.Stripe.{IsBytes, stripe_length, data_length, column, symbol, plus_bytes, times_bytes}
use Rattle.rules.specs.Equation.{Whole}
use Rattle.rules.specs.Lost.{is_parity, Filled}
use Rattle.rules.proofs.Accepted.{Bounds, nodes-least}
use Rattle.rules.proofs.House.{code, stripe, house_lawful}
use Rattle.rules.proofs.Ties.{symbol-phantom, whole_tie}
use Rattle.rules.proofs.LostSets.{lost_among, parity_among, real, real_in, real-out, real-count}
use Rattle.rules.proofs.Stripes.{symbol-at, symbol-below, same-column, column-same, same-stripes, made, made_bytes, made-same}
use Rattle.rules.proofs.Stripes.{plus-bytes, times-bytes, plus-symbol, times-symbol, plus-stripe, times-stripe}

abbrev pub OnNodes : Shape → (ℕ → Type 0) → Type 0
OnNodes sh P = (i : ℕ) → 1 ≤ i → i ≤ sh.n → P i

-- nodes by theory's count
from_zero : (sh : Shape) (P : ℕ → Type 0) → ((i : ℕ) → suc i ≤ sh.n → P (suc i)) → OnNodes sh P
from_zero sh P h zero l k = absurd (omega arith)
from_zero sh P h (suc i) l k = h i k

module _ (sh : Shape) (b : Bounds sh) (L : ℕ → Bool) (before later : List ℕ) where
  pub filled→fills : Filled sh L before later → Fills (code sh) sh.r (real sh L) (stripe sh (symbol sh before)) (stripe sh (symbol sh later))
  unfolding rows
  filled→fills f = record { whole = (whole_tie sh b later).0 f.whole; kept = λ i a il al out. ap number (kept i a al out (dec_le (suc i) sh.n)) }
    where
      kept : (i a : ℕ) → suc a ≤ rows sh → real sh L i ≡ false → Dec (suc i ≤ sh.n) → symbol sh before (suc i) a ≡ symbol sh later (suc i) a
      kept i a al out (yes h) =
          sym (column-same sh later before i h (f.survivors (suc i) (omega arith) h (sym (real_in sh L i h) ∙ out)) a al)
      kept i a al out (no h) = symbol-phantom sh before (suc i) a (omega arith) ∙ sym (symbol-phantom sh later (suc i) a (omega arith))

  -- the other way: the bytes written are the symbols of a stripe D that fills
  pub fills→filled : IsBytes (stripe_length sh) before → IsBytes (stripe_length sh) later → (D : Stripe (code sh))
      → Same (code sh) D (stripe sh (symbol sh later)) → Fills (code sh) sh.r (real sh L) (stripe sh (symbol sh before)) D → Filled sh L before later
  unfolding rows
  fills→filled bb bl D same f = record {
    bytes = bl;
    survivors = from_zero sh (λ i. L i ≡ false → column sh later i ≡ column sh before i) (λ i h out.
        same-column sh later before i bl.exact bb.exact h (λ a al.
        number_injective _ _ (symbol-below sh later bl i a h al) (symbol-below sh before bb i a h al)
        (sym (f.kept i a (omega (arith, h, nodes-least sh b)) al (real_in sh L i h ∙ out) ∙ same i a (omega (arith, h, nodes-least sh b)) al))));
    whole = (whole_tie sh b later).1 (whole_same (code sh) (house_lawful sh b) sh.r D (stripe sh (symbol sh later)) same f.whole);
  }

-- "What they held before has no influence": only the survivors' columns count
pub filled-same-survivors : (sh : Shape) (L : ℕ → Bool) (before other later : List ℕ)
    → OnNodes sh (λ i. L i ≡ false → column sh before i ≡ column sh other i) → Filled sh L before later → Filled sh L other later
filled-same-survivors sh L before other later same f = record {
  bytes = f.bytes;
  survivors = λ i h k out. f.survivors i h k out ∙ same i h k out;
  whole = f.whole;
}

-- a set inside another, among the nodes 1 to n: what fills the smaller fills the greater
pub filled-wider : (sh : Shape) (L M : ℕ → Bool) (before later : List ℕ)
    → OnNodes sh (λ i. L i ≡ true → M i ≡ true) → Filled sh L before later → Filled sh M before later
filled-wider sh L M before later inside f = record {
  bytes = f.bytes;
  survivors = λ i h k out. f.survivors i h k (outside i h k out (L i) refl);
  whole = f.whole;
}
  where
    outside : (i : ℕ) → 1 ≤ i → i ≤ sh.n → M i ≡ false → (c : Bool) → L i ≡ c → L i ≡ false
    outside i h k out false e = e
    outside i h k out true e = absurd (true≢false (sym (inside i h k e) ∙ out))

pub filled-same-set : (sh : Shape) (L M : ℕ → Bool) (before later : List ℕ)
    → OnNodes sh (λ i. L i ≡ M i) → Filled sh L before later → Filled sh M before later
filled-same-set sh L M before later same = filled-wider sh L M before later (λ i h k e. sym (same i h k) ∙ e)

-- and what fills the greater fills the smaller, where it has the columns between the two
pub filled-agrees : (sh : Shape) (L M : ℕ → Bool) (before later : List ℕ)
    → OnNodes sh (λ i. L i ≡ false → M i ≡ true → column sh later i ≡ column sh before i) → Filled sh M before later → Filled sh L before later
filled-agrees sh L M before later between f = record {
  bytes = f.bytes;
  survivors = λ i h k out. go i h k out (M i) refl;
  whole = f.whole;
}
  where
    go : (i : ℕ) → 1 ≤ i → i ≤ sh.n → L i ≡ false → (c : Bool) → M i ≡ c → column sh later i ≡ column sh before i
    go i h k out true e = between i h k out e
    go i h k out false e = f.survivors i h k e

module _ (sh : Shape) (b : Bounds sh) (L : ℕ → Bool) where
  -- "That stripe is then the only one": with at most r lost
  pub filled-only : lost_among sh L ≤ sh.r → (before x y : List ℕ) → Filled sh L before x → Filled sh L before y → x ≡ y
  filled-only few before x y f g =
      same-stripes sh b x y f.bytes g.bytes
      (fills-only (code sh) (house_lawful sh b) sh.r (real sh L) (stripe sh (symbol sh before)) (stripe sh (symbol sh x)) (stripe sh (symbol sh y))
      (omega (arith, few, real-count sh b L)) (filled→fills sh b L before x f) (filled→fills sh b L before y g))

  -- with exactly r lost there is one, with the survivors' bytes chosen freely
  pub filled_exists : lost_among sh L ≡ sh.r → (before : List ℕ) → IsBytes (stripe_length sh) before → (later : List ℕ) × Filled sh L before later
  unfolding rows
  filled_exists exact before bb =
      let (D, f) = filling_exists (code sh) (house_lawful sh b) sh.r (real sh L) (stripe sh (symbol sh before)) (real-count sh b L ∙ exact) in
      (made sh D, fills→filled sh b L before (made sh D) bb (made_bytes sh D) D (made-is D f) f)
    where
      -- phantoms are survivors, and hold 0
      made-is : (D : Stripe (code sh)) → Fills (code sh) sh.r (real sh L) (stripe sh (symbol sh before)) D
          → Same (code sh) D (stripe sh (symbol sh (made sh D)))
      made-is D f i a il al = sym (made-same sh D i a al (λ h. sym (f.kept i a il al (real-out sh L i h))
          ∙ ap number (symbol-phantom sh before (suc i) a (omega arith)) ∙ number-zero))

-- what fills the greater set and differs from a survivor of the smaller: then nothing fills the smaller
pub filled_differs : (sh : Shape) → Bounds sh → (L M : ℕ → Bool) → OnNodes sh (λ i. L i ≡ true → M i ≡ true) → lost_among sh M ≤ sh.r
    → (before full : List ℕ) → Filled sh M before full
    → (i : ℕ) → 1 ≤ i → i ≤ sh.n → L i ≡ false → (column sh full i ≡ column sh before i → ⊥)
    → (other : List ℕ) → Filled sh L before other → ⊥
filled_differs sh b L M inside few before full f i h k out ne other g =
    ne (ap (λ z. column sh z i) (sym same) ∙ g.survivors i h k out)
  where
    same : other ≡ full
    same = filled-only sh b M few before other full (filled-wider sh L M before other inside g) f

-- with the same data columns at most one stripe is whole
module _ (sh : Shape) (b : Bounds sh) (kept : List ℕ) (exact : length kept ≡ data_length sh) where
  data_symbol : (x : List ℕ) (i a : ℕ) → suc i ≤ data_nodes sh → a < rows sh → symbol sh (kept ++ x) (suc i) a ≡ get_or kept (i * rows sh + a) 0
  unfolding data_length data_nodes
  data_symbol x i a h l =
      symbol-at sh (kept ++ x) i a (omega (arith, h)) ∙ get_or-append kept x 0 (i * rows sh + a) (rw exact (digits_lt {q = i} {m = data_nodes sh} h l))

  data_columns : (x y : List ℕ) → length (kept ++ x) ≡ stripe_length sh → length (kept ++ y) ≡ stripe_length sh
      → OnNodes sh (λ i. is_parity sh i ≡ false → column sh (kept ++ x) i ≡ column sh (kept ++ y) i)
  unfolding is_parity
  data_columns x y ex ey =
      from_zero sh (λ i. is_parity sh i ≡ false → column sh (kept ++ x) i ≡ column sh (kept ++ y) i)
      (λ i h out. let k : suc i ≤ data_nodes sh = ltb-false (data_nodes sh) (suc i) out in
      same-column sh (kept ++ x) (kept ++ y) i ex ey h (λ a l. data_symbol x i a k l ∙ sym (data_symbol y i a k l)))

  pub parity-only : (x y : List ℕ) → IsBytes (stripe_length sh) (kept ++ x) → IsBytes (stripe_length sh) (kept ++ y)
      → Whole sh (kept ++ x) → Whole sh (kept ++ y) → x ≡ y
  parity-only x y bx by v w =
      append_cancel_left kept x y
      (filled-only sh b (is_parity sh) (omega (arith, parity_among sh b)) (kept ++ y) (kept ++ x) (kept ++ y)
      (record { bytes = bx; survivors = data_columns x y bx.exact by.exact; whole = v })
      (record { bytes = by; survivors = λ i h k out. refl; whole = w }))

-- "adding two accepted stripes, or multiplying one by a field number, adds or multiplies what is filled in": 0 too
module _ (sh : Shape) (b : Bounds sh) where
  pub whole-plus : (x y : List ℕ) → length x ≡ length y → Whole sh x → Whole sh y → Whole sh (plus_bytes x y)
  whole-plus x y e v w =
      (whole_tie sh b (plus_bytes x y)).1
      (whole_same (code sh) (house_lawful sh b) sh.r (plus (code sh) (stripe sh (symbol sh x)) (stripe sh (symbol sh y))) _
      (λ i a il al. sym (plus-stripe sh x y e i a))
      (whole-add (code sh) sh.r _ _ ((whole_tie sh b x).0 v) ((whole_tie sh b y).0 w)))

  pub whole-times : (c : ℕ) (x : List ℕ) → Whole sh x → Whole sh (times_bytes c x)
  whole-times c x w =
      (whole_tie sh b (times_bytes c x)).1
      (whole_same (code sh) (house_lawful sh b) sh.r (scaled (code sh) (number c) (stripe sh (symbol sh x))) _
      (λ i a il al. sym (times-stripe sh c x i a))
      (whole_scaled (code sh) sh.r (number c) _ ((whole_tie sh b x).0 w)))

  module _ (L : ℕ → Bool) where
    pub filled-plus : (x y x' y' : List ℕ) → IsBytes (stripe_length sh) x → IsBytes (stripe_length sh) y
        → Filled sh L x x' → Filled sh L y y' → Filled sh L (plus_bytes x y) (plus_bytes x' y')
    filled-plus x y x' y' bx by f g = record {
      bytes = plus-bytes (stripe_length sh) x' y' f.bytes g.bytes;
      survivors = from_zero sh (λ i. L i ≡ false → column sh (plus_bytes x' y') i ≡ column sh (plus_bytes x y) i) (λ i h out.
          same-column sh (plus_bytes x' y') (plus_bytes x y) i
          (plus-bytes (stripe_length sh) x' y' f.bytes g.bytes).exact
          (plus-bytes (stripe_length sh) x y bx by).exact h
          (λ a al. plus-symbol sh x' y' (f.bytes.exact ∙ sym g.bytes.exact) (suc i) a
          ∙ ap₂ add (column-same sh x' x i h (f.survivors (suc i) (omega arith) h out) a al)
          (column-same sh y' y i h (g.survivors (suc i) (omega arith) h out) a al)
          ∙ sym (plus-symbol sh x y (bx.exact ∙ sym by.exact) (suc i) a)));
      whole = whole-plus x' y' (f.bytes.exact ∙ sym g.bytes.exact) f.whole g.whole;
    }

    pub filled-times : (c : ℕ) (x x' : List ℕ) → IsBytes (stripe_length sh) x → Filled sh L x x' → Filled sh L (times_bytes c x) (times_bytes c x')
    filled-times c x x' bx f = record {
      bytes = times-bytes (stripe_length sh) c x' f.bytes;
      survivors = from_zero sh (λ i. L i ≡ false → column sh (times_bytes c x') i ≡ column sh (times_bytes c x) i) (λ i h out.
          same-column sh (times_bytes c x') (times_bytes c x) i
          (times-bytes (stripe_length sh) c x' f.bytes).exact
          (times-bytes (stripe_length sh) c x bx).exact h
          (λ a al. times-symbol sh c x' (suc i) a
          ∙ ap (mul c) (column-same sh x' x i h (f.survivors (suc i) (omega arith) h out) a al)
          ∙ sym (times-symbol sh c x (suc i) a)));
      whole = whole-times c x' f.whole;
    }

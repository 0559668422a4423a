-- One uniqueness theorem for filling and rebuilding. A stripe that is 0 outside a set of at most k nodes and meets k equations in every good row is
-- 0 in the good rows. Rows are settled in the order of their score: the weights of kept nodes reach only rows of a lower score, so Vandermonde
-- makes the weights of lost nodes 0; then a lost symbol is its weight, or comes from its weight and a kept mate's symbol, or from the two weights
-- of a pair, whose rows have the same score.
use mathlib.Core.Path.{◌≡◌, refl, sym, ap, ap₂, ◌∙◌}
use mathlib.Core.Bool.{Bool, true, false}
use Prim.Native.Nat.{ℕ, zero, suc, ◌<◌, Ordering}
use native.Mathlib.Omega.{arith}
use Rattle.theory.specs.Code.{Code, Stripe, Lawful, nodes, rows}
use Rattle.theory.specs.Digit.{group}
use Rattle.theory.specs.Weight.{weight, side, mate_node, mate_row}
use Rattle.theory.specs.Pair.{unpaired}
use Rattle.theory.specs.Score.{score}
use Rattle.theory.specs.Free.{weight_free, Closed, Blank}
use Rattle.theory.proofs.Ring.{ring}
use Rattle.theory.proofs.Vandermonde.{vandermonde_only}
use Rattle.theory.proofs.Mates.{on_digit, mate_group, mate_node_lt, mate_row_lt}
use Rattle.theory.proofs.Scores.{score_le, score_mate}
use Rattle.theory.proofs.Weights.{weight-free, weight-bound, weight-own, weight-split, unpaired-zero, symbol_paired, symbol-single}

module _ (c : Code) (h : Lawful c) (free : ℕ → Bool) where
  open c use {field as F, s, m, point}
  open F use {zero as 𝟘}

  module _ (k : ℕ) (good : ℕ → Type 0) (closed : Closed c free good) (L : ℕ → Bool) (D : Stripe c) (blank : Blank c k free good L D) where
    -- a good row of a score below n
    abbrev Row : ℕ → ℕ → Type 0
    Row n a = (a < rows c) × good a × (score s m free L a < n)

    -- all such rows are 0
    abbrev Zero : ℕ → Type 0
    Zero n = (a : ℕ) → Row n a → (i : ℕ) → i < nodes c → D i a ≡ 𝟘

    mate_row_lem : (n a i : ℕ) → a < rows c → good a → i < nodes c → free (group s i) ≡ false → score s m free L (mate_row s a i) < n → Row n (mate_row s a i)
    mate_row_lem n a i al g il bound low = (mate_row_lt s h.some-place m a i il al, closed a i il bound g, low)

    module _ (n : ℕ) (zero-below : Zero n) where
      -- for a kept node the mate's symbol is 0, being kept too or in a row of a lower score, and so is the weight
      kept_mate : (a : ℕ) → Row (suc n) a → (i : ℕ) → i < nodes c → L i ≡ false → free (group s i) ≡ false → D (mate_node s a i) (mate_row s a i) ≡ 𝟘
      kept_mate a (al, g, low) i il out bound = go (L (mate_node s a i)) refl
        where
          nl : mate_node s a i < nodes c
          nl = mate_node_lt s h.some-place m a i il

          go : (b : Bool) → L (mate_node s a i) ≡ b → D (mate_node s a i) (mate_row s a i) ≡ 𝟘
          go false e = blank.off (mate_node s a i) (mate_row s a i) nl (mate_row_lt s h.some-place m a i il al) (closed a i il bound g) e
          go true e =
              zero-below (mate_row s a i)
              (mate_row_lem n a i al g il bound (omega (arith, simp (e, out) at (score_mate s h.some-place m free L a i il bound))))
              (mate_node s a i) nl

      kept-weight : (a : ℕ) → Row (suc n) a → (i : ℕ) → i < nodes c → L i ≡ false → weight_free c free D a i ≡ 𝟘
      kept-weight a row i il out = go (free (group s i)) refl
        where
          own : D i a ≡ 𝟘
          own = blank.off i a il row.0 row.1 out

          go : (b : Bool) → free (group s i) ≡ b → weight_free c free D a i ≡ 𝟘
          go true e = weight-free c free D a i e ∙ own
          go false e = weight-bound c free D a i e ∙ weight-split c h D a i ∙ simp (own, kept_mate a row i il out e, ring)

      all_weights : (a : ℕ) → Row (suc n) a → (i : ℕ) → i < nodes c → weight_free c free D a i ≡ 𝟘
      all_weights a row =
          vandermonde_only F point (nodes c) k L (weight_free c free D a) h.distinct
          (record { few = blank.few; off = kept-weight a row; sums = blank.meets a row.0 row.1 })

      bound-weight : (a : ℕ) → Row (suc n) a → (i : ℕ) → i < nodes c → free (group s i) ≡ false → weight c D a i ≡ 𝟘
      bound-weight a row i il bound = sym (weight-bound c free D a i bound) ∙ all_weights a row i il

      -- off the row's digit a lost symbol comes from its weight and the mate's symbol, if that is kept, and else from the two weights of the pair
      lost-off : (a : ℕ) → Row (suc n) a → (i : ℕ) → i < nodes c → L i ≡ true → free (group s i) ≡ false → (side s a i ≡ Ordering.eq → ⊥) → D i a ≡ 𝟘
      lost-off a (al, g, low) i il into bound ne = go (L (mate_node s a i)) refl
        where
          nl : mate_node s a i < nodes c
          nl = mate_node_lt s h.some-place m a i il

          own : weight c D a i ≡ 𝟘
          own = bound-weight a (al, g, low) i il bound

          go : (b : Bool) → L (mate_node s a i) ≡ b → D i a ≡ 𝟘
          go false e =
              let other : D (mate_node s a i) (mate_row s a i) ≡ 𝟘
              = blank.off (mate_node s a i) (mate_row s a i) nl (mate_row_lt s h.some-place m a i il al) (closed a i il bound g) e in
              sym (symbol-single c h D a i ne) ∙ simp (own, other, ring)
          go true e =
              let row' : Row (suc n) (mate_row s a i)
              = mate_row_lem (suc n) a i al g il bound (omega (arith, simp (e, into) at (score_mate s h.some-place m free L a i il bound))) in
              let other : weight c D (mate_row s a i) (mate_node s a i) ≡ 𝟘
              = bound-weight (mate_row s a i) row' (mate_node s a i) nl (ap free (mate_group s h.some-place a i) ∙ bound) in
              sym (symbol_paired c h D a i ne) ∙ ap₂ (unpaired c (side s a i)) own other ∙ unpaired-zero c h (side s a i)

      lost-bound : (a : ℕ) → Row (suc n) a → (i : ℕ) → i < nodes c → L i ≡ true → free (group s i) ≡ false → Dec (side s a i ≡ Ordering.eq) → D i a ≡ 𝟘
      lost-bound a row i il into bound (yes e) = sym (weight-own c h D a i e) ∙ bound-weight a row i il bound
      lost-bound a row i il into bound (no ne) = lost-off a row i il into bound ne

      zero-next : Zero (suc n)
      zero-next a row i il = go (L i) refl (free (group s i)) refl
        where
          go : (b : Bool) → L i ≡ b → (f : Bool) → free (group s i) ≡ f → D i a ≡ 𝟘
          go false out f e = blank.off i a il row.0 row.1 out
          go true into true e = sym (weight-free c free D a i e) ∙ all_weights a row i il
          go true into false e = lost-bound a row i il into e (on_digit (side s a i))

    zero-all : (n : ℕ) → Zero n
    zero-all zero = λ a row i il. absurd (omega (arith, row.2))
    zero-all (suc n) = zero-next n (zero-all n)

    pub settled_zero : (a : ℕ) → a < rows c → good a → (i : ℕ) → i < nodes c → D i a ≡ 𝟘
    settled_zero a al g = zero-all (suc m) a (al, g, omega (arith, score_le s m free L a))

-- Filling level by level. In order: the first level, and a level with no rows; the symbols of lost nodes from their weights; one level more; all levels. A
-- row's equations speak, of lost symbols, only of rows whose score is not higher. So storing the symbols of the rows of score n leaves the rows below as they
-- were, and at these rows gives the lost nodes the weights that were solved for.
use mathlib.Core.Path.{◌≡◌, refl, sym, ap, ap₂, ◌∙◌}
use mathlib.Core.Bool.{Bool, true, false, not, cond, ◌&&◌, and-false}
use mathlib.Core.Logic.{◌⊎◌, inl, inr}
use Prim.Native.Nat.{ℕ, zero, suc, ◌<◌, Ordering}
use native.Mathlib.Nat.{eq-or-lt_of_le, le_of_suc-le-suc}
use native.Mathlib.Omega.{arith}
use lib.Dec.{eqb}
use borrow.Author.Tests.{eq-eqb, ne_eqb, not-true}
use Rattle.theory.specs.Set.{count}
use Rattle.theory.specs.Power.{moment_over}
use Rattle.theory.specs.System.{Reaches}
use Rattle.theory.specs.Code.{Code, Stripe, Lawful, nodes, rows}
use Rattle.theory.specs.Digit.{group}
use Rattle.theory.specs.Weight.{weighed, weight, side, mate_node, mate_row}
use Rattle.theory.specs.Pair.{factor, unpaired}
use Rattle.theory.specs.Score.{score}
use Rattle.theory.specs.Free.{weight_free, MeetsFree}
use Rattle.theory.specs.Level.{Level, Stepped, symbol_off, symbol_of, symbol_from}
use Rattle.theory.specs.Whole.{AgreeOff}
use Rattle.theory.proofs.Ring as R
use Rattle.theory.proofs.Ring.{ring}
use Rattle.theory.proofs.Counts.{one_if_le}
use Rattle.theory.proofs.Powers.{moment_ext, moment-over-split, moment-over_ext, moment-inside}
use Rattle.theory.proofs.Vandermonde.{vandermonde_reached}
use Rattle.theory.proofs.Mates.{on_digit, mate_flips, mate_off, mate_group, mate_mate_node, mate_mate_row, mate_node_lt, mate_row_lt}
use Rattle.theory.proofs.Scores.{score_mate}
use Rattle.theory.proofs.Weights.{weight-free, weight-bound, weight-own, weight-split, factor_not_zero, pair_reached}
use Rattle.theory.proofs.Linearity.{weight_ext}

module _ (c : Code) where
  open c use {s, m}

  -- the first level asks for the kept symbols alone
  pub level_start : {free : ℕ → Bool} (k : ℕ) (L : ℕ → Bool) (B E : Stripe c) → AgreeOff c L E B → Level c k free L B 0 E
  level_start k L B E agree = record { kept = agree; meets = λ a al low. absurd (omega arith) }

  -- with no row of score n nothing is to be settled
  pub level_empty : {free : ℕ → Bool} (k : ℕ) (L : ℕ → Bool) (B : Stripe c) (n : ℕ) (E : Stripe c) → Level c k free L B n E
      → ((a : ℕ) → a < rows c → score s m free L a ≡ n → ⊥) → Level c k free L B (suc n) E
  level_empty {free} k L B n E level none = record {
    kept = level.kept;
    meets = λ a al low. let other : (score s m free L a ≡ n → ⊥) = none a al in level.meets a al (omega arith);
  }

module _ (c : Code) (free L : ℕ → Bool) (E : Stripe c) (x : ℕ → ℕ → c.field.K) where
  open c use {field as F, s}
  open F use {K, add as ◌⊕◌, mul as ◌⊗◌, inverse}

  infixl 60 ◌⊕◌
  infixl 70 ◌⊗◌
  pub symbol-free : (a i : ℕ) → free (group s i) ≡ true → symbol_from c free L E x a i ≡ x a i
  unfolding symbol_from
  symbol-free a i e = rw e

  pub symbol-own : (a i : ℕ) → free (group s i) ≡ false → side s a i ≡ Ordering.eq → symbol_from c free L E x a i ≡ x a i
  unfolding symbol_from symbol_of
  symbol-own a i e o = rw (e, o)

  symbol-off : (o : Ordering) (b : Bool) (w w' y : K) → (o ≡ Ordering.eq → ⊥) → symbol_of c o b w w' y ≡ symbol_off c o b w w' y
  unfolding symbol_of
  symbol-off Ordering.lt b w w' y ne = refl
  symbol-off Ordering.eq b w w' y ne = absurd (ne refl)
  symbol-off Ordering.gt b w w' y ne = refl

  pub symbol-kept_mate : (a i : ℕ) → free (group s i) ≡ false → (side s a i ≡ Ordering.eq → ⊥) → L (mate_node s a i) ≡ false
      → symbol_from c free L E x a i ≡ inverse (factor c (side s a i)) ⊗ (x a i ⊕ E (mate_node s a i) (mate_row s a i))
  unfolding symbol_from symbol_off
  symbol-kept_mate a i e ne out = rw (e, symbol-off (side s a i) _ _ _ _ ne, out)

  pub symbol-lost_mate : (a i : ℕ) → free (group s i) ≡ false → (side s a i ≡ Ordering.eq → ⊥) → L (mate_node s a i) ≡ true
      → symbol_from c free L E x a i ≡ unpaired c (side s a i) (x a i) (x (mate_row s a i) (mate_node s a i))
  unfolding symbol_from symbol_off
  symbol-lost_mate a i e ne into = rw (e, symbol-off (side s a i) _ _ _ _ ne, into)

module _ (c : Code) (h : Lawful c) (k : ℕ) (free L : ℕ → Bool) (B : Stripe c) (n : ℕ) (E : Stripe c) (x : ℕ → ℕ → c.field.K) (E' : Stripe c)
    (level : Level c k free L B n E) (step : Stepped c k free L n E x E') where
  open c use {field as F, s, m, point}
  open F use {add as ◌⊕◌, mul as ◌⊗◌, inverse}

  infixl 60 ◌⊕◌
  infixl 70 ◌⊗◌
  -- a weight in which no symbol was stored
  same-weight : (a i : ℕ) → a < rows c → i < nodes c → E' i a ≡ E i a
      → (free (group s i) ≡ false → L (mate_node s a i) ≡ true → score s m free L (mate_row s a i) ≡ n → ⊥)
      → weight_free c free E' a i ≡ weight_free c free E a i
  same-weight a i al il own no-mate = go (free (group s i)) refl
    where
      nl : mate_node s a i < nodes c
      nl = mate_node_lt s h.some-place m a i il

      rl : mate_row s a i < rows c
      rl = mate_row_lt s h.some-place m a i il al

      other : free (group s i) ≡ false → (b : Bool) → L (mate_node s a i) ≡ b → E' (mate_node s a i) (mate_row s a i) ≡ E (mate_node s a i) (mate_row s a i)
      other e false out = step.survivors (mate_node s a i) (mate_row s a i) nl rl out
      other e true into = step.other-rows (mate_node s a i) (mate_row s a i) nl rl (no-mate e into)

      go : (b : Bool) → free (group s i) ≡ b → weight_free c free E' a i ≡ weight_free c free E a i
      go true e = weight-free c free E' a i e ∙ own ∙ sym (weight-free c free E a i e)
      go false e =
          weight-bound c free E' a i e
          ∙ weight_ext c E' E a i own (other e (L (mate_node s a i)) refl)
          ∙ sym (weight-bound c free E a i e)

  -- the rows of a lower score meet their equations as before
  below-meets : (a : ℕ) → a < rows c → score s m free L a < n → MeetsFree c k free E' a
  below-meets a al low t l =
      moment_ext F (nodes c) point _ _ t
      (λ i il. same-weight a i al il (step.other-rows i a il al (omega arith))
      (λ e into at_n. omega (arith, simp (into, at_n) at (score_mate s h.some-place m free L a i il e), one_if_le (L i))))
      ∙ level.meets a al low t l

  -- at the rows of score n kept nodes keep their weight
  kept-weight : (a : ℕ) → a < rows c → score s m free L a ≡ n → (i : ℕ) → i < nodes c → L i ≡ false → weight_free c free E' a i ≡ weight_free c free E a i
  kept-weight a al at_n i il out =
      same-weight a i al il (step.survivors i a il al out)
      (λ e into at-n'. omega (arith, simp (into, out) at (score_mate s h.some-place m free L a i il e)))

  -- and lost nodes get the weights solved for: off the row's digit, by the mate, kept or lost
  kept_mate_weight : (a : ℕ) → a < rows c → score s m free L a ≡ n → (i : ℕ) → i < nodes c → L i ≡ true → free (group s i) ≡ false
      → (side s a i ≡ Ordering.eq → ⊥) → L (mate_node s a i) ≡ false → weight c E' a i ≡ x a i
  kept_mate_weight a al at_n i il into bound ne out =
      let own : E' i a ≡ inverse (factor c (side s a i)) ⊗ (x a i ⊕ E (mate_node s a i) (mate_row s a i))
      = step.stored i a il al into at_n ∙ symbol-kept_mate c free L E x a i bound ne out in
      let other : E' (mate_node s a i) (mate_row s a i) ≡ E (mate_node s a i) (mate_row s a i)
      = step.survivors (mate_node s a i) (mate_row s a i) (mate_node_lt s h.some-place m a i il) (mate_row_lt s h.some-place m a i il al) out in
      weight-split c h E' a i
      ∙ ap₂ (λ w y. factor c (side s a i) ⊗ w ⊕ y) own other
      ∙ ap (λ w. w ⊕ E (mate_node s a i) (mate_row s a i)) (R.mul-inverse-right F _ _ (factor_not_zero c h (side s a i) ne))
      ∙ R.add_twice F _ _

  lost_mate_weight : (a : ℕ) → a < rows c → score s m free L a ≡ n → (i : ℕ) → i < nodes c → L i ≡ true → free (group s i) ≡ false
      → (side s a i ≡ Ordering.eq → ⊥) → L (mate_node s a i) ≡ true → weight c E' a i ≡ x a i
  unfolding weight
  lost_mate_weight a al at_n i il into bound ne into' =
      ap₂ (weighed c (side s a i)) own (other ∙ simp (mate_flips s some, mate_mate_row s some, mate_mate_node s some))
      ∙ (pair_reached c h (side s a i) (x a i) (x (mate_row s a i) (mate_node s a i)) ne).0
    where
      some : 0 < s
      some = h.some-place

      own : E' i a ≡ unpaired c (side s a i) (x a i) (x (mate_row s a i) (mate_node s a i))
      own = step.stored i a il al into at_n ∙ symbol-lost_mate c free L E x a i bound ne into'

      other : E' (mate_node s a i) (mate_row s a i) ≡ unpaired c (side s (mate_row s a i) (mate_node s a i)) (x (mate_row s a i) (mate_node s a i))
          (x (mate_row s (mate_row s a i) (mate_node s a i)) (mate_node s (mate_row s a i) (mate_node s a i)))
      other =
          step.stored (mate_node s a i) (mate_row s a i) (mate_node_lt s some m a i il) (mate_row_lt s some m a i il al) into'
          (omega (arith, simp (into, into') at (score_mate s some m free L a i il bound)))
          ∙ symbol-lost_mate c free L E x (mate_row s a i) (mate_node s a i) (ap free (mate_group s some a i) ∙ bound) (mate_off s some a i ne)
          (ap L (mate_mate_node s some a i) ∙ into)

  lost-weight : (a : ℕ) → a < rows c → score s m free L a ≡ n → (i : ℕ) → i < nodes c → L i ≡ true → weight_free c free E' a i ≡ x a i
  lost-weight a al at_n i il into = go (free (group s i)) refl
    where
      stored : E' i a ≡ symbol_from c free L E x a i
      stored = step.stored i a il al into at_n

      off : free (group s i) ≡ false → (side s a i ≡ Ordering.eq → ⊥) → (b : Bool) → L (mate_node s a i) ≡ b → weight c E' a i ≡ x a i
      off e ne false out = kept_mate_weight a al at_n i il into e ne out
      off e ne true into' = lost_mate_weight a al at_n i il into e ne into'

      bound : free (group s i) ≡ false → Dec (side s a i ≡ Ordering.eq) → weight c E' a i ≡ x a i
      bound e (yes o) = weight-own c h E' a i o ∙ stored ∙ symbol-own c free L E x a i e o
      bound e (no ne) = off e ne (L (mate_node s a i)) refl

      go : (b : Bool) → free (group s i) ≡ b → weight_free c free E' a i ≡ x a i
      go true e = weight-free c free E' a i e ∙ stored ∙ symbol-free c free L E x a i e
      go false e = weight-bound c free E' a i e ∙ bound e (on_digit (side s a i))

  at_meets : (a : ℕ) → a < rows c → score s m free L a ≡ n → MeetsFree c k free E' a
  at_meets a al at_n t l =
      moment-over-split F (nodes c) L point (weight_free c free E' a) t
      ∙ ap₂ ◌⊕◌
      (moment-over_ext F (nodes c) L point _ _ t (λ i il into. lost-weight a al at_n i il into) ∙ step.solved a al at_n t l)
      (moment-over_ext F (nodes c) (λ i. not (L i)) point _ _ t (λ i il out. kept-weight a al at_n i il (not-true (L i) out)))
      ∙ F.add_self _

  pub level-step : Level c k free L B (suc n) E'
  level-step = record {
    kept = λ i a il al out. step.survivors i a il al out ∙ level.kept i a il al out;
    meets = λ a al low. go a al (eq-or-lt_of_le (le_of_suc-le-suc low));
  }
    where
      go : (a : ℕ) → a < rows c → (score s m free L a ≡ n) ⊎ (score s m free L a < n) → MeetsFree c k free E' a
      go a al (inl at_n) = at_meets a al at_n
      go a al (inr low) = below-meets a al low

module _ (c : Code) (h : Lawful c) (k : ℕ) (free L : ℕ → Bool) (exact : count (nodes c) L ≡ k) (B : Stripe c) where
  open c use {field as F, s, m, point}
  open F use {K}

  -- the sums over the kept nodes at a row, and the weights of lost nodes solved for
  kept-sums : Stripe c → ℕ → ℕ → K
  kept-sums E a t = moment_over F (nodes c) (λ i. not (L i)) point (weight_free c free E a) t

  found : (E : Stripe c) (a : ℕ) → (x : ℕ → K) × Reaches F point (nodes c) k L (kept-sums E a) x
  found E a = vandermonde_reached F point (nodes c) k L (kept-sums E a) h.distinct exact

  found-solves : (E : Stripe c) (a t : ℕ) → t < k → moment_over F (nodes c) L point (found E a).0 t ≡ kept-sums E a t
  found-solves E a t l =
      let x = found E a in sym (moment-inside F (nodes c) L point x.0 t (λ i il out. x.1.off i out)) ∙ x.1.sums t l

  next : ℕ → Stripe c → Stripe c
  next n E i a = cond (L i && eqb (score s m free L a) n) (symbol_from c free L E (λ a. (found E a).0) a i) (E i a)

  next-step : (n : ℕ) (E : Stripe c) → Stepped c k free L n E (λ a. (found E a).0) (next n E)
  unfolding next kept-sums
  next-step n E = record {
    solved = λ a al at_n t l. found-solves E a t l;
    stored = λ i a il al into at_n. rw (into, eq-eqb _ n at_n);
    other-rows = λ i a il al ne. rw (ne_eqb _ n ne, and-false);
    survivors = λ i a il al out. rw out;
  }

  levels : (n : ℕ) → (E : Stripe c) × Level c k free L B n E
  levels zero = (B, level_start c k L B B (λ i a il al out. refl))
  levels (suc n) = let (E, level) = levels n in (next n E, level-step c h k free L B n E (λ a. (found E a).0) (next n E) level (next-step n E))

  -- a stripe with any symbols outside a set of exactly k nodes, whose rows all meet k equations
  pub reached : (E : Stripe c) × Level c k free L B (suc m) E
  reached = levels (suc m)

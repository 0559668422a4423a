-- Filling by corrections. In order: a correction by its cases; the symbols that the corrected weights give; one level more. What a row's equations fall
-- short of is made up for by weights that are added to those there are. Symbols from a sum of weights are the sum of the symbols, and E's own weights give
-- back E's.
use mathlib.Core.Path.{◌≡◌, refl, sym, ap, ap₂, ◌∙◌}
use mathlib.Core.Bool.{Bool, true, false, not}
use Prim.Native.Nat.{Ordering}
use Prim.Native.Nat.{ℕ, suc}
use Rattle.theory.specs.Power.{moment_over}
use Rattle.theory.specs.Code.{Code, Stripe, Lawful, nodes}
use Rattle.theory.specs.Weight.{weight, side, mate_node, mate_row}
use Rattle.theory.specs.Pair.{factor, unpaired}
use Rattle.theory.specs.Free.{no_group, weight_free}
use Rattle.theory.specs.Level.{Level, Stepped, symbol_from}
use Rattle.theory.specs.Whole.{equation}
use Rattle.theory.specs.Correction.{nothing, correction, Corrected}
use Rattle.theory.proofs.Ring as R
use Rattle.theory.proofs.Ring.{ring}
use Rattle.theory.proofs.Powers.{moment-over-split, moment-over_ext, moment-over-add}
use Rattle.theory.proofs.Mates.{on_digit}
use Rattle.theory.proofs.Weights.{weight-own, weight-bound, symbol_paired, symbol-single}
use Rattle.theory.proofs.Linearity.{unpaired-add}
use Rattle.theory.proofs.Levels.{symbol-own, symbol-kept_mate, symbol-lost_mate, level-step}

module _ (c : Code) (L : ℕ → Bool) (y : Stripe c) where
  open c use {field as F, s}
  open F use {mul as ◌⊗◌, inverse}

  infixl 70 ◌⊗◌
  -- at the row's digit
  pub correction-own : (a i : ℕ) → side s a i ≡ Ordering.eq → correction c L y a i ≡ y i a
  unfolding correction
  correction-own a i e = symbol-own c no_group L (nothing c) (λ b j. y j b) a i refl e

  -- off it, with the mate kept
  pub correction-kept_mate : (a i : ℕ) → (side s a i ≡ Ordering.eq → ⊥) → L (mate_node s a i) ≡ false
      → correction c L y a i ≡ inverse (factor c (side s a i)) ⊗ y i a
  unfolding correction
  correction-kept_mate a i ne out =
      symbol-kept_mate c no_group L (nothing c) (λ b j. y j b) a i refl ne out ∙ ap (λ w. inverse (factor c (side s a i)) ⊗ w) (F.add-zero (y i a))

  -- off it, with the mate lost
  pub correction-lost_mate : (a i : ℕ) → (side s a i ≡ Ordering.eq → ⊥) → L (mate_node s a i) ≡ true
      → correction c L y a i ≡ unpaired c (side s a i) (y i a) (y (mate_node s a i) (mate_row s a i))
  unfolding correction
  correction-lost_mate a i ne into = symbol-lost_mate c no_group L (nothing c) (λ b j. y j b) a i refl ne into

module _ (c : Code) (h : Lawful c) (L : ℕ → Bool) (E y : Stripe c) where
  open c use {field as F, s, point}
  open F use {K, add as ◌⊕◌, mul as ◌⊗◌, inverse}

  infixl 60 ◌⊕◌
  infixl 70 ◌⊗◌
  -- the weights of E with what they fall short by added
  made_up : ℕ → ℕ → K
  made_up a i = weight c E a i ⊕ y i a

  made_up_own : (a i : ℕ) → side s a i ≡ Ordering.eq → symbol_from c no_group L E made_up a i ≡ E i a ⊕ correction c L y a i
  unfolding made_up
  made_up_own a i e =
      symbol-own c no_group L E made_up a i refl e
      ∙ ap₂ ◌⊕◌ (weight-own c h E a i e) (sym (correction-own c L y a i e))

  -- an identity over any numbers, for a kept mate's symbol v
  single : (z w u v : K) → z ⊗ (w ⊕ u ⊕ v) ≡ z ⊗ (w ⊕ v) ⊕ z ⊗ u
  single z w u v = ap (λ x. z ⊗ x) (simp ring) ∙ F.mul-add z (w ⊕ v) u

  made_up_kept_mate : (a i : ℕ) → (side s a i ≡ Ordering.eq → ⊥) → L (mate_node s a i) ≡ false
      → symbol_from c no_group L E made_up a i ≡ E i a ⊕ correction c L y a i
  unfolding made_up
  made_up_kept_mate a i ne out =
      symbol-kept_mate c no_group L E made_up a i refl ne out
      ∙ single (inverse (factor c (side s a i))) (weight c E a i) (y i a) (E (mate_node s a i) (mate_row s a i))
      ∙ ap₂ ◌⊕◌ (symbol-single c h E a i ne) (sym (correction-kept_mate c L y a i ne out))

  made_up_lost_mate : (a i : ℕ) → (side s a i ≡ Ordering.eq → ⊥) → L (mate_node s a i) ≡ true
      → symbol_from c no_group L E made_up a i ≡ E i a ⊕ correction c L y a i
  unfolding made_up
  made_up_lost_mate a i ne into =
      symbol-lost_mate c no_group L E made_up a i refl ne into
      ∙ unpaired-add c (side s a i) (weight c E a i) (weight c E (mate_row s a i) (mate_node s a i)) (y i a) (y (mate_node s a i) (mate_row s a i))
      ∙ ap₂ ◌⊕◌ (symbol_paired c h E a i ne) (sym (correction-lost_mate c L y a i ne into))

  -- they give E's symbols, and the corrections
  made_up_symbol : (a i : ℕ) → symbol_from c no_group L E made_up a i ≡ E i a ⊕ correction c L y a i
  made_up_symbol a i = go (on_digit (side s a i))
    where
      off : (side s a i ≡ Ordering.eq → ⊥) → (b : Bool) → L (mate_node s a i) ≡ b → symbol_from c no_group L E made_up a i ≡ E i a ⊕ correction c L y a i
      off ne false out = made_up_kept_mate a i ne out
      off ne true into = made_up_lost_mate a i ne into

      go : Dec (side s a i ≡ Ordering.eq) → symbol_from c no_group L E made_up a i ≡ E i a ⊕ correction c L y a i
      go (yes e) = made_up_own a i e
      go (no ne) = off ne (L (mate_node s a i)) refl

  -- and where y makes up for an equation, they solve it
  made_up_solved : (a t : ℕ) → moment_over F (nodes c) L point (λ i. y i a) t ≡ equation c E a t
      → moment_over F (nodes c) L point (made_up a) t ≡ moment_over F (nodes c) (λ i. not (L i)) point (weight_free c no_group E a) t
  unfolding made_up equation
  made_up_solved a t e =
      moment-over-add F (nodes c) L point (weight c E a) (λ i. y i a) t
      ∙ ap (λ w. moment_over F (nodes c) L point (weight c E a) t ⊕ w) (e ∙ moment-over-split F (nodes c) L point (weight c E a) t)
      ∙ R.add_cancel F _ _
      ∙ moment-over_ext F (nodes c) (λ i. not (L i)) point _ _ t (λ i l out. sym (weight-bound c no_group E a i refl))

  made_up_step : (k n : ℕ) (E' : Stripe c) → Corrected c k L n E y E' → Stepped c k no_group L n E made_up E'
  made_up_step k n E' done = record {
    solved = λ a al at_n t l. made_up_solved a t (done.solved a al at_n t l);
    stored = λ i a il al into at_n. done.stored i a il al into at_n ∙ sym (made_up_symbol a i);
    other-rows = done.other-rows;
    survivors = done.survivors;
  }

module _ (c : Code) (h : Lawful c) where
  pub correction-step : (k : ℕ) (L : ℕ → Bool) (B : Stripe c) (n : ℕ) (E y E' : Stripe c)
      → Level c k no_group L B n E → Corrected c k L n E y E' → Level c k no_group L B (suc n) E'
  correction-step k L B n E y E' level done = level-step c h k no_group L B n E (made_up c h L E y) E' level (made_up_step c h L E y k n E' done)

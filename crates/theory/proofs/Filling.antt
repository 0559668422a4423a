-- Filling lost columns. In order: fewer equations, the last level, equal symbols; filling is unique, and it exists; with fewer lost than equations;
-- filling is linear.
use mathlib.Core.Path.{◌≡◌, refl, sym, ◌∙◌}
use mathlib.Core.Bool.{Bool, true, false, true≢false}
use mathlib.Core.Logic.{◌↔◌}
use Prim.Native.Nat.{ℕ, suc, ◌<◌, ◌≤◌}
use native.Mathlib.Omega.{arith}
use Rattle.theory.specs.Set.{count, Inside}
use Rattle.theory.specs.Code.{Code, Stripe, Lawful, nodes, rows, plus, scaled}
use Rattle.theory.specs.Free.{no_group, MeetsFree}
use Rattle.theory.specs.Level.{Level}
use Rattle.theory.specs.Whole.{equation, MeetsRow, Whole, Same, AgreeOff, AgreeBetween, Fills}
use Rattle.theory.proofs.Ring as R
use Rattle.theory.proofs.Powers.{moment_ext}
use Rattle.theory.proofs.Mates.{mate_node_lt, mate_row_lt}
use Rattle.theory.proofs.Scores.{score_le}
use Rattle.theory.proofs.Weights.{weight-bound}
use Rattle.theory.proofs.Linearity.{equation_ext, whole-add, fills-add, fills-scaled}
use Rattle.theory.proofs.Settled.{settled_zero}
use Rattle.theory.proofs.Levels.{reached}

module _ (c : Code) where
  open c use {field as F, s, m, point}

  pub whole-fewer : (k r : ℕ) (C : Stripe c) → k ≤ r → Whole c r C → Whole c k C
  whole-fewer k r C le w a al t l = w a al t (omega arith)

  -- with no free group the equations are the equations
  pub meets→free : (k : ℕ) (C : Stripe c) (a : ℕ) → MeetsRow c k C a → MeetsFree c k no_group C a
  unfolding equation
  meets→free k C a w t l = moment_ext F (nodes c) point _ _ t (λ i il. weight-bound c no_group C a i refl) ∙ w t l

  pub free→meets : (k : ℕ) (C : Stripe c) (a : ℕ) → MeetsFree c k no_group C a → MeetsRow c k C a
  unfolding equation
  free→meets k C a w t l = moment_ext F (nodes c) point _ _ t (λ i il. sym (weight-bound c no_group C a i refl)) ∙ w t l

  -- at the last level every row meets its equations
  pub level-whole : (k : ℕ) (L : ℕ → Bool) (B E : Stripe c) → Level c k no_group L B (suc m) E → Fills c k L B E
  level-whole k L B E level = record {
    whole = λ a al. free→meets k E a (level.meets a al (omega (arith, score_le s m no_group L a)));
    kept = λ i a il al out. sym (level.kept i a il al out);
  }

module _ (c : Code) (h : Lawful c) where
  open c use {field as F, s, m}
  open F use {K}

  pub whole_same : (r : ℕ) (C D : Stripe c) → Same c C D → Whole c r C → Whole c r D
  whole_same r C D same w a al t l =
      sym (equation_ext c C D a t (λ i il. same i a il al)
      (λ i il. same _ _ (mate_node_lt s h.some-place m a i il) (mate_row_lt s h.some-place m a i il al)))
      ∙ w a al t l

  -- two whole stripes that agree outside at most r nodes agree everywhere
  pub filling-only : (r : ℕ) (L : ℕ → Bool) (C D : Stripe c) → count (nodes c) L ≤ r → Whole c r C → Whole c r D → AgreeOff c L C D → Same c C D
  filling-only r L C D few v w agree i a il al =
      R.zero→equal F
      (settled_zero c h no_group r (λ a. Unit {0}) (λ a i il e g. tt) L (plus c C D)
      (record {
        few = few;
        off = λ i a il al g out. R.equal→zero F (agree i a il al out);
        meets = λ a al g. meets→free c r (plus c C D) a (whole-add c r C D v w a al);
      })
      a al tt i il)

  pub fills-only : (r : ℕ) (L : ℕ → Bool) (C D D' : Stripe c) → count (nodes c) L ≤ r → Fills c r L C D → Fills c r L C D' → Same c D D'
  fills-only r L C D D' few v w =
      filling-only r L D D' few v.whole w.whole (λ i a il al out. sym (v.kept i a il al out) ∙ w.kept i a il al out)

  -- for a set of exactly r nodes and any survivors there is a whole stripe with these survivors
  pub filling_exists : (r : ℕ) (L : ℕ → Bool) (C : Stripe c) → count (nodes c) L ≡ r → (D : Stripe c) × Fills c r L C D
  filling_exists r L C exact = let (D, level) = reached c h r no_group L exact C in (D, level-whole c r L C D level)

  -- L lies in L' of exactly r nodes, and D fills L'
  module _ (r : ℕ) (L L' : ℕ → Bool) (inside : Inside L L') (exact : count (nodes c) L' ≡ r) (C D : Stripe c) (fill : Fills c r L' C D) where
    wider : (W : Stripe c) → Fills c r L C W → Fills c r L' C W
    wider W w = record {
      whole = w.whole;
      kept = λ i a il al out. w.kept i a il al (outside i out (L i) refl);
    }
      where
        outside : (i : ℕ) → L' i ≡ false → (b : Bool) → L i ≡ b → b ≡ false
        outside i out false e = refl
        outside i out true e = absurd (true≢false (sym (inside i e) ∙ out))

    -- then every whole stripe with the survivors of L is D
    pub fewer-only : (W : Stripe c) → Fills c r L C W → Same c W D
    fewer-only W w = fills-only r L' C W D (omega arith) (wider W w) fill

    pub fewer-agree : AgreeBetween c L L' C D → Fills c r L C D
    fewer-agree agree = record { whole = fill.whole; kept = λ i a il al out. go i a il al out (L' i) refl }
      where
        go : (i a : ℕ) → i < nodes c → a < rows c → L i ≡ false → (b : Bool) → L' i ≡ b → C i a ≡ D i a
        go i a il al out true e = agree i a il al out e
        go i a il al out false e = fill.kept i a il al e

    -- some whole stripe has the survivors of L exactly when D agrees with them
    pub fewer_iff : ((W : Stripe c) × Fills c r L C W) ↔ AgreeBetween c L L' C D
    fewer_iff = (
      λ w i a il al out in'. w.1.kept i a il al out ∙ fewer-only w.0 w.1 i a il al,
      λ agree. (D, fewer-agree agree),
    )

  -- the other way with fewer lost: D fills L by as many equations as it has nodes; it is right exactly when it meets all r
  pub fewer_equations : (k r : ℕ) (L : ℕ → Bool) (C D : Stripe c) → count (nodes c) L ≡ k → k ≤ r → Fills c k L C D
      → ((W : Stripe c) × Fills c r L C W) ↔ Whole c r D
  fewer_equations k r L C D exact le fill = (
    λ w. whole_same r w.0 D
        (fills-only k L C w.0 D (omega arith) (record { whole = whole-fewer c k r w.0 le w.1.whole; kept = w.1.kept }) fill)
        w.1.whole,
    λ w. (D, record { whole = w; kept = fill.kept }),
  )

  -- what fills a sum is the sum of what fills, and so with a multiple, by 0 too
  pub filling-add : (r : ℕ) (L : ℕ → Bool) (C D C' D' E : Stripe c) → count (nodes c) L ≤ r
      → Fills c r L C D → Fills c r L C' D' → Fills c r L (plus c C C') E → Same c E (plus c D D')
  filling-add r L C D C' D' E few v w e = fills-only r L (plus c C C') E (plus c D D') few e (fills-add c r L C D C' D' v w)

  pub filling-scaled : (r : ℕ) (L : ℕ → Bool) (z : K) (C D E : Stripe c) → count (nodes c) L ≤ r
      → Fills c r L C D → Fills c r L (scaled c z C) E → Same c E (scaled c z D)
  filling-scaled r L z C D E few v e = fills-only r L (scaled c z C) E (scaled c z D) few e (fills-scaled c r L z C D v)

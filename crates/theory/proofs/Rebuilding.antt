-- Rebuilding a failed node f from fractions. In order: the rows read; the group of f freed, its symbols replaced by their weights; over a lost set that
-- holds f's group, with s and r apart, the column and the unasked fractions are unique and exist; with r = s and all other nodes asked there is
-- exactly one column, and it is that of any whole stripe that the fractions were cut from.
use mathlib.Core.Path.{◌≡◌, refl, sym, ap, ap₂, ◌∙◌}
use mathlib.Core.Bool.{Bool, true, false, cond, true≢false}
use mathlib.Core.Logic.{◌⊎◌, inl, inr}
use Prim.Native.Nat.{ℕ, suc, ◌<◌, ◌≤◌}
use native.Mathlib.Omega.{arith}
use native.Mathlib.Decide.{ℕ_discrete}
use lib.Dec.{eqb}
use borrow.Author.Tests.{eqb-true, eqb-false, eq-eqb, ne_eqb}
use Rattle.theory.specs.Set.{count, changed, Lists}
use Rattle.theory.specs.Code.{Code, Stripe, Lawful, nodes, rows, plus}
use Rattle.theory.specs.Digit.{digit, group, place, node}
use Rattle.theory.specs.Weight.{weight, side, mate_node, mate_row}
use Rattle.theory.specs.Pair.{factor}
use Rattle.theory.specs.Free.{weight_free, MeetsFree, Closed}
use Rattle.theory.specs.Level.{Level}
use Rattle.theory.specs.Whole.{equation, MeetsRow, Whole}
use Rattle.theory.specs.Read.{IsRead, in_group_of, MeetsRead, Helps, Rebuilds, HoldsGroup}
use Rattle.theory.proofs.Ring as R
use Rattle.theory.proofs.Ring.{add-around}
use Rattle.theory.proofs.Counts.{changed-same, changed-other, lists-count}
use Rattle.theory.proofs.Powers.{moment_ext}
use Rattle.theory.proofs.Digits.{group_lt, group-node, place-node, node-split, node_lt, place_lt}
use Rattle.theory.proofs.Mates.{own-side, mate_group, mate_digit, mate_other, mate_mate_node, mate_mate_row, mate_node_lt, mate_row_lt}
use Rattle.theory.proofs.Scores.{score_le}
use Rattle.theory.proofs.Weights.{factor-own, weight-free, weight-bound, weight-split}
use Rattle.theory.proofs.Linearity.{weight_ext, equation_ext, meets-add}
use Rattle.theory.proofs.Settled.{settled_zero}
use Rattle.theory.proofs.Levels.{reached}

module _ (c : Code) (h : Lawful c) (f : ℕ) where
  open c use {field as F, s, m, point}
  open F use {K, zero as 𝟘, add as ◌⊕◌, mul as ◌⊗◌}

  infixl 60 ◌⊕◌
  infixl 70 ◌⊗◌
  some : 0 < s
  some = h.some-place

  -- the group of f is free
  abbrev of_group : ℕ → Bool
  of_group v = eqb v (group s f)

  -- at a row read, the mate of a node of f's group is f, and the mate row of any other node is read
  mate_failed : (a i : ℕ) → IsRead s f a → group s i ≡ group s f → mate_node s a i ≡ f
  unfolding mate_node
  mate_failed a i read e = ap (λ v. node s v (digit s a v)) e ∙ ap (node s (group s f)) read ∙ node-split s f

  mate_read : Closed c of_group (IsRead s f)
  mate_read a i il e read = mate_other s some a i (group s f) (λ q. eqb-false _ _ e (sym q)) ∙ read

  -- f at any row has its mate at a row read
  failed_mate_read : (b : ℕ) → IsRead s f (mate_row s b f)
  failed_mate_read b = mate_digit s some b f

  -- what a node of f's group adds to its weight at a row read: nothing where it is f itself
  own-part : (D G : Stripe c) (a i : ℕ) → IsRead s f a → ((i ≡ f → ⊥) → D i a ≡ G i a) → factor c (side s a i) ⊗ D i a ≡ factor c (side s a i) ⊗ G i a
  own-part D G a i read e = go (ℕ_discrete i f)
    where
      nothing : (C : Stripe c) → i ≡ f → factor c (side s a i) ⊗ C i a ≡ 𝟘
      nothing C q = ap (λ w. w ⊗ C i a) (factor-own c h (own-side s some a i (rw q (sym read)))) ∙ R.zero-mul F (C i a)

      go : Dec (i ≡ f) → factor c (side s a i) ⊗ D i a ≡ factor c (side s a i) ⊗ G i a
      go (yes q) = nothing D q ∙ sym (nothing G q)
      go (no ne) = ap (λ w. factor c (side s a i) ⊗ w) (e ne)

  -- the symbols of f's group replaced by their weights: with the group free the equations are the same
  freed : Stripe c → Stripe c
  freed D i a = cond (of_group (group s i)) (weight c D a i) (D i a)

  freed_in : (D : Stripe c) (a i : ℕ) → of_group (group s i) ≡ true → freed D i a ≡ weight c D a i
  unfolding freed
  freed_in D a i e = rw e

  freed-out : (D : Stripe c) (a i : ℕ) → of_group (group s i) ≡ false → freed D i a ≡ D i a
  unfolding freed
  freed-out D a i e = rw e

  freed-weight : (D : Stripe c) (a i : ℕ) → weight_free c of_group (freed D) a i ≡ weight c D a i
  freed-weight D a i = go (of_group (group s i)) refl
    where
      go : (b : Bool) → of_group (group s i) ≡ b → weight_free c of_group (freed D) a i ≡ weight c D a i
      go true e = weight-free c of_group (freed D) a i e ∙ freed_in D a i e
      go false e =
          weight-bound c of_group (freed D) a i e
          ∙ weight_ext c (freed D) D a i (freed-out D a i e)
          (freed-out D (mate_row s a i) (mate_node s a i) (ap of_group (mate_group s some a i) ∙ e))

  freed-meets : (k : ℕ) (D : Stripe c) (a : ℕ) → MeetsRow c k D a → MeetsFree c k of_group (freed D) a
  unfolding equation
  freed-meets k D a w t l = moment_ext F (nodes c) point _ _ t (λ i il. freed-weight D a i) ∙ w t l

  module _ (fl : f < nodes c) (r : ℕ) (U : ℕ → Bool) (holds : HoldsGroup c f U) where
    outside : (i : ℕ) → i < nodes c → U i ≡ false → group s i ≡ group s f → ⊥
    outside i il out e = true≢false (sym (holds i il e) ∙ out)

    -- a stripe that meets the equations of the rows read and has no symbol where a node was asked
    module _ (Z : Stripe c) (few : count (nodes c) U ≤ r)
        (asked : (i a : ℕ) → i < nodes c → a < rows c → IsRead s f a → Helps s f U i → Z i a ≡ 𝟘)
        (meets : (a : ℕ) → a < rows c → IsRead s f a → MeetsRow c r Z a) where
      freed-zero : (a : ℕ) → a < rows c → IsRead s f a → (i : ℕ) → i < nodes c → freed Z i a ≡ 𝟘
      freed-zero =
          settled_zero c h of_group r (IsRead s f) mate_read U (freed Z)
          (record {
            few = few;
            off = λ i a il al read out.
                freed-out Z a i (ne_eqb _ _ (outside i il out))
                ∙ asked i a il al read ((λ e. outside i il out (ap (group s) e)), inr out);
            meets = λ a al read. freed-meets r Z a (meets a al read);
          })

      column-zero : (b : ℕ) → b < rows c → Z f b ≡ 𝟘
      column-zero b bl =
          sym
          (sym weightless
          ∙ weight-split c h Z (mate_row s b f) (mate_node s b f)
          ∙ ap₂ ◌⊕◌ (no_own ∙ R.mul-zero F _) (ap₂ Z (mate_mate_node s some b f) (mate_mate_row s some b f))
          ∙ R.zero-add F _)
        where
          il : mate_node s b f < nodes c
          il = mate_node_lt s some m b f fl

          al : mate_row s b f < rows c
          al = mate_row_lt s some m b f fl bl

          weightless : weight c Z (mate_row s b f) (mate_node s b f) ≡ 𝟘
          weightless = sym (freed_in Z _ _ (eq-eqb _ _ (mate_group s some b f))) ∙ freed-zero (mate_row s b f) al (failed_mate_read b) (mate_node s b f) il

          no_own : factor c (side s (mate_row s b f) (mate_node s b f)) ⊗ Z (mate_node s b f) (mate_row s b f) ≡ factor c (side s (mate_row s b f) (mate_node s b f)) ⊗ 𝟘
          no_own =
              own-part Z (λ i a. 𝟘) (mate_row s b f) (mate_node s b f) (failed_mate_read b)
              (λ ne. asked (mate_node s b f) (mate_row s b f) il al (failed_mate_read b) (ne, inl (mate_group s some b f)))

      read-zero : (i a : ℕ) → i < nodes c → a < rows c → IsRead s f a → Z i a ≡ 𝟘
      read-zero i a il al read = go (ℕ_discrete (group s i) (group s f)) (ℕ_discrete i f)
        where
          go : Dec (group s i ≡ group s f) → Dec (i ≡ f) → Z i a ≡ 𝟘
          go (no ne) d = sym (freed-out Z a i (ne_eqb _ _ ne)) ∙ freed-zero a al read i il
          go (yes e) (yes q) = ap (λ j. Z j a) q ∙ column-zero a al
          go (yes e) (no ne) = asked i a il al read (ne, inl e)

    -- two rebuilds from the same fractions
    module _ (few : count (nodes c) U ≤ r) (G D D' : Stripe c) (v : Rebuilds c r f U G D) (w : Rebuilds c r f U G D') where
      differ_asked : (i a : ℕ) → i < nodes c → a < rows c → IsRead s f a → Helps s f U i → plus c D D' i a ≡ 𝟘
      differ_asked i a il al read helps = R.equal→zero F (v.given i a il al read helps ∙ sym (w.given i a il al read helps))

      differ_meets : (a : ℕ) → a < rows c → IsRead s f a → MeetsRow c r (plus c D D') a
      differ_meets a al read = meets-add c r D D' a (v.meets a al read) (w.meets a al read)

      -- have the same column
      pub rebuilds_column : (b : ℕ) → b < rows c → D f b ≡ D' f b
      rebuilds_column b bl = R.zero→equal F (column-zero (plus c D D') few differ_asked differ_meets b bl)

      -- and the same fractions, of nodes asked and not asked
      pub rebuilds_fractions : (i a : ℕ) → i < nodes c → a < rows c → IsRead s f a → D i a ≡ D' i a
      rebuilds_fractions i a il al read = R.zero→equal F (read-zero (plus c D D') few differ_asked differ_meets i a il al read)

    -- a rebuild from any fractions, by the fill E of U with f's group free
    module _ (G E : Stripe c) (level : Level c r of_group U G (suc m) E) where
      -- the column, from the weights of f's group
      column : ℕ → K
      column b = E (mate_node s b f) (mate_row s b f) ⊕ factor c (side s (mate_row s b f) (mate_node s b f)) ⊗ G (mate_node s b f) (mate_row s b f)

      others : Stripe c
      others i a = cond (of_group (group s i)) (G i a) (E i a)

      rebuilt : Stripe c
      rebuilt = changed f column others

      rebuilt_mate : (i a : ℕ) → i < nodes c → (i ≡ f → ⊥) → group s i ≡ group s f → rebuilt i a ≡ G i a
      unfolding rebuilt others
      rebuilt_mate i a il ne e = ap (λ x. x a) (changed-other f column others i ne) ∙ rw (eq-eqb _ _ e)

      rebuilt-rest : (i a : ℕ) → of_group (group s i) ≡ false → rebuilt i a ≡ E i a
      unfolding rebuilt others
      rebuilt-rest i a e = ap (λ x. x a) (changed-other f column others i (λ q. eqb-false _ _ e (ap (group s) q))) ∙ rw e

      -- f at the mate row of a node of its group
      rebuilt-column : (i a : ℕ) → IsRead s f a → group s i ≡ group s f
          → rebuilt (mate_node s a i) (mate_row s a i) ≡ E i a ⊕ factor c (side s a i) ⊗ G i a
      unfolding rebuilt column
      rebuilt-column i a read e =
          ap (λ j. rebuilt j (mate_row s a i)) at_f
          ∙ ap (λ x. x (mate_row s a i)) (changed-same f column others)
          ∙ ap₂ (λ j d. E j d ⊕ factor c (side s d j) ⊗ G j d)
          (ap (mate_node s (mate_row s a i)) (sym at_f) ∙ mate_mate_node s some a i)
          (ap (mate_row s (mate_row s a i)) (sym at_f) ∙ mate_mate_row s some a i)
        where
          at_f : mate_node s a i ≡ f
          at_f = mate_failed a i read e

      rebuilt-weight : (a : ℕ) → IsRead s f a → (i : ℕ) → i < nodes c → weight c rebuilt a i ≡ weight_free c of_group E a i
      rebuilt-weight a read i il = go (of_group (group s i)) refl
        where
          go : (b : Bool) → of_group (group s i) ≡ b → weight c rebuilt a i ≡ weight_free c of_group E a i
          go true e =
              let same : group s i ≡ group s f = eqb-true _ _ e in
              weight-split c h rebuilt a i
              ∙ ap₂ ◌⊕◌ (own-part rebuilt G a i read (λ ne. rebuilt_mate i a il ne same)) (rebuilt-column i a read same)
              ∙ add-around F _ _
              ∙ sym (weight-free c of_group E a i e)
          go false e =
              weight_ext c rebuilt E a i (rebuilt-rest i a e) (rebuilt-rest (mate_node s a i) (mate_row s a i) (ap of_group (mate_group s some a i) ∙ e))
              ∙ sym (weight-bound c of_group E a i e)

      rebuilt-given : (i a : ℕ) → i < nodes c → a < rows c → Helps s f U i → rebuilt i a ≡ G i a
      rebuilt-given i a il al (ne, helps) = go helps
        where
          go : (group s i ≡ group s f) ⊎ (U i ≡ false) → rebuilt i a ≡ G i a
          go (inl e) = rebuilt_mate i a il ne e
          go (inr out) = rebuilt-rest i a (ne_eqb _ _ (outside i il out)) ∙ level.kept i a il al out

      rebuilt_rebuilds : Rebuilds c r f U G rebuilt
      unfolding equation
      rebuilt_rebuilds = record {
        given = λ i a il al read helps. rebuilt-given i a il al helps;
        meets = λ a al read t l.
            moment_ext F (nodes c) point _ _ t (rebuilt-weight a read)
            ∙ level.meets a al (omega (arith, score_le s m of_group U a)) t l;
      }

    pub rebuilds_exists : count (nodes c) U ≡ r → (G : Stripe c) → (D : Stripe c) × Rebuilds c r f U G D
    rebuilds_exists exact G = let (E, level) = reached c h r of_group U exact G in (rebuilt G E level, rebuilt_rebuilds G E level)

  -- at rows read an equation speaks of f's column and of the fractions alone
  read_ext : (k : ℕ) (C D : Stripe c) → ((b : ℕ) → b < rows c → C f b ≡ D f b)
      → ((i a : ℕ) → i < nodes c → a < rows c → IsRead s f a → (i ≡ f → ⊥) → C i a ≡ D i a)
      → (a : ℕ) → a < rows c → IsRead s f a → MeetsRow c k C a → MeetsRow c k D a
  read_ext k C D col frac a al read w t l = sym (equation_ext c C D a t (λ i il. own i il (ℕ_discrete i f)) (λ i il. other i il (ℕ_discrete (group s i) (group s f)))) ∙ w t l
    where
      own : (i : ℕ) → i < nodes c → Dec (i ≡ f) → C i a ≡ D i a
      own i il (yes e) = rw e (col a al)
      own i il (no ne) = frac i a il al read ne

      other : (i : ℕ) → i < nodes c → Dec (group s i ≡ group s f) → C (mate_node s a i) (mate_row s a i) ≡ D (mate_node s a i) (mate_row s a i)
      other i il (yes e) = rw (mate_failed a i read e) (col (mate_row s a i) (mate_row_lt s some m a i il al))
      other i il (no ne) =
          frac (mate_node s a i) (mate_row s a i) (mate_node_lt s some m a i il) (mate_row_lt s some m a i il al)
          (mate_read a i il (ne_eqb _ _ ne) read)
          (λ e. ne (sym (mate_group s some a i) ∙ ap (group s) e))

  -- the nodes of f's group as a list
  pub group-lists : f < nodes c → Lists (nodes c) (in_group_of s f) s (λ u. node s (group s f) u)
  group-lists fl = record {
    below = λ u l. node_lt s m (group s f) u (group_lt s some m f fl) l;
    inside = λ u l. eq-eqb _ _ (group-node s (group s f) u l);
    once = λ u w ul wl e. sym (place-node s (group s f) u ul) ∙ ap (place s) e ∙ place-node s (group s f) w wl;
    all = λ i il e. (place s i, place_lt s some i, ap (λ v. node s v (place s i)) (sym (eqb-true _ _ e)) ∙ node-split s i);
  }

  -- all other nodes asked, and as many equations as a group has places
  module _ (fl : f < nodes c) (G : Stripe c) where
    group-exact : count (nodes c) (in_group_of s f) ≡ s
    group-exact = lists-count (nodes c) (in_group_of s f) s _ (group-lists fl)

    group_held : HoldsGroup c f (in_group_of s f)
    group_held i il e = eq-eqb _ _ e

    meets→rebuilds : (x : ℕ → K) → MeetsRead c s f G x → Rebuilds c s f (in_group_of s f) G (changed f x G)
    meets→rebuilds x w = record { given = λ i a il al read helps. ap (λ y. y a) (changed-other f x G i helps.0); meets = w }

    pub rebuilding-only : (x y : ℕ → K) → MeetsRead c s f G x → MeetsRead c s f G y → (b : ℕ) → b < rows c → x b ≡ y b
    rebuilding-only x y v w b bl =
        sym (ap (λ z. z b) (changed-same f x G))
        ∙ rebuilds_column fl s (in_group_of s f) group_held (omega (arith, group-exact)) G (changed f x G) (changed f y G) (meets→rebuilds x v) (meets→rebuilds y w) b bl
        ∙ ap (λ z. z b) (changed-same f y G)

    -- a stripe that has the fractions and meets the equations of the rows read: its column is the one
    pub column-meets : (k : ℕ) (C : Stripe c) → ((i a : ℕ) → i < nodes c → a < rows c → IsRead s f a → (i ≡ f → ⊥) → C i a ≡ G i a)
        → ((a : ℕ) → a < rows c → IsRead s f a → MeetsRow c k C a) → MeetsRead c k f G (C f)
    column-meets k C frac w a al read =
        read_ext k C (changed f (C f) G)
        (λ b bl. sym (ap (λ z. z b) (changed-same f (C f) G)))
        (λ i a il al read ne. frac i a il al read ne ∙ sym (ap (λ z. z a) (changed-other f (C f) G i ne)))
        a al read (w a al read)

    pub rebuilding_exists : (x : ℕ → K) × MeetsRead c s f G x
    rebuilding_exists =
        let (D, w) = rebuilds_exists fl s (in_group_of s f) group_held group-exact G in
        (D f, column-meets s D (λ i a il al read ne. w.given i a il al read (ne, helps i (ℕ_discrete (group s i) (group s f)))) w.meets)
      where
        helps : (i : ℕ) → Dec (group s i ≡ group s f) → (group s i ≡ group s f) ⊎ (in_group_of s f i ≡ false)
        helps i (yes e) = inl e
        helps i (no ne) = inr (ne_eqb _ _ ne)

    -- rebuilding from fractions cut out of a whole stripe gives its column
    pub whole→rebuilt : (C : Stripe c) → Whole c s C → ((i a : ℕ) → i < nodes c → a < rows c → IsRead s f a → (i ≡ f → ⊥) → C i a ≡ G i a)
        → (x : ℕ → K) → MeetsRead c s f G x → (b : ℕ) → b < rows c → x b ≡ C f b
    whole→rebuilt C w cut x v = rebuilding-only x (C f) v (column-meets s C cut (λ a al read. w a al))

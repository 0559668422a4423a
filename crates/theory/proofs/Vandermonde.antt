-- Vandermonde on any set of places: k equations settle the unknowns on at most k places, and on exactly k places every right-hand sides are reached. The
-- points are only known to differ: 0 may be among them. Both go by induction on the number of places, with a split on whether the last is in the set:
-- multiplying each unknown by the difference of its point from the last one's takes the last unknown out. In order: at most one; at least one; square
-- systems, and one solved for the units.
use mathlib.Core.Path.{◌≡◌, refl, sym, ap, ap₂, ◌∙◌}
use mathlib.Core.Bool.{Bool, true, false, true≢false}
use Prim.Native.Nat.{ℕ, zero, suc, ◌<◌, ◌≤◌}
use native.Mathlib.Numerals.{add-one}
use native.Mathlib.Omega.{arith}
use borrow.Author.Count.{below_more}
use Rattle.theory.specs.Field.{Field}
use Rattle.theory.specs.Set.{count, changed}
use Rattle.theory.specs.System.{Distinct, Vanishes, Reaches}
use Rattle.theory.specs.Sum.{sum}
use Rattle.theory.specs.Power.{power, moment}
use Rattle.theory.proofs.Ring as R
use Rattle.theory.proofs.Ring.{ring}
use Rattle.theory.proofs.Counts.{count-zero, count-suc, count_le, count-all, changed-same, changed-other, changed_case}
use Rattle.theory.proofs.Sums.{sum-suc, sum_ext, sum_one}
use Rattle.theory.proofs.Powers.{power_zero, moment-first, moment-suc, moment-short, moment_ext, moment-zero, moment-add, moment-sum, moment_shift}

module _ (F : Field) (p : ℕ → F.K) where
  open F use {K, zero as 𝟘, one as 𝟙, add as ◌⊕◌, mul as ◌⊗◌, inverse}

  infixl 60 ◌⊕◌
  infixl 70 ◌⊗◌
  fewer : (n : ℕ) → Distinct F p (suc n) → Distinct F p n
  fewer n d i j hi hj e = d i j (omega arith) (omega arith) e

  apart : (n : ℕ) → Distinct F p (suc n) → (i : ℕ) → i < n → p i ⊕ p n ≡ 𝟘 → ⊥
  apart n d i l e =
      let same : i ≡ n = d i n (omega arith) (omega arith) (R.zero→equal F e) in
      omega arith

  -- the unknowns times the difference of their points from the last one's: the last is out, and each sum is made of two of the old ones
  last_out : (n : ℕ) (x : ℕ → K) (t : ℕ)
      → moment F n p (λ i. (p i ⊕ p n) ⊗ x i) t ≡ moment F (suc n) p x (suc t) ⊕ p n ⊗ moment F (suc n) p x t
  last_out n x t =
      let y : ℕ → K = λ i. (p i ⊕ p n) ⊗ x i in
      let gone : power F (p n) t ⊗ y n ≡ 𝟘 = simp ring in
      sym (moment-suc F n p y t ∙ ap (λ w. moment F n p y t ⊕ w) gone ∙ F.add-zero _) ∙ moment_shift F (suc n) p (p n) x t

  abbrev Only : ℕ → Type 0
  Only n = (k : ℕ) (L : ℕ → Bool) (x : ℕ → K) → Distinct F p n → Vanishes F p n k L x → (i : ℕ) → i < n → x i ≡ 𝟘

  only_out : (n : ℕ) → Only n → (k : ℕ) (L : ℕ → Bool) (x : ℕ → K) → L n ≡ false → Distinct F p (suc n) → Vanishes F p (suc n) k L x → (i : ℕ) → i < suc n → x i ≡ 𝟘
  only_out n ih k L x out d v =
      let last : x n ≡ 𝟘 = v.off n (omega arith) out in
      let rest : Vanishes F p n k L x = record {
        few = omega (arith, simp (count-suc, out) at v.few);
        off = λ i l. v.off i (omega arith);
        sums = λ t l. sym (moment-short F n p x t last) ∙ v.sums t l;
      } in
      λ i l. below_more _ _ (ih k L x (fewer n d) rest) last i (simp add-one l)

  only_in : (n : ℕ) → Only n → (k : ℕ) (L : ℕ → Bool) (x : ℕ → K) → L n ≡ true → Distinct F p (suc n) → Vanishes F p (suc n) k L x → (i : ℕ) → i < suc n → x i ≡ 𝟘
  only_in n ih zero L x into d v = absurd (omega (arith, simp (count-suc, into) at v.few))
  only_in n ih (suc k) L x into d v = λ i l. below_more _ _ low last i (simp add-one l)
    where
      -- the last unknown taken out
      y : ℕ → K
      y i = (p i ⊕ p n) ⊗ x i

      rest : Vanishes F p n k L y
      rest = record {
        few = omega (arith, simp (count-suc, into) at v.few);
        off = λ i l o. simp (v.off i (omega arith) o, ring);
        sums = λ t l. last_out n x t ∙ simp (v.sums (suc t) (omega arith), v.sums t (omega arith), ring);
      }

      low : (i : ℕ) → i < n → x i ≡ 𝟘
      low i l = R.factor-zero F (apart n d i l) (ih k L y (fewer n d) rest i l)

      last : x n ≡ 𝟘
      last = sym (moment-suc F n p x 0 ∙ simp (moment-zero F n p x 0 low, power_zero, ring)) ∙ v.sums 0 (omega arith)

  pub vandermonde_only : (n k : ℕ) (L : ℕ → Bool) (x : ℕ → K) → Distinct F p n → Vanishes F p n k L x → (i : ℕ) → i < n → x i ≡ 𝟘
  vandermonde_only zero k L x d v i l = absurd (omega arith)
  vandermonde_only (suc n) k L x d v i l = go (L n) refl (vandermonde_only n)
    where
      go : (b : Bool) → L n ≡ b → Only n → x i ≡ 𝟘
      go true e ih = only_in n ih k L x e d v i l
      go false e ih = only_out n ih k L x e d v i l

  abbrev Reached : ℕ → Type 0
  Reached n = (k : ℕ) (L : ℕ → Bool) (b : ℕ → K) → Distinct F p n → count n L ≡ k → (x : ℕ → K) × Reaches F p n k L b x

  reached-none : Reached 0
  reached-none k L b d e = (λ i. 𝟘, record { off = λ i o. refl; sums = λ t l. absurd (omega (arith, count-zero L)) })

  reached-out : (n : ℕ) → Reached n → (k : ℕ) (L : ℕ → Bool) (b : ℕ → K) → L n ≡ false → Distinct F p (suc n) → count (suc n) L ≡ k
      → (x : ℕ → K) × Reaches F p (suc n) k L b x
  reached-out n ih k L b out d e =
      let (x, h) = ih k L b (fewer n d) (omega (arith, simp (count-suc, out) at e)) in
      (x, record { off = h.off; sums = λ t l. moment-short F n p x t (h.off n out) ∙ h.sums t l })

  module _ (n k : ℕ) (L : ℕ → Bool) (b : ℕ → K) (into : L n ≡ true) (d : Distinct F p (suc n)) (y : ℕ → K)
      (h : Reaches F p n k L (λ t. b (suc t) ⊕ p n ⊗ b t) y) where
    -- the unknowns before the last, and with the last, which makes the first sum right
    before : ℕ → K
    before i = inverse (p i ⊕ p n) ⊗ y i

    extended : ℕ → K
    extended = changed n (b 0 ⊕ sum F n before) before

    extended-last : extended n ≡ b 0 ⊕ sum F n before
    unfolding extended
    extended-last = changed-same n _ before

    extended-before : (i : ℕ) → i < n → extended i ≡ before i
    unfolding extended
    extended-before i l = changed-other n _ before i (omega arith)

    extended-first : moment F (suc n) p extended 0 ≡ b 0
    extended-first =
        moment-first F (suc n) p extended ∙ sum-suc F n extended
        ∙ ap₂ ◌⊕◌ (sum_ext F n extended before extended-before) extended-last ∙ simp ring

    extended_shifted : (t : ℕ) → moment F n p (λ i. (p i ⊕ p n) ⊗ extended i) t ≡ moment F n p y t
    unfolding before
    extended_shifted t = moment_ext F n p _ y t (λ i l. ap (λ w. (p i ⊕ p n) ⊗ w) (extended-before i l) ∙ R.mul-inverse-right F _ _ (apart n d i l))

    extended-sums : (t : ℕ) → t < suc k → moment F (suc n) p extended t ≡ b t
    extended-sums zero l = extended-first
    extended-sums (suc t) l = go (extended-sums t (omega arith))
      where
        go : moment F (suc n) p extended t ≡ b t → moment F (suc n) p extended (suc t) ≡ b (suc t)
        go ih =
            R.add_cancel_right F (p n ⊗ b t)
            (ap (λ w. moment F (suc n) p extended (suc t) ⊕ p n ⊗ w) (sym ih)
            ∙ sym (last_out n extended t)
            ∙ extended_shifted t
            ∙ h.sums t (omega arith))

    extended-off : (i : ℕ) → L i ≡ false → extended i ≡ 𝟘
    unfolding extended before
    extended-off i o =
        changed_case (λ w. w ≡ 𝟘) n _ before i
        (λ e. absurd (true≢false (sym into ∙ sym (ap L e) ∙ o)))
        (λ ne. simp (h.off i o, ring))

    extended_reaches : Reaches F p (suc n) (suc k) L b extended
    extended_reaches = record { off = extended-off; sums = extended-sums }

  reached_in : (n : ℕ) → Reached n → (k : ℕ) (L : ℕ → Bool) (b : ℕ → K) → L n ≡ true → Distinct F p (suc n) → count (suc n) L ≡ k
      → (x : ℕ → K) × Reaches F p (suc n) k L b x
  reached_in n ih zero L b into d e = absurd (omega (arith, simp (count-suc, into) at e))
  reached_in n ih (suc k) L b into d e =
      let (y, h) = ih k L (λ t. b (suc t) ⊕ p n ⊗ b t) (fewer n d) (omega (arith, simp (count-suc, into) at e)) in
      (extended n k L b into d y h, extended_reaches n k L b into d y h)

  pub vandermonde_reached : (n k : ℕ) (L : ℕ → Bool) (b : ℕ → K) → Distinct F p n → count n L ≡ k → (x : ℕ → K) × Reaches F p n k L b x
  vandermonde_reached zero k L b d e = reached-none k L b d e
  vandermonde_reached (suc n) k L b d e = go (L n) refl (vandermonde_reached n)
    where
      go : (e : Bool) → L n ≡ e → Reached n → (x : ℕ → K) × Reaches F p (suc n) k L b x
      go true into ih = reached_in n ih k L b into d e
      go false out ih = reached-out n ih k L b out d e

  -- two solutions on at most k places are one
  pub vandermonde_same : (n k : ℕ) (L : ℕ → Bool) (b x y : ℕ → K) → Distinct F p n → count n L ≤ k → Reaches F p n k L b x → Reaches F p n k L b y
      → (i : ℕ) → i < n → x i ≡ y i
  vandermonde_same n k L b x y d few v w i l =
      R.zero→equal F
      (vandermonde_only n k L (λ i. x i ⊕ y i) d
      (record {
        few = few;
        off = λ i il out. R.equal→zero F (v.off i out ∙ sym (w.off i out));
        sums = λ t tl. moment-add F n p x y t ∙ R.equal→zero F (v.sums t tl ∙ sym (w.sums t tl));
      })
      i l)

  -- a square system: as many equations as places
  all_in : ℕ → Bool
  all_in i = true

  square_reaches : (n : ℕ) (b x : ℕ → K) → ((t : ℕ) → t < n → moment F n p x t ≡ b t) → Reaches F p n n all_in b x
  unfolding all_in
  square_reaches n b x h = record { off = λ i out. absurd (true≢false out); sums = h }

  pub square_only : (n : ℕ) (x y : ℕ → K) → Distinct F p n → ((t : ℕ) → t < n → moment F n p x t ≡ moment F n p y t) → (i : ℕ) → i < n → x i ≡ y i
  square_only n x y d h = vandermonde_same n n all_in _ x y d (count_le n all_in) (square_reaches n _ x h) (square_reaches n _ y (λ t l. refl))

  pub square_reached : (n : ℕ) (b : ℕ → K) → Distinct F p n → (x : ℕ → K) × ((t : ℕ) → t < n → moment F n p x t ≡ b t)
  unfolding all_in
  square_reached n b d = let (x, h) = vandermonde_reached n n all_in b d (count-all n all_in (λ i l. refl)) in (x, h.sums)

  -- a square system solved for the units is solved for all right-hand sides: x u solves the u-th unit
  pub units_solve : (k : ℕ) (unit : ℕ → ℕ → K)
      → ((u : ℕ) → u < k → unit u u ≡ 𝟙)
      → ((u t : ℕ) → u < k → t < k → (u ≡ t → ⊥) → unit u t ≡ 𝟘)
      → (x : ℕ → ℕ → K) → ((u t : ℕ) → u < k → t < k → moment F k p (x u) t ≡ unit u t)
      → (b : ℕ → K) (t : ℕ) → t < k → moment F k p (λ j. sum F k (λ u. x u j ⊗ b u)) t ≡ b t
  units_solve k unit own other x solves b t l =
      moment-sum F k k p x b t
      ∙ sum_one F k t _ l (λ u ul ne. ap (λ w. b u ⊗ w) (solves u t ul l ∙ other u t ul l ne) ∙ R.mul-zero F _)
      ∙ ap (λ w. b t ⊗ w) (solves t t l l ∙ own t l)
      ∙ F.mul-one _

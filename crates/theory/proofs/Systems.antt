-- The equations of one row as a square system with the known part on the other side. In order: for filling, in the weights of the lost nodes; for
-- rebuilding, in the symbols of the failed column; the points of both differ, so that Vandermonde settles and solves them.
use mathlib.Core.Path.{◌≡◌, refl, sym, ap, ap₂, ◌∙◌}
use mathlib.Core.Bool.{Bool, true, false, not, cond}
use mathlib.Core.Logic.{◌↔◌}
use Prim.Native.Nat.{ℕ, ◌<◌}
use lib.Dec.{eqb}
use Rattle.theory.specs.Sum.{sum_over}
use Rattle.theory.specs.Set.{Lists, changed}
use Rattle.theory.specs.Power.{moment, moment_over}
use Rattle.theory.specs.System.{Distinct}
use Rattle.theory.specs.Code.{Code, Stripe, Lawful, nodes}
use Rattle.theory.specs.Digit.{with_digit, group, place, node}
use Rattle.theory.specs.Weight.{weight}
use Rattle.theory.specs.Share.{spread, share}
use Rattle.theory.specs.Whole.{equation, MeetsRow}
use Rattle.theory.specs.Read.{IsRead, known}
use Rattle.theory.proofs.Ring as R
use Rattle.theory.proofs.Counts.{changed-same}
use Rattle.theory.proofs.Sums.{sum_ext, sum-at}
use Rattle.theory.proofs.Powers.{moment-over-split, moment-over-list}
use Rattle.theory.proofs.Digits.{place-node, node_lt}
use Rattle.theory.proofs.Mates.{own-side}
use Rattle.theory.proofs.Shares.{equation_shares, share-own}

module _ (c : Code) where
  open c use {field as F, point}
  open F use {K, add as ◌⊕◌}

  infixl 60 ◌⊕◌
  -- the lost nodes as a list e: as many unknowns as are lost, and the kept weights on the other side
  pub lost_system : (k q : ℕ) (L : ℕ → Bool) (e : ℕ → ℕ) (C : Stripe c) (a : ℕ) → Lists (nodes c) L q e
      → MeetsRow c k C a
      ↔ ((t : ℕ) → t < k → moment F q (λ j. point (e j)) (λ j. weight c C a (e j)) t ≡ moment_over F (nodes c) (λ i. not (L i)) point (weight c C a) t)
  unfolding equation
  lost_system k q L e C a lists = (
    λ w t l. R.zero→equal F (sym (split t) ∙ w t l),
    λ w t l. split t ∙ R.equal→zero F (w t l),
  )
    where
      split : (t : ℕ) → moment F (nodes c) point (weight c C a) t
          ≡ moment F q (λ j. point (e j)) (λ j. weight c C a (e j)) t ⊕ moment_over F (nodes c) (λ i. not (L i)) point (weight c C a) t
      split t =
          moment-over-split F (nodes c) L point (weight c C a) t
          ∙ ap (λ w. w ⊕ moment_over F (nodes c) (λ i. not (L i)) point (weight c C a) t) (moment-over-list F (nodes c) L q e point (weight c C a) t lists)

module _ (c : Code) (h : Lawful c) where
  open c use {field as F, s, m, point}
  open F use {K, zero as 𝟘, add as ◌⊕◌}

  infixl 60 ◌⊕◌
  pub lost-distinct : (k : ℕ) (L : ℕ → Bool) (e : ℕ → ℕ) → Lists (nodes c) L k e → Distinct F (λ j. point (e j)) k
  lost-distinct k L e l i j il jl q = l.once i j il jl (h.distinct (e i) (e j) (l.below i il) (l.below j jl) q)

  pub group-distinct : (v : ℕ) → v < m → Distinct F (λ w. point (node s v w)) s
  group-distinct v vl u w ul wl q =
      sym (place-node s v u ul) ∙ ap (place s) (h.distinct _ _ (node_lt s m v u vl ul) (node_lt s m v w vl wl) q) ∙ place-node s v w wl

  -- the column f spreads over its group's points; the other columns' shares are known
  pub read-equation : (f : ℕ) (x : ℕ → K) (G : Stripe c) (a t : ℕ) → f < nodes c → IsRead s f a
      → equation c (changed f x G) a t ≡ spread c t (group s f) x a ⊕ known c t f G a
  unfolding known sum_over changed
  read-equation f x G a t fl read =
      equation_shares c h (changed f x G) a t
      ∙ sum-at F (nodes c) f _ fl
      ∙ ap₂ ◌⊕◌
      (ap (λ y. share c t f y a) (changed-same f x G) ∙ share-own c h t f x a (own-side s h.some-place a f (sym read)))
      (sum_ext F (nodes c) _ _ (λ i il. one (eqb i f) i))
    where
      one : (b : Bool) (i : ℕ) → cond b 𝟘 (share c t i (cond b x (G i)) a) ≡ cond (not b) (share c t i (G i) a) 𝟘
      one true i = refl
      one false i = refl

  pub read_system : (k f : ℕ) (x : ℕ → K) (G : Stripe c) (a : ℕ) → f < nodes c → IsRead s f a
      → MeetsRow c k (changed f x G) a
      ↔ ((t : ℕ) → t < k → moment F s (λ w. point (node s (group s f) w)) (λ w. x (with_digit s a (group s f) w)) t ≡ known c t f G a)
  unfolding spread
  read_system k f x G a fl read = (
    λ w t l. R.zero→equal F (sym (read-equation f x G a t fl read) ∙ w t l),
    λ w t l. read-equation f x G a t fl read ∙ R.equal→zero F (w t l),
  )

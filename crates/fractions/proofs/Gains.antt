-- Laws of what is added to running sums. In order: γ; the shares of the nodes of a group, one node more; weights that are a multiple of a fraction; a fraction
-- put among zeros, as the column of one place of a group.
use mathlib.Core.Path.{◌≡◌, refl, sym, ap, ap₂, ◌∙◌, subst}
use mathlib.Core.Bool.{cond}
use mathlib.Core.List.{List}
use mathlib.Core.Logic.{◌⊎◌, inl, inr}
use Prim.Native.Nat.{ℕ, suc, ◌+◌, ◌-◌, ◌*◌, ◌/◌, ◌%◌, ◌<◌, ◌≤◌, compare}
use native.Mathlib.Decide.{ℕ_discrete}
use native.Mathlib.Nat.{mod-lt}
use native.Mathlib.Numerals.{add-one}
use native.Mathlib.Omega.{arith}
use lib.Dec.{eqb}
use lib.ListN.{length, get_or, take, drop, replicate, length-replicate, get_or-replicate}
use borrow.Author.Tests.{eq-eqb, ne_eqb}
use borrow.Rule.Slice.PartMut.{put_mid}
use Rattle.field.specs.Number.{add, mul, power}
use Rattle.field.proofs.Xor.{zero-add, add-zero, add_assoc}
use Rattle.rules.specs.declared.shapes.Shape.{Shape}
use Rattle.rules.specs.Point.{point_of, γ}
use Rattle.rules.specs.Equation.{weighed, sum_below}
use Rattle.rules.proofs.Ties.{sum_same}
use Rattle.columns.specs.Promise.{Multiplied, CopiedOver}
use Rattle.columns.proofs.Kernels.{column-within, entry-within}
use Rattle.columns.proofs.Parts.{zeros-length, zeros-byte, part_length, put-before, put-inside, put-after}
use Rattle.weights.specs.Promise.{Shared, weight_at}
use Rattle.fractions.specs.Kernel.{Gained, gain, lone, weight_of}
use Rattle.yebarg.proofs.Lists.{copied-whole}
use Rattle.fractions.proofs.Positions.{lt_or_gt, with_part, set-within}

pub gamma_is : γ ≡ 2
unfolding γ
gamma_is = refl

gain-zero : (sh : Shape) (first : ℕ) (weights : ℕ → ℕ → ℕ) (t a : ℕ) → gain sh first 0 weights t a ≡ 0
unfolding gain sum_below
gain-zero sh first weights t a = refl

gain-suc : (sh : Shape) (first x : ℕ) (weights : ℕ → ℕ → ℕ) (t a : ℕ)
    → gain sh first (suc x) weights t a ≡ add (gain sh first x weights t a) (mul (power (point_of sh (suc (first + x))) t) (weights x a))
unfolding gain sum_below
gain-suc sh first x weights t a = refl

pub gained_start : (sh : Shape) (first r l : ℕ) (weights : ℕ → ℕ → ℕ) (sums : List ℕ) → Gained r l (gain sh first 0 weights) sums sums
gained_start sh first r l weights sums = record {
  same_length = refl;
  bytes = λ t a ht ha. sym (ap (add (get_or sums (t * l + a) 0)) (gain-zero sh first weights t a) ∙ add-zero (get_or sums (t * l + a) 0));
}

pub gained-step : (sh : Shape) (first r l x p : ℕ) (weights : ℕ → ℕ → ℕ) (before xs ys : List ℕ)
    → p ≡ point_of sh (first + x + 1)
    → Gained r l (gain sh first x weights) before xs
    → Shared r p l (weights x) xs ys
    → Gained r l (gain sh first (x + 1) weights) before ys
gained-step sh first r l x p weights before xs ys is-point was shared = record {
  same_length = shared.same_length ∙ was.same_length;
  bytes = λ t a ht ha.
      shared.bytes t a ht ha
      ∙ ap₂ (λ b q. add b (mul (power q t) (weights x a))) (was.bytes t a ht ha) (is-point ∙ ap (point_of sh) (add-one (first + x)))
      ∙ add_assoc _ _ _
      ∙ ap (add (get_or before (t * l + a) 0)) (sym (gain-suc sh first x weights t a) ∙ ap (λ k. gain sh first k weights t a) (sym (add-one x)));
}

-- c times a fraction, put into the front of an array of zeros
module _ (given : List ℕ) (c n k : ℕ) (few : n ≤ k) (after : List ℕ) (product : Multiplied c given (take n (replicate {A = ℕ} k 0)) after) where
  pub multiple-length : length after ≡ n
  multiple-length = product.same_length ∙ zeros-length n k few

  multiple-byte : (a : ℕ) → a < n → get_or after a 0 ≡ mul c (get_or given a 0)
  multiple-byte a ha =
      product.bytes a (omega (arith, ha, zeros-length n k few))
      ∙ ap (λ z. add z (mul c (get_or given a 0))) (zeros-byte n k few a ha)
      ∙ zero-add (mul c (get_or given a 0))

  -- and shared out
  pub multiple_shared : (r p : ℕ) (x y : List ℕ) → Shared r p (length after) (λ a. get_or after a 0) x y → Shared r p n (λ a. mul c (get_or given a 0)) x y
  multiple_shared r p x y shared =
      let was = subst (λ m. Shared r p m (λ a. get_or after a 0) x y) multiple-length shared in
      record {
        same_length = was.same_length;
        bytes = λ t a ht ha. was.bytes t a ht ha ∙ ap (λ b. add (get_or x (t * n + a) 0) (mul (power p t) b)) (multiple-byte a ha);
      }

pub gain-same : (sh : Shape) (first s : ℕ) (weights others : ℕ → ℕ → ℕ) (t a : ℕ) → ((x : ℕ) → x < s → weights x a ≡ others x a)
    → gain sh first s weights t a ≡ gain sh first s others t a
unfolding gain
gain-same sh first s weights others t a h = sum_same s _ _ (λ x l. ap (mul (power (point_of sh (suc (first + x))) t)) (h x l))

-- the fraction `given` is copied over the zeros of an array, at place h of a group of s columns: `over` is what the part holds then
--   placed == the array then
pub part_ends : (s h k : ℕ) (given : List ℕ) → h < s → length given * s ≤ k → h * length given + length given ≤ k
part_ends s h k given inside room = omega (arith, column-within (length given) inside, room)

module _ (s h k : ℕ) (given over : List ℕ) (inside : h < s) (room : length given * s ≤ k)
    (copied :
    CopiedOver given (take (h * length given + length given - h * length given) (drop (h * length given) (replicate {A = ℕ} k 0))) over) where
  abbrev placed : List ℕ
  placed = put_mid (h * length given) (h * length given + length given - h * length given) (replicate k 0) over

  fits : h * length given + length given ≤ length (replicate {A = ℕ} k 0)
  fits = omega (arith, part_ends s h k given inside room, length-replicate {A = ℕ} k 0)

  over-is : over ≡ given
  over-is = copied-whole (part_length (h * length given) (length given) (replicate k 0) fits) copied

  exact : length over ≡ length given
  exact = ap length over-is

  zero-at : (u a : ℕ) → u < s → a < length given → get_or (replicate {A = ℕ} k 0) (u * length given + a) 0 ≡ 0
  zero-at u a hu ha = get_or-replicate k (u * length given + a) 0 0 (omega (arith, entry-within hu ha, room))

  placed-byte : (u a : ℕ) → u < s → a < length given → get_or placed (u * length given + a) 0 ≡ lone h given u a
  unfolding lone
  placed-byte u a hu ha = go (ℕ_discrete u h)
    where
      go : Dec (u ≡ h) → get_or placed (u * length given + a) 0 ≡ cond (eqb u h) (get_or given a 0) 0
      go (yes e) =
          rw (eq-eqb u h e, e)
          (put-inside (h * length given) (length given) (replicate k 0) fits over exact a ha ∙ ap (λ (xs : List ℕ). get_or xs a 0) over-is)
      go (no ne) = rw (ne_eqb u h ne) (side (lt_or_gt u h ne))
        where
          side : (u < h) ⊎ (h < u) → get_or placed (u * length given + a) 0 ≡ 0
          side (inl l) =
              put-before (h * length given) (length given) (replicate k 0) fits over exact (u * length given + a) (entry-within l ha) ∙ zero-at u a hu ha
          side (inr l) =
              put-after (h * length given) (length given) (replicate k 0) fits over exact (u * length given + a)
              (omega (arith, column-within (length given) l))
              ∙ zero-at u a hu ha

  module _ (w : ℕ) (counts : 0 < w) (whole : length given % (w * s) ≡ 0) where
    placed-weight : (x a : ℕ) → x < s → a < length given → weight_at s w (length given) placed x a ≡ weight_of s w (lone h given) x a
    unfolding weight_at weight_of
    placed-weight x a hx ha =
        ap₂ (weighed (compare x (a / w % s))) (placed-byte x a hx ha)
        (placed-byte (a / w % s) (with_part s w a x) (mod-lt (a / w) some) (set-within s w some counts (length given) a x whole hx ha))
      where
        some : 0 < s
        some = omega (arith, inside)

    pub lone-gained : (sh : Shape) (first r : ℕ) (before later : List ℕ)
        → Gained r (length given) (gain sh first s (weight_at s w (length given) placed)) before later
        → Gained r (length given) (gain sh first s (weight_of s w (lone h given))) before later
    lone-gained sh first r before later was = record {
      same_length = was.same_length;
      bytes = λ t a ht ha.
          was.bytes t a ht ha
          ∙ ap (add (get_or before (t * length given + a) 0)) (gain-same sh first s _ _ t a (λ x hx. placed-weight x a hx ha));
    }

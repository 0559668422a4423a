-- Facts about accepted shapes. In order: a shape is accepted or refused with 1; what acceptance says, both ways; how many nodes and groups there are; every
-- accepted shape at once, by one computed test: s × m is at most 16, which with l at most 256 are the bounds that source 000 puts on the field.
--   Bounds sh == what it says of n, r and l that the shape is accepted
use mathlib.Core.Path.{◌≡◌, refl, sym, ◌∙◌, subst}
use mathlib.Core.Bool.{Bool, true, false, cond, not, ◌&&◌, ◌||◌, false≢true}
use mathlib.Core.Logic.{◌⊎◌, inl, inr}
use mathlib.Core.Option.{Option, none, some, none-ne-some, some-ne-none}
use Prim.Native.Nat.{ℕ, ◌+◌, ◌-◌, ◌*◌, ◌/◌, ◌^◌, ◌<◌, ◌≤◌}
use native.Mathlib.Nat.{lt-div-mul-add, div-mul-le_self, div-lt_iff_lt-mul}
use native.Mathlib.Omega.{arith}
use lib.Dec.{T, leb, leb→le}
use borrow.Author.Tests.{le-leb, not-false}
use Rattle.field.proofs.Tests.{all, all-at}
use Rattle.rules.specs.declared.shapes.Shape.{Shape}
use Rattle.rules.specs.Shape.{group_size, groups, rows, accepted}
use Rattle.rules.specs.Refusal.{shape_refusal}
use Rattle.rules.specs.Bench.{shape}

pub record Bounds (sh : Shape) : Type 0 where
  pub r-least : 2 ≤ sh.r
  pub r-most : sh.r ≤ 4
  pub n-least : sh.r + 1 ≤ sh.n
  pub n-most : sh.n ≤ 16
  pub l-most : rows sh ≤ 256

-- a shape is accepted, or refused with 1
pub refusal-cases : (sh : Shape) → ((accepted sh ≡ true) × (shape_refusal sh ≡ none)) ⊎ ((accepted sh ≡ false) × (shape_refusal sh ≡ some 1))
unfolding shape_refusal
refusal-cases sh = go (accepted sh) refl
  where
    go : (b : Bool) → accepted sh ≡ b
        → ((accepted sh ≡ true) × (cond {A = Option ℕ} (not (accepted sh)) (some 1) none ≡ none))
        ⊎ ((accepted sh ≡ false) × (cond {A = Option ℕ} (not (accepted sh)) (some 1) none ≡ some 1))
    go true e = inl (e, simp e)
    go false e = inr (e, simp e)

pub is-accepted : (sh : Shape) → shape_refusal sh ≡ none → accepted sh ≡ true
is-accepted sh h = elim (refusal-cases sh) [ inl e ↦ e.0 | inr e ↦ absurd (some-ne-none 1 (sym e.1 ∙ h)) ]

pub not_refused : (sh : Shape) → not (accepted sh) ≡ false → shape_refusal sh ≡ none
unfolding shape_refusal
not_refused sh h = simp (not-false (accepted sh) h)

pub is-refused : (sh : Shape) (q : ℕ) → shape_refusal sh ≡ some q → (accepted sh ≡ false) × (shape_refusal sh ≡ some 1)
is-refused sh q h = elim (refusal-cases sh) [ inl e ↦ absurd (none-ne-some q (sym e.1 ∙ h)) | inr e ↦ e ]

-- five tests in one
pub five : (a b c d e : Bool) → T (a && b && c && d && e) → T a × T b × T c × T d × T e
five true true true true true h = (tt, tt, tt, tt, tt)
five true true true true false h = absurd h
five true true true false e h = absurd h
five true true false d e h = absurd h
five true false c d e h = absurd h
five false b c d e h = absurd h

pub bounds : (sh : Shape) → shape_refusal sh ≡ none → Bounds sh
unfolding accepted
bounds sh e =
    let h = five (leb 2 sh.r) (leb sh.r 4) (leb (sh.r + 1) sh.n) (leb sh.n 16) (leb (rows sh) 256) (subst T (sym (is-accepted sh e)) tt) in
    record {
      r-least = leb→le 2 sh.r h.0;
      r-most = leb→le sh.r 4 h.1;
      n-least = leb→le (sh.r + 1) sh.n h.2;
      n-most = leb→le sh.n 16 h.3;
      l-most = leb→le (rows sh) 256 h.4;
    }

pub bounds→accepted : (sh : Shape) → Bounds sh → shape_refusal sh ≡ none
unfolding shape_refusal accepted
bounds→accepted sh b =
    simp (
      le-leb 2 sh.r b.r-least,
      le-leb sh.r 4 b.r-most,
      le-leb (sh.r + 1) sh.n b.n-least,
      le-leb sh.n 16 b.n-most,
      le-leb (rows sh) 256 b.l-most,
    )

-- what breaks one of the bounds is refused with 1
pub not_bounds→refused : (sh : Shape) → (Bounds sh → ⊥) → shape_refusal sh ≡ some 1
not_bounds→refused sh h = elim (refusal-cases sh) [ inl e ↦ absurd (h (bounds sh e.1)) | inr e ↦ e.1 ]

pub size-some : (sh : Shape) → Bounds sh → 0 < group_size sh
unfolding group_size
size-some sh b = omega (arith, b.r-least)

-- the nodes of all groups, phantoms too
pub nodes-least : (sh : Shape) → Bounds sh → sh.n ≤ groups sh * group_size sh
unfolding groups
nodes-least sh b = omega (arith, size-some sh b, lt-div-mul-add {a = sh.n + group_size sh - 1} (size-some sh b))

-- fewer phantoms than a group has places
pub phantoms_few : (sh : Shape) → Bounds sh → groups sh * group_size sh < sh.n + group_size sh
unfolding groups
phantoms_few sh b = omega (arith, size-some sh b, b.n-least, div-mul-le_self (sh.n + group_size sh - 1) (group_size sh))

-- fewer than nine groups
pub few-groups : (x s : ℕ) → 0 < s → x < 9 * s → x / s ≤ 8
few-groups x s pos h = omega (arith, (div-lt_iff_lt-mul {k = s} {x = x} {y = 9} pos).1 h)

pub groups-most : (sh : Shape) → Bounds sh → groups sh ≤ 8
unfolding groups group_size
groups-most sh b = few-groups (sh.n + sh.r - 1) sh.r (omega (arith, b.r-least)) (omega (arith, b.r-least, b.n-most))

-- every accepted shape at once
abbrev within : ℕ → ℕ → Bool
within n r = not (accepted (shape n r)) || leb (groups (shape n r) * group_size (shape n r)) 16

tested : T (all (λ n. all (λ r. within n r) 5) 17)
unfolding accepted groups group_size rows
tested = tt

within_all : (sh : Shape) → Bounds sh → T (within sh.n sh.r)
within_all sh b =
    all-at (λ r. within sh.n r) 5
    (all-at (λ n. all (λ r. within n r) 5) 17 tested sh.n (omega (arith, b.n-most)))
    sh.r
    (omega (arith, b.r-most))

pub nodes-most : (sh : Shape) → Bounds sh → groups sh * group_size sh ≤ 16
nodes-most sh b = go (accepted sh) (is-accepted sh (bounds→accepted sh b)) (within_all sh b)
  where
    go : (t : Bool) → t ≡ true → T (not t || leb (groups sh * group_size sh) 16) → groups sh * group_size sh ≤ 16
    go true e h = leb→le (groups sh * group_size sh) 16 h
    go false e h = absurd (false≢true e)

-- both bounds that source 000 puts on the field's size, its abstract's and its constructions': r^m and r × m, with s = r
pub field_large_enough : (sh : Shape) → Bounds sh → (group_size sh ^ groups sh ≤ 256) × (group_size sh * groups sh ≤ 16)
unfolding rows
field_large_enough sh b = (b.l-most, omega (arith, nodes-most sh b))

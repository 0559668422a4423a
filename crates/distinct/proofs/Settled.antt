-- What `apart` promises settles its answer: two answers that it allows are equal. And wrong answers that it rules out: points that differ found equal, points
-- that are equal found to differ, and five points taken.
use mathlib.Core.Path.{◌≡◌, refl}
use mathlib.Core.Bool.{Bool, true, false}
use mathlib.Core.List.{List, [], ◌∷◌}
use Prim.Native.Nat.{ℕ, zero, suc}
use native.Mathlib.Omega.{arith}
use Rattle.distinct.specs.Promise.{Apart, ApartIs}

pub apart_settled : (count : ℕ) (points : List ℕ) (a b : Bool) → ApartIs count points a → ApartIs count points b → a ≡ b
apart_settled count points true true p q = refl
apart_settled count points true false p q = absurd (q.isnt refl (p.is refl))
apart_settled count points false true p q = absurd (p.isnt refl (q.is refl))
apart_settled count points false false p q = refl

-- the points 1 and 2
abbrev pub points : List ℕ
points = 1 ∷ 2 ∷ 0 ∷ 0 ∷ []

pub one_two_apart : Apart 2 points
one_two_apart zero zero hi hj e = refl
one_two_apart zero (suc zero) hi hj e = absurd (let z : ◌≡◌ {A = ℕ} 1 2 = e in omega arith)
one_two_apart (suc zero) zero hi hj e = absurd (let z : ◌≡◌ {A = ℕ} 2 1 = e in omega arith)
one_two_apart (suc zero) (suc zero) hi hj e = refl
one_two_apart zero (suc (suc j)) hi hj e = absurd (omega arith)
one_two_apart (suc zero) (suc (suc j)) hi hj e = absurd (omega arith)
one_two_apart (suc (suc i)) j hi hj e = absurd (omega arith)

pub apart_refuses : ApartIs 2 points false → ⊥
apart_refuses p = p.isnt refl (record { few = omega arith; apart = one_two_apart })

pub apart-equal : ApartIs 2 (3 ∷ 3 ∷ 0 ∷ 0 ∷ []) true → ⊥
apart-equal p = let e : ◌≡◌ {A = ℕ} 0 1 = (p.is refl).apart 0 1 (omega arith) (omega arith) refl in omega arith

pub apart-five : ApartIs 5 (1 ∷ 2 ∷ 4 ∷ 8 ∷ []) true → ⊥
apart-five p = omega (arith, (p.is refl).few)

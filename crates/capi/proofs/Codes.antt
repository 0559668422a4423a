-- An answer and the number that is returned for it. In order: no refusal has the number 0, nor does a list of checks give it; a number is that of the refusal that it says; an answer is the one
-- that its number says; what a promise of the number gives.
use mathlib.Core.Path.{◌≡◌, refl, sym, ap, subst, ◌∙◌}
use mathlib.Core.Bool.{Bool, true, false, cond, ◌&&◌}
use mathlib.Core.List.{List, [], ◌∷◌}
use mathlib.Core.Option.{Option, none, some, none-ne-some, some-injective}
use Prim.Native.Nat.{ℕ, zero, suc}
use native.Mathlib.Omega.{arith}
use lib.Dec.{T, ltb, ltb→lt, eqb-suc-zero}
use borrow.Author.Tests.{ne_eqb}
use Rattle.std.specs.Prelude.{Result, Ok, Err}
use Rattle.rules.specs.declared.shapes.Shape.{Shape}
use Rattle.rules.specs.declared.refusals.Refusal.{Refusal}
use Rattle.rules.specs.declared.refusals.Refusal.TheVariants.{BadShape, BadLength, BadNode, TooManyLost, NoWholeStripe, BadHeader, BadEntry, BadLayout, DivisionByZero}
use Rattle.rules.specs.Refusal.{Check, first_of, number_of, refusal_of}
use Rattle.rules.proofs.Numbers.{answers_settled}
use Rattle.capi.specs.Word.{code_of, refused_of, Told}

pub not_zero : (q : Refusal) → number_of q ≡ 0 → ⊥
not_zero BadShape e = omega (arith, e)
not_zero BadLength e = omega (arith, e)
not_zero BadNode e = omega (arith, e)
not_zero TooManyLost e = omega (arith, e)
not_zero NoWholeStripe e = omega (arith, e)
not_zero BadHeader e = omega (arith, e)
not_zero BadEntry e = omega (arith, e)
not_zero BadLayout e = omega (arith, e)
not_zero DivisionByZero e = omega (arith, e)

abbrev pub NotZero : Option ℕ → Type 0
NotZero refused = refused ≡ some 0 → ⊥

-- each check of a list has a number
abbrev pub numbered : List Check → Bool
numbered [] = true
numbered (check ∷ rest) = ltb 0 check.number && numbered rest

both : (a b : Bool) → T (a && b) → T a × T b
both true b h = (tt, h)
both false b h = absurd h

either : (b : Bool) (q : ℕ) (rest : Option ℕ) → (q ≡ 0 → ⊥) → NotZero rest → NotZero (cond b (some q) rest)
either true q rest h k e = h (some-injective q 0 e)
either false q rest h k e = k e

pub first_not_zero : (checks : List Check) → T (numbered checks) → NotZero (first_of checks)
first_not_zero [] h = none-ne-some 0
first_not_zero (check ∷ rest) h =
    let (first-numbered, others) = both (ltb 0 check.number) (numbered rest) h in
    either check.applies check.number (first_of rest) (λ e. omega (arith, e, ltb→lt 0 check.number first-numbered)) (first_not_zero rest others)

abbrev code_in : Option ℕ → ℕ
code_in none = 0
code_in (some q) = q

pub code-outcome : (code : ℕ) → code_in (refused_of code) ≡ code
unfolding refused_of
code-outcome zero = refl
code-outcome (suc q) = ap (λ (b : Bool). code_in (cond b none (some (suc q)))) (eqb-suc-zero q)

pub code-only : (a b : ℕ) → refused_of a ≡ refused_of b → a ≡ b
code-only a b e = sym (code-outcome a) ∙ ap code_in e ∙ code-outcome b

pub refused-code : (code : ℕ) → (code ≡ 0 → ⊥) → refused_of code ≡ some code
unfolding refused_of
refused-code code ne = ap (λ (b : Bool). cond b none (some code)) (ne_eqb code 0 ne)

-- the number returned for an answer says whether it is refused, and with which number
pub outcome-code : (o : Result (Unit {0}) Refusal) → refused_of (code_of o) ≡ refusal_of o
unfolding refused_of
outcome-code (Ok x) = refl
outcome-code (Err q) = refused-code (number_of q) (not_zero q)

-- and no other answer has it
pub outcome-only : (a b : Result (Unit {0}) Refusal) → code_of a ≡ code_of b → a ≡ b
outcome-only a b e = answers_settled a b (sym (outcome-code a) ∙ ap refused_of e ∙ outcome-code b)

-- what an entry promises of its shape and its answer, as a promise of the numbers for both
pub told : (P : Shape → Result (Unit {0}) Refusal → Type 0) {sh said : Shape} {code : ℕ} (o : Result (Unit {0}) Refusal)
    → sh ≡ said → code ≡ code_of o → P sh o → Told (P said) code
told P {sh} {said} {code} o e f p = record { answer = o; said = f; meets = subst (λ x. P x o) e p }

-- a refusal's number is that of an answer that is refused
pub told-refused : {P : Result (Unit {0}) Refusal → Type 0} {code : ℕ} → (code ≡ 0 → ⊥) → ((q : Refusal) → P (Err q) → ⊥) → Told P code → ⊥
told-refused {P} {code} ne h p = go p.answer p.said p.meets
  where
    go : (o : Result (Unit {0}) Refusal) → code ≡ code_of o → P o → ⊥
    go (Ok x) e m = ne e
    go (Err q) e m = h q m

-- 0 is that of one that is done
pub told-done : {P : Result (Unit {0}) Refusal → Type 0} → (P (Ok tt) → ⊥) → Told P 0 → ⊥
told-done {P} h p = go p.answer p.said p.meets
  where
    go : (o : Result (Unit {0}) Refusal) → ◌≡◌ {A = ℕ} 0 (code_of o) → P o → ⊥
    go (Ok x) e m = h m
    go (Err q) e m = not_zero q (sym e)

-- the number and the buffer, from the answer and the buffer
pub told-settled : {P Q : Result (Unit {0}) Refusal → Type 0} {a b : ℕ} {x y : List ℕ} (p : Told P a) (q : Told Q b)
    → (p.answer ≡ q.answer) × (x ≡ y) → (a ≡ b) × (x ≡ y)
told-settled p q (e, f) = (p.said ∙ ap code_of e ∙ sym q.said, f)

-- What `add_fraction` promises settles its answer and every byte that it leaves: two results that the promise allows are equal. And wrong answers that it rules
-- out, at a bench stripe.
--   AddD answer later   == what `add_fraction` promises of D's fraction, 6 and 12, added to the sums 1, 1, 1, 1
use mathlib.Core.Path.{◌≡◌, refl, sym, ap, ◌∙◌}
use mathlib.Core.List.{List, [], ◌∷◌}
use mathlib.Core.Option.{Option, none, some, none-ne-some, some-ne-none}
use Prim.Native.Nat.{ℕ}
use native.Mathlib.Omega.{arith}
use lib.ListN.{get_or}
use Rattle.field.specs.Number.{modulus, add, double, by_bits, mul, power}
use Rattle.rules.specs.declared.shapes.Shape.{Shape}
use Rattle.rules.specs.Rising.{rising}
use Rattle.rules.specs.Shape.{group_size, groups, rows, accepted, node, group, place, worth, digit, with_digit}
use Rattle.rules.specs.Point.{point_of, γ}
use Rattle.rules.specs.Equation.{weighed, weight, sum_below, sum_to, equation}
use Rattle.rules.specs.Fraction.{is_read, rows_read, fraction_length, alone}
use Rattle.rules.specs.Bench.{shape}
use Rattle.rules.proofs.Stripes.{by_columns}
use Rattle.std.specs.Prelude.{Result, Ok, Err}
use Rattle.rules.specs.declared.refusals.Refusal.{Refusal}
use Rattle.rules.specs.declared.refusals.Refusal.TheVariants.{BadNode}
use Rattle.rules.specs.Refusal.{number_of, not_node}
use Rattle.rules.proofs.Numbers.{answers_settled}
use Rattle.fractions.specs.Refusal.{add_refusal}
use Rattle.fractions.specs.Promise.{AddMeets}
use Rattle.fractions.proofs.Refusals.{add-taken}

pub add-fraction_settled : (sh : Shape) (failed helper : ℕ) (given sums : List ℕ) (a b : Result (Unit {0}) Refusal) (x y : List ℕ)
    → AddMeets sh failed helper given sums a x → AddMeets sh failed helper given sums b y → (a ≡ b) × (x ≡ y)
add-fraction_settled sh failed helper given sums a b x y p q =
    (answers_settled a b (p.answered ∙ sym q.answered), go (add_refusal sh failed helper given sums) refl)
  where
    go : (refused : Option ℕ) → add_refusal sh failed helper given sums ≡ refused → x ≡ y
    go none e =
        let v = p.written e in
        let w = q.written e in
        let exact = add-taken sh failed helper given sums e in
        by_columns sh.r (fraction_length sh) x y (v.same_length ∙ exact) (w.same_length ∙ exact) (λ t j ht hj. v.bytes t j ht hj ∙ sym (w.bytes t j ht hj))
    go (some k) e = p.kept k e ∙ sym (q.kept k e)

abbrev AddD : Result (Unit {0}) Refusal → List ℕ → Type 0
AddD answer later = AddMeets (shape 3 2) 1 2 (6 ∷ 12 ∷ []) (1 ∷ 1 ∷ 1 ∷ 1 ∷ []) answer later

pub add-fraction_refuses : (q : Refusal) (later : List ℕ) → AddD (Err q) later → ⊥
unfolding add_refusal not_node accepted rows groups group_size fraction_length
add-fraction_refuses q later p = some-ne-none (number_of q) p.answered

-- 6 and 12 are added for t = 0, and point 2 times them for t = 1: 12 and 24
added-at : (later : List ℕ) → AddD (Ok tt) later → (get_or later 0 0 ≡ 7) × (get_or later 1 0 ≡ 13) × (get_or later 2 0 ≡ 13) × (get_or later 3 0 ≡ 25)
unfolding add_refusal not_node accepted rows groups group_size fraction_length equation sum_to sum_below weight weighed alone rows_read rising is_read node group place digit with_digit worth point_of γ power mul by_bits double add modulus
added-at later p =
    let w = p.written refl in (
      w.bytes 0 0 (omega arith) (omega arith),
      w.bytes 0 1 (omega arith) (omega arith),
      w.bytes 1 0 (omega arith) (omega arith),
      w.bytes 1 1 (omega arith) (omega arith),
    )

pub add-fraction_adds_nothing : AddD (Ok tt) (1 ∷ 1 ∷ 1 ∷ 1 ∷ []) → ⊥
add-fraction_adds_nothing p = let e : ◌≡◌ {A = ℕ} 1 7 = (added-at _ p).0 in omega arith

-- stored, and not added
pub add-fraction_stores : AddD (Ok tt) (6 ∷ 12 ∷ 12 ∷ 24 ∷ []) → ⊥
add-fraction_stores p = let e : ◌≡◌ {A = ℕ} 6 7 = (added-at _ p).0 in omega arith

pub add-fraction_wrong_byte : AddD (Ok tt) (7 ∷ 13 ∷ 13 ∷ 13 ∷ []) → ⊥
add-fraction_wrong_byte p = let e : ◌≡◌ {A = ℕ} 13 25 = (added-at _ p).3 in omega arith

-- the failed node's own fraction
pub add-fraction_takes_itself : (later : List ℕ) → AddMeets (shape 3 2) 1 1 (6 ∷ 12 ∷ []) (1 ∷ 1 ∷ 1 ∷ 1 ∷ []) (Ok tt) later → ⊥
unfolding add_refusal not_node accepted rows groups group_size fraction_length
add-fraction_takes_itself later p = none-ne-some 3 p.answered

pub add-fraction-refused_writes : AddMeets (shape 3 2) 1 1 (6 ∷ 12 ∷ []) (1 ∷ 1 ∷ 1 ∷ 1 ∷ []) (Err BadNode) (7 ∷ 1 ∷ 1 ∷ 1 ∷ []) → ⊥
unfolding add_refusal not_node accepted rows groups group_size fraction_length
add-fraction-refused_writes p = let e : ◌≡◌ {A = ℕ} 7 1 = ap (λ (l : List ℕ). get_or l 0 0) (p.kept 3 refl) in omega arith

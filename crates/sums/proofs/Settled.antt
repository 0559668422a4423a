-- What each function promises settles its answer and every byte that it leaves: two results that one promise allows are equal. And for each, wrong answers
-- that the promise rules out, at the bench stripes. In order: `test`, and when it answers what; `sums_of`.
--   SumsJ answer later  == what `sums_of` promises of J, the stripe that fails first at row 1, t 0
use mathlib.Core.Path.{◌≡◌, refl, sym, ap, ap₂, ◌∙◌, subst}
use mathlib.Core.List.{List, [], ◌∷◌}
use mathlib.Core.Logic.{◌↔◌}
use mathlib.Core.Option.{Option, none, some, none-ne-some, some-ne-none}
use Prim.Native.Nat.{ℕ}
use native.Mathlib.Omega.{arith}
use lib.ListN.{get_or}
use Rattle.field.specs.Number.{modulus, add, double, by_bits, mul, power}
use Rattle.rules.specs.declared.shapes.Shape.{Shape}
use Rattle.rules.specs.Shape.{group_size, groups, rows, accepted, node, group, place, phantom, worth, digit, with_digit}
use Rattle.rules.specs.Point.{point_of, γ}
use Rattle.rules.specs.Stripe.{symbol, stripe_length, column_start}
use Rattle.rules.specs.Equation.{weighed, weight, sum_below, sum_to, equation, LowestFailure, all_rows}
use Rattle.rules.specs.Equation as rules
use Rattle.rules.specs.Bench.{shape, stripe_c, stripe_j}
use Rattle.rules.proofs.Benches.{whole-c, fails-j}
use Rattle.rules.proofs.Stripes.{by_columns}
use Rattle.rules.proofs.Weighing.{lowest-only, whole_or_fails}
use Rattle.std.specs.Prelude.{Result, Ok, Err, Some, None}
use Rattle.std.specs.Prelude as prelude
use Rattle.rules.specs.declared.refusals.Refusal.{Refusal}
use Rattle.rules.specs.declared.refusals.Refusal.TheVariants as refusal
use Rattle.rules.specs.Refusal.{number_of}
use Rattle.rules.proofs.Numbers.{number_of-injective, answers_settled}
use Rattle.sums.specs.declared.answers.Failure.{Failure}
use Rattle.sums.specs.Answer.{refusal_of_test, FoundIs}
use Rattle.sums.specs.Refusal.{test_refusal, sums_refusal}
use Rattle.sums.specs.Promise.{TestMeets, SumsMeet}

pub test_settled : (sh : Shape) (stripe : List ℕ) (x y : Result (prelude.Option Failure) Refusal) → TestMeets sh stripe x → TestMeets sh stripe y → x ≡ y
test_settled sh stripe x y p q = go x y p.found q.found (p.answered ∙ sym q.answered)
  where
    go : (x y : Result (prelude.Option Failure) Refusal) → FoundIs sh stripe x → FoundIs sh stripe y → refusal_of_test x ≡ refusal_of_test y → x ≡ y
    go (Ok None) (Ok None) f g e = refl
    go (Ok None) (Ok (Some b)) f g e = absurd (whole_or_fails sh stripe b.row b.t f g)
    go (Ok None) (Err k) f g e = absurd (none-ne-some (number_of k) e)
    go (Ok (Some a)) (Ok None) f g e = absurd (whole_or_fails sh stripe a.row a.t g f)
    go (Ok (Some a)) (Ok (Some b)) f g e =
        let o = lowest-only sh (symbol sh stripe) (all_rows sh) a.row a.t b.row b.t f g in
        ap₂ (λ (r t : ℕ). Ok (Some (record { row = r; t = t }))) o.0 o.1
    go (Ok (Some a)) (Err k) f g e = absurd (none-ne-some (number_of k) e)
    go (Err j) (Ok None) f g e = absurd (some-ne-none (number_of j) e)
    go (Err j) (Ok (Some b)) f g e = absurd (some-ne-none (number_of j) e)
    go (Err j) (Err k) f g e = let same : number_of j ≡ number_of k = cc in ap Err (number_of-injective j k same)

module _ (sh : Shape) (stripe : List ℕ) (x : Result (prelude.Option Failure) Refusal) (taken : test_refusal sh stripe ≡ none) (p : TestMeets sh stripe x) where
  -- of what is not refused, the answer is no failure exactly where the stripe is whole
  pub test-whole_exactly : (x ≡ Ok None) ↔ rules.Whole sh stripe
  test-whole_exactly =
      (λ h. subst (FoundIs sh stripe) h p.found, λ h. test_settled sh stripe x (Ok None) p (record { answered = sym taken; found = h }))

  -- and failure f exactly where f is its lowest failure
  pub test-fails_exactly : (f : Failure) → (x ≡ Ok (Some f)) ↔ LowestFailure sh (symbol sh stripe) (all_rows sh) f.row f.t
  test-fails_exactly f =
      (λ h. subst (FoundIs sh stripe) h p.found, λ h. test_settled sh stripe x (Ok (Some f)) p (record { answered = sym taken; found = h }))

pub test_refuses : (q : Refusal) → TestMeets (shape 3 2) stripe_c (Err q) → ⊥
unfolding test_refusal accepted rows groups group_size stripe_length
test_refuses q p = some-ne-none (number_of q) p.answered

pub test-says-whole : TestMeets (shape 3 2) stripe_j (Ok None) → ⊥
test-says-whole p = whole_or_fails (shape 3 2) stripe_j 1 0 p.found fails-j

pub test_wrong_row : TestMeets (shape 3 2) stripe_j (Ok (Some (record { row = 2; t = 0 }))) → ⊥
test_wrong_row p =
    let e : ◌≡◌ {A = ℕ} 2 1 = (lowest-only (shape 3 2) (symbol (shape 3 2) stripe_j) (all_rows (shape 3 2)) 2 0 1 0 p.found fails-j).0 in
    omega arith

pub test_wrong_t : TestMeets (shape 3 2) stripe_j (Ok (Some (record { row = 1; t = 1 }))) → ⊥
test_wrong_t p =
    let e : ◌≡◌ {A = ℕ} 1 0 = (lowest-only (shape 3 2) (symbol (shape 3 2) stripe_j) (all_rows (shape 3 2)) 1 1 1 0 p.found fails-j).1 in
    omega arith

pub test-fails-whole : TestMeets (shape 3 2) stripe_c (Ok (Some (record { row = 0; t = 0 }))) → ⊥
test-fails-whole p = whole_or_fails (shape 3 2) stripe_c 0 0 whole-c p.found

pub test_order : TestMeets (shape 16 3) stripe_c (Err refusal.BadLength) → ⊥
unfolding test_refusal accepted rows groups group_size
test_order p = let h = p.answered in let e : ◌≡◌ {A = ℕ} 2 1 = cc in omega arith

pub sums_of_settled : (sh : Shape) (stripe buffer : List ℕ) (a b : Result (Unit {0}) Refusal) (x y : List ℕ)
    → SumsMeet sh stripe buffer a x → SumsMeet sh stripe buffer b y → (a ≡ b) × (x ≡ y)
sums_of_settled sh stripe buffer a b x y p q =
    (answers_settled a b (p.answered ∙ sym q.answered), go (sums_refusal sh stripe buffer) refl)
  where
    go : (refused : Option ℕ) → sums_refusal sh stripe buffer ≡ refused → x ≡ y
    go none e =
        let v = p.written e in
        let w = q.written e in
        by_columns sh.r (rows sh) x y v.all w.all (λ t i ht hi. v.bytes t i ht hi ∙ sym (w.bytes t i ht hi))
    go (some k) e = p.kept k e ∙ sym (q.kept k e)

abbrev SumsJ : Result (Unit {0}) Refusal → List ℕ → Type 0
SumsJ answer later = SumsMeet (shape 3 2) stripe_j (1 ∷ 1 ∷ 1 ∷ 1 ∷ 1 ∷ 1 ∷ 1 ∷ 1 ∷ []) answer later

pub sums_of_refuses : (q : Refusal) (later : List ℕ) → SumsJ (Err q) later → ⊥
unfolding sums_refusal accepted rows groups group_size stripe_length
sums_of_refuses q later p = some-ne-none (number_of q) p.answered

-- at row 1 the sum for t = 0 is 1, at row 0 it is 0
summed_at : (later : List ℕ) → SumsJ (Ok tt) later → (get_or later 0 0 ≡ 0) × (get_or later 1 0 ≡ 1)
unfolding sums_refusal accepted rows groups group_size stripe_length equation sum_to sum_below weight weighed symbol phantom column_start node group place digit with_digit worth point_of γ power mul by_bits double add modulus
summed_at later p = ((p.written refl).bytes 0 0 (omega arith) (omega arith), (p.written refl).bytes 0 1 (omega arith) (omega arith))

pub sums_of_writes_nothing : SumsJ (Ok tt) (1 ∷ 1 ∷ 1 ∷ 1 ∷ 1 ∷ 1 ∷ 1 ∷ 1 ∷ []) → ⊥
sums_of_writes_nothing p = let e : ◌≡◌ {A = ℕ} 1 0 = (summed_at _ p).0 in omega arith

pub sums_of_writes_zeros : SumsJ (Ok tt) (0 ∷ 0 ∷ 0 ∷ 0 ∷ 0 ∷ 0 ∷ 0 ∷ 0 ∷ []) → ⊥
sums_of_writes_zeros p = let e : ◌≡◌ {A = ℕ} 0 1 = (summed_at _ p).1 in omega arith

-- the sums are 0, 1, 0, 2 for t = 0 and 0, 8, 0, 8 for t = 1: one byte of them wrong
pub sums_of_wrong_byte : SumsJ (Ok tt) (0 ∷ 3 ∷ 0 ∷ 2 ∷ 0 ∷ 8 ∷ 0 ∷ 8 ∷ []) → ⊥
sums_of_wrong_byte p = let e : ◌≡◌ {A = ℕ} 3 1 = (summed_at _ p).1 in omega arith

-- a stripe of one byte, and a byte written
pub sums_of_refused_writes : SumsMeet (shape 3 2) (0 ∷ []) (1 ∷ 1 ∷ 1 ∷ 1 ∷ 1 ∷ 1 ∷ 1 ∷ 1 ∷ []) (Err refusal.BadLength) (0 ∷ 1 ∷ 1 ∷ 1 ∷ 1 ∷ 1 ∷ 1 ∷ 1 ∷ []) → ⊥
unfolding sums_refusal accepted rows groups group_size stripe_length
sums_of_refused_writes p = let e : ◌≡◌ {A = ℕ} 0 1 = ap (λ (l : List ℕ). get_or l 0 0) (p.kept 2 refl) in omega arith

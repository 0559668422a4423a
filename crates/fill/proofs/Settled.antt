-- What each entry promises settles its answer and every byte that it leaves: two results that one promise allows are equal. And for each, wrong answers
-- that the promise rules out, at the bench stripes; n = 3, r = 2. In order: `fill`; the stripes A and B as what is filled in; wrong answers of `fill`;
-- `fill_parity`, and its wrong answers.
--   stripe_a, stripe_b == bench stripes A and B: data and both parity columns
--   given_a, given_b == the same with sevens in both parity columns
--   MeetsA, MeetsB   == what `fill` promises of these, with columns 2 and 3 lost
--   ParityA, ParityB == what `fill_parity` promises of these
use mathlib.Core.Path.{◌≡◌, refl, sym, ap, ◌∙◌}
use mathlib.Core.Bool.{Bool, true, false, true≢false}
use mathlib.Core.List.{List, [], ◌∷◌}
use mathlib.Core.Option.{Option, none, some, none-ne-some, some-ne-none}
use Prim.Native.Nat.{ℕ, zero, suc, ◌≤◌}
use native.Mathlib.Omega.{arith}
use lib.Count.{ones, ones_in}
use lib.ListN.{get_or}
use Rattle.theory.specs.Set.{count}
use Rattle.rules.specs.declared.shapes.Shape.{Shape}
use Rattle.rules.specs.Shape.{group_size, data_nodes, groups, rows, accepted}
use Rattle.rules.specs.Stripe.{stripe_length, column_start, column}
use Rattle.rules.specs.Lost.{is_lost, lost_count, bit_above, is_parity, Filled}
use Rattle.rules.specs.Bench.{shape, stripe_c, stripe_j}
use Rattle.rules.proofs.Accepted.{bounds}
use Rattle.rules.proofs.Benches.{parity-a, parity-b, parity-c, bench-shape}
use Rattle.rules.proofs.LostSets.{parity_among}
use Rattle.rules.proofs.Fillings.{filled-only, filled_differs}
use Rattle.std.specs.Prelude.{Result, Ok, Err}
use Rattle.rules.specs.declared.refusals.Refusal.{Refusal}
use Rattle.rules.specs.declared.refusals.Refusal.TheVariants.{BadLength, BadNode, TooManyLost, NoWholeStripe}
use Rattle.rules.specs.Refusal.{number_of, refusal_of}
use Rattle.rules.proofs.Numbers.{answers_settled}
use Rattle.fill.specs.Refusal.{fill_refusal, parity_refusal}
use Rattle.fill.specs.Promise.{FillMeets, ParityMeets}
use Rattle.fill.proofs.Taken.{fill-few, fill-answers, parity-taken}

module _ (sh : Shape) (lost : ℕ) (stripe : List ℕ) (a b : Result (Unit {0}) Refusal) (x y : List ℕ)
    (p : FillMeets sh lost stripe a x) (q : FillMeets sh lost stripe b y) where
  pub fill_settled : (a ≡ b) × (x ≡ y)
  fill_settled = go (fill_refusal sh lost stripe) (refusal_of a) (refusal_of b) refl refl refl
    where
      refused : (k : ℕ) → refusal_of a ≡ some k → refusal_of b ≡ some k → (a ≡ b) × (x ≡ y)
      refused k e f = (answers_settled a b (e ∙ sym f), p.kept k e ∙ sym (q.kept k f))

      go : (z u v : Option ℕ) → fill_refusal sh lost stripe ≡ z → refusal_of a ≡ u → refusal_of b ≡ v → (a ≡ b) × (x ≡ y)
      go (some k) u v t e f = refused k (p.refused k t) (q.refused k t)
      go none none none t e f = (answers_settled a b (e ∙ sym f), (fill-answers sh lost stripe a x t p y (q.filled t f)).1)
      go none none (some j) t e f = absurd ((q.unfillable t j f).1 x (p.filled t e))
      go none (some i) none t e f = absurd ((p.unfillable t i e).1 y (q.filled t f))
      go none (some i) (some j) t e f =
          refused 5 (e ∙ ap some (p.unfillable t i e).0) (f ∙ ap some (q.unfillable t j f).0)

abbrev stripe_a : List ℕ
stripe_a = 4 ∷ 0 ∷ 0 ∷ 0 ∷ 6 ∷ 5 ∷ 0 ∷ 0 ∷ 2 ∷ 3 ∷ 0 ∷ 0 ∷ []

abbrev given_a : List ℕ
given_a = 4 ∷ 0 ∷ 0 ∷ 0 ∷ 7 ∷ 7 ∷ 7 ∷ 7 ∷ 7 ∷ 7 ∷ 7 ∷ 7 ∷ []

abbrev stripe_b : List ℕ
stripe_b = 0 ∷ 0 ∷ 0 ∷ 12 ∷ 0 ∷ 10 ∷ 12 ∷ 30 ∷ 0 ∷ 15 ∷ 0 ∷ 5 ∷ []

abbrev given_b : List ℕ
given_b = 0 ∷ 0 ∷ 0 ∷ 12 ∷ 7 ∷ 7 ∷ 7 ∷ 7 ∷ 7 ∷ 7 ∷ 7 ∷ 7 ∷ []

-- columns 2 and 3 are those that `fill` finds lost in the number 6, and the parity columns
abbrev OnlyFirst : (ℕ → Bool) → Type 0
OnlyFirst L = (L 2 ≡ true) × (L 3 ≡ true)

lost_6 : OnlyFirst (is_lost 6)
unfolding is_lost
lost_6 = (refl, refl)

parity_2_3 : OnlyFirst (is_parity (shape 3 2))
unfolding is_parity data_nodes
parity_2_3 = (refl, refl)

-- then column 1 is the one that counts
first-kept : (L : ℕ → Bool) → OnlyFirst L → (x y : List ℕ) → column (shape 3 2) x 1 ≡ column (shape 3 2) y 1
    → (i : ℕ) → 1 ≤ i → i ≤ 3 → L i ≡ false → column (shape 3 2) x i ≡ column (shape 3 2) y i
first-kept L o x y e zero h k out = absurd (omega arith)
first-kept L o x y e (suc zero) h k out = e
first-kept L o x y e (suc (suc zero)) h k out = absurd (true≢false (sym o.0 ∙ out))
first-kept L o x y e (suc (suc (suc zero))) h k out = absurd (true≢false (sym o.1 ∙ out))
first-kept L o x y e (suc (suc (suc (suc i)))) h k out = absurd (omega arith)

filled-a : (L : ℕ → Bool) → OnlyFirst L → (given : List ℕ) → column (shape 3 2) stripe_a 1 ≡ column (shape 3 2) given 1 → Filled (shape 3 2) L given stripe_a
filled-a L o given e = record { bytes = parity-a.1; survivors = first-kept L o stripe_a given e; whole = parity-a.2 }

filled-b : (L : ℕ → Bool) → OnlyFirst L → (given : List ℕ) → column (shape 3 2) stripe_b 1 ≡ column (shape 3 2) given 1 → Filled (shape 3 2) L given stripe_b
filled-b L o given e = record { bytes = parity-b.1; survivors = first-kept L o stripe_b given e; whole = parity-b.2 }

column-a : column (shape 3 2) stripe_a 1 ≡ column (shape 3 2) given_a 1
unfolding column column_start rows groups group_size
column-a = refl

column-b : column (shape 3 2) stripe_b 1 ≡ column (shape 3 2) given_b 1
unfolding column column_start rows groups group_size
column-b = refl

abbrev MeetsA : Result (Unit {0}) Refusal → List ℕ → Type 0
MeetsA answer later = FillMeets (shape 3 2) 6 given_a answer later

abbrev MeetsB : Result (Unit {0}) Refusal → List ℕ → Type 0
MeetsB answer later = FillMeets (shape 3 2) 6 given_b answer later

taken-a : fill_refusal (shape 3 2) 6 given_a ≡ none
unfolding fill_refusal accepted rows groups group_size stripe_length bit_above lost_count ones ones_in
taken-a = refl

taken-b : fill_refusal (shape 3 2) 6 given_b ≡ none
unfolding fill_refusal accepted rows groups group_size stripe_length bit_above lost_count ones ones_in
taken-b = refl

fill-a : (answer : Result (Unit {0}) Refusal) (later : List ℕ) → MeetsA answer later → (refusal_of answer ≡ none) × (later ≡ stripe_a)
fill-a answer later p = fill-answers (shape 3 2) 6 given_a answer later taken-a p stripe_a (filled-a (is_lost 6) lost_6 given_a column-a)

-- what the stripe holds then, at index j
at-a : (later : List ℕ) → MeetsA (Ok tt) later → (j : ℕ) → get_or later j 0 ≡ get_or stripe_a j 0
at-a later p j = ap (λ (l : List ℕ). get_or l j 0) (fill-a (Ok tt) later p).1

at-b : (later : List ℕ) → MeetsB (Ok tt) later → (j : ℕ) → get_or later j 0 ≡ get_or stripe_b j 0
at-b later p j =
    ap (λ (l : List ℕ). get_or l j 0) (fill-answers (shape 3 2) 6 given_b (Ok tt) later taken-b p stripe_b (filled-b (is_lost 6) lost_6 given_b column-b)).1

-- refuses everything, or says 5 where it can be filled
pub fill_refuses : (q : Refusal) (later : List ℕ) → MeetsA (Err q) later → ⊥
fill_refuses q later p = some-ne-none (number_of q) (fill-a (Err q) later p).0

pub fill_writes_zeros : MeetsA (Ok tt) (4 ∷ 0 ∷ 0 ∷ 0 ∷ 0 ∷ 0 ∷ 0 ∷ 0 ∷ 0 ∷ 0 ∷ 0 ∷ 0 ∷ []) → ⊥
fill_writes_zeros p = let e : ◌≡◌ {A = ℕ} 0 6 = at-a _ p 4 in omega arith

pub fill_writes_nothing : MeetsA (Ok tt) given_a → ⊥
fill_writes_nothing p = let e : ◌≡◌ {A = ℕ} 7 6 = at-a _ p 4 in omega arith

-- solves row 0, which has 0 and 0, and copies it to the other rows
pub fill-row_0_for_all : MeetsB (Ok tt) (0 ∷ 0 ∷ 0 ∷ 12 ∷ 0 ∷ 0 ∷ 0 ∷ 0 ∷ 0 ∷ 0 ∷ 0 ∷ 0 ∷ []) → ⊥
fill-row_0_for_all p = let e : ◌≡◌ {A = ℕ} 0 10 = at-b _ p 5 in omega arith

-- in A row 0 has 6 and 2
pub fill-row_0_for_all-a : MeetsA (Ok tt) (4 ∷ 0 ∷ 0 ∷ 0 ∷ 6 ∷ 6 ∷ 6 ∷ 6 ∷ 2 ∷ 2 ∷ 2 ∷ 2 ∷ []) → ⊥
fill-row_0_for_all-a p = let e : ◌≡◌ {A = ℕ} 6 5 = at-a _ p 5 in omega arith

-- the last byte is wrong
pub fill_wrong_byte : MeetsA (Ok tt) stripe_j → ⊥
fill_wrong_byte p = let e : ◌≡◌ {A = ℕ} 1 0 = at-a _ p 11 in omega arith

-- both columns are right for the data that is written over the survivor: bench stripe B is whole
pub fill_survivor_changed : MeetsA (Ok tt) stripe_b → ⊥
fill_survivor_changed p = let e : ◌≡◌ {A = ℕ} 0 4 = at-a _ p 0 in omega arith

-- K: in J with column 2 lost the survivors belong to no whole stripe, since with columns 2 and 3 lost A is filled in, and its column 3 isn't J's
column-j : column (shape 3 2) stripe_a 1 ≡ column (shape 3 2) stripe_j 1
unfolding column column_start rows groups group_size
column-j = refl

differs_j : column (shape 3 2) stripe_a 3 ≡ column (shape 3 2) stripe_j 3 → ⊥
unfolding column column_start rows groups group_size
differs_j e = let z : ◌≡◌ {A = ℕ} 0 1 = ap (λ (l : List ℕ). get_or l 3 0) e in omega arith

only_2 : (i : ℕ) → 1 ≤ i → i ≤ 3 → is_lost 2 i ≡ true → is_lost 6 i ≡ true
unfolding is_lost
only_2 zero h k e = absurd (omega arith)
only_2 (suc zero) h k e = e
only_2 (suc (suc zero)) h k e = refl
only_2 (suc (suc (suc zero))) h k e = refl
only_2 (suc (suc (suc (suc i)))) h k e = absurd (omega arith)

kept_3 : is_lost 2 3 ≡ false
unfolding is_lost
kept_3 = refl

pub nothing-fills-k : (other : List ℕ) → Filled (shape 3 2) (is_lost 2) stripe_j other → ⊥
nothing-fills-k =
    filled_differs (shape 3 2) (bounds (shape 3 2) bench-shape.0) (is_lost 2) (is_lost 6) only_2 (fill-few (shape 3 2) 6 given_a taken-a)
    stripe_j stripe_a (filled-a (is_lost 6) lost_6 stripe_j column-j) 3 (omega arith) (omega arith) kept_3 differs_j

taken-k : fill_refusal (shape 3 2) 2 stripe_j ≡ none
unfolding fill_refusal accepted rows groups group_size stripe_length bit_above lost_count ones ones_in
taken-k = refl

-- K is accepted, whatever is written: as many equations as lost bytes are used
pub fill-accepts-k : (later : List ℕ) → FillMeets (shape 3 2) 2 stripe_j (Ok tt) later → ⊥
fill-accepts-k later p = nothing-fills-k later (p.filled taken-k refl)

-- K is refused with another number
pub fill-k-number : (q : Refusal) (later : List ℕ) → (number_of q ≡ 5 → ⊥) → FillMeets (shape 3 2) 2 stripe_j (Err q) later → ⊥
fill-k-number q later ne p = ne (p.unfillable taken-k (number_of q) refl).0

-- K is refused, and the half-filled column is left in the stripe
pub fill-refused_writes : FillMeets (shape 3 2) 2 stripe_j (Err NoWholeStripe) (4 ∷ 0 ∷ 0 ∷ 0 ∷ 6 ∷ 5 ∷ 0 ∷ 1 ∷ 2 ∷ 3 ∷ 0 ∷ 1 ∷ []) → ⊥
fill-refused_writes p = let e : ◌≡◌ {A = ℕ} 1 0 = ap (λ (l : List ℕ). get_or l 7 0) (p.kept 5 refl) in omega arith

-- a whole stripe with nothing lost is refused with 5
pub fill_5_where_whole : (later : List ℕ) → FillMeets (shape 3 2) 0 stripe_c (Err NoWholeStripe) later → ⊥
unfolding fill_refusal accepted rows groups group_size stripe_length bit_above lost_count ones ones_in
fill_5_where_whole later p =
    (p.unfillable refl 5 refl).1 stripe_c (record { bytes = parity-c.1; survivors = λ i h k out. refl; whole = parity-c.2 })

-- M: columns 1, 2 and 3 lost
taken-m : fill_refusal (shape 3 2) 7 stripe_c ≡ some 4
unfolding fill_refusal accepted rows groups group_size stripe_length bit_above lost_count ones ones_in
taken-m = refl

pub fill-m-number : (q : Refusal) (later : List ℕ) → (number_of q ≡ 4 → ⊥) → FillMeets (shape 3 2) 7 stripe_c (Err q) later → ⊥
fill-m-number q later ne p = let h = p.refused 4 taken-m in ne (cc)

pub fill-accepts-m : (later : List ℕ) → FillMeets (shape 3 2) 7 stripe_c (Ok tt) later → ⊥
fill-accepts-m later p = none-ne-some 4 (p.refused 4 taken-m)

-- and 1, 2, 3 and 4: a lost bit above n goes before more than r lost
pub fill-m_order : (later : List ℕ) → FillMeets (shape 3 2) 15 stripe_c (Err TooManyLost) later → ⊥
unfolding fill_refusal accepted rows groups group_size stripe_length bit_above
fill-m_order later p = let h = p.refused 3 refl in let e : ◌≡◌ {A = ℕ} 4 3 = cc in omega arith

-- a wrong length goes before a lost bit above n
pub fill_order : (later : List ℕ) → FillMeets (shape 3 2) 15 (4 ∷ 0 ∷ []) (Err BadNode) later → ⊥
unfolding fill_refusal accepted rows groups group_size stripe_length
fill_order later p = let h = p.refused 2 refl in let e : ◌≡◌ {A = ℕ} 3 2 = cc in omega arith

module _ (sh : Shape) (stripe : List ℕ) (a b : Result (Unit {0}) Refusal) (x y : List ℕ) (p : ParityMeets sh stripe a x) (q : ParityMeets sh stripe b y) where
  pub parity_settled : (a ≡ b) × (x ≡ y)
  parity_settled = (answers_settled a b (p.answered ∙ sym q.answered), go (parity_refusal sh stripe) refl)
    where
      go : (z : Option ℕ) → parity_refusal sh stripe ≡ z → x ≡ y
      go (some k) t = p.kept k t ∙ sym (q.kept k t)
      go none t =
          let b = bounds sh (parity-taken sh stripe t).0 in
          filled-only sh b (is_parity sh) (omega (arith, parity_among sh b)) stripe x y (p.filled t) (q.filled t)

abbrev ParityA : Result (Unit {0}) Refusal → List ℕ → Type 0
ParityA answer later = ParityMeets (shape 3 2) given_a answer later

abbrev ParityB : Result (Unit {0}) Refusal → List ℕ → Type 0
ParityB answer later = ParityMeets (shape 3 2) given_b answer later

parity-taken-a : parity_refusal (shape 3 2) given_a ≡ none
unfolding parity_refusal accepted rows groups group_size stripe_length
parity-taken-a = refl

parity-taken-b : parity_refusal (shape 3 2) given_b ≡ none
unfolding parity_refusal accepted rows groups group_size stripe_length
parity-taken-b = refl

parity-few : count 3 (λ i. is_parity (shape 3 2) (suc i)) ≤ 2
parity-few = omega (arith, parity_among (shape 3 2) (bounds (shape 3 2) bench-shape.0))

parity-at-a : (answer : Result (Unit {0}) Refusal) (later : List ℕ) → ParityA answer later → (j : ℕ) → get_or later j 0 ≡ get_or stripe_a j 0
parity-at-a answer later p j =
    ap (λ (l : List ℕ). get_or l j 0)
    (filled-only (shape 3 2) (bounds (shape 3 2) bench-shape.0) (is_parity (shape 3 2)) parity-few given_a later stripe_a (p.filled parity-taken-a)
    (filled-a (is_parity (shape 3 2)) parity_2_3 given_a column-a))

parity-at-b : (answer : Result (Unit {0}) Refusal) (later : List ℕ) → ParityB answer later → (j : ℕ) → get_or later j 0 ≡ get_or stripe_b j 0
parity-at-b answer later p j =
    ap (λ (l : List ℕ). get_or l j 0)
    (filled-only (shape 3 2) (bounds (shape 3 2) bench-shape.0) (is_parity (shape 3 2)) parity-few given_b later stripe_b (p.filled parity-taken-b)
    (filled-b (is_parity (shape 3 2)) parity_2_3 given_b column-b))

-- refuses everything, with 5 too
pub parity_refuses : (q : Refusal) (later : List ℕ) → ParityA (Err q) later → ⊥
parity_refuses q later p = some-ne-none (number_of q) (p.answered ∙ parity-taken-a)

pub parity_writes_zeros : ParityA (Ok tt) (4 ∷ 0 ∷ 0 ∷ 0 ∷ 0 ∷ 0 ∷ 0 ∷ 0 ∷ 0 ∷ 0 ∷ 0 ∷ 0 ∷ []) → ⊥
parity_writes_zeros p = let e : ◌≡◌ {A = ℕ} 0 6 = parity-at-a (Ok tt) _ p 4 in omega arith

pub parity_writes_nothing : ParityA (Ok tt) given_a → ⊥
parity_writes_nothing p = let e : ◌≡◌ {A = ℕ} 7 6 = parity-at-a (Ok tt) _ p 4 in omega arith

pub parity-row_0_for_all : ParityB (Ok tt) (0 ∷ 0 ∷ 0 ∷ 12 ∷ 0 ∷ 0 ∷ 0 ∷ 0 ∷ 0 ∷ 0 ∷ 0 ∷ 0 ∷ []) → ⊥
parity-row_0_for_all p = let e : ◌≡◌ {A = ℕ} 0 10 = parity-at-b (Ok tt) _ p 5 in omega arith

pub parity_wrong_byte : ParityA (Ok tt) stripe_j → ⊥
parity_wrong_byte p = let e : ◌≡◌ {A = ℕ} 1 0 = parity-at-a (Ok tt) _ p 11 in omega arith

-- a data byte is changed, and the parity is right for it
pub parity_data_changed : ParityA (Ok tt) stripe_b → ⊥
parity_data_changed p = let e : ◌≡◌ {A = ℕ} 0 4 = parity-at-a (Ok tt) _ p 0 in omega arith

-- a refusal that changes a byte
pub parity-refused_writes : ParityMeets (shape 3 2) (4 ∷ 0 ∷ []) (Err BadLength) (0 ∷ 0 ∷ []) → ⊥
unfolding parity_refusal accepted rows groups group_size stripe_length
parity-refused_writes p = let e : ◌≡◌ {A = ℕ} 0 4 = ap (λ (l : List ℕ). get_or l 0 0) (p.kept 2 refl) in omega arith

-- a shape that isn't accepted goes before a wrong length
pub parity_order : (later : List ℕ) → ParityMeets (shape 16 3) (4 ∷ 0 ∷ []) (Err BadLength) later → ⊥
unfolding parity_refusal accepted rows groups group_size
parity_order later p = let h = p.answered in let e : ◌≡◌ {A = ℕ} 2 1 = cc in omega arith

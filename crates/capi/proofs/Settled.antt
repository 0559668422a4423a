-- What each function promises settles the number that it returns, every byte that it leaves and every number that it writes through a pointer: two sets of
-- results that one promise allows are equal. And for each, wrong answers that the promise rules out, at the bench stripes; 515 is the shape of n = 3, r = 2.
-- In order: shapes and sizes; records; one node's column; parity, filling; testing; packs.
use mathlib.Core.Path.{◌≡◌, refl, sym, subst, ◌∙◌}
use mathlib.Core.Bool.{true, false}
use mathlib.Core.List.{List, [], ◌∷◌}
use mathlib.Core.Logic.{◌⊎◌, inl, inr}
use mathlib.Core.Option.{none, some, none-ne-some, some-ne-none}
use Prim.Native.Nat.{ℕ}
use native.Mathlib.Omega.{arith}
use lib.ListN.{length}
use Rattle.std.specs.Prelude.{Option, Some, None, Result, Ok, Err}
use Rattle.rules.specs.declared.refusals.Refusal.{Refusal}
use Rattle.rules.specs.Shape.{group_size, groups, rows, accepted}
use Rattle.rules.specs.Stripe.{stripe_length, symbol}
use Rattle.rules.specs.Equation.{all_rows}
use Rattle.rules.specs.Lost.{bit_above}
use Rattle.rules.specs.Refusal.{shape_refusal}
use Rattle.rules.specs.Bench.{stripe_c, stripe_j}
use Rattle.rules.proofs.Accepted.{refusal-cases}
use Rattle.rules.proofs.Benches.{fails-j}
use Rattle.rules.proofs.Weighing.{lowest-only}
use Rattle.yebarg.specs.Promise.{LayMeets, ReadBackMeets, CutMeets}
use Rattle.yebarg.proofs.Settled as copying
use Rattle.sums.specs.declared.answers.Failure.{Failure}
use Rattle.sums.specs.Promise.{TestMeets}
use Rattle.sums.proofs.Settled as testing
use Rattle.rebuild.specs.Promise.{RebuildMeets}
use Rattle.rebuild.proofs.Settled as rebuilding
use Rattle.fill.specs.Refusal.{fill_refusal}
use Rattle.fill.specs.Promise.{FillMeets, ParityMeets}
use Rattle.fill.proofs.Settled as filling
use Rattle.layout.proofs.Worked.{worked}
use Rattle.pack.specs.declared.answers.Contents.{Contents}
use Rattle.pack.specs.Refusal.{stripe_most}
use Rattle.pack.specs.Promise.{ReadMeets}
use Rattle.pack.proofs.Settled as reading
use Rattle.capi.specs.Word.{shape_of, word_of, Told}
use Rattle.capi.specs.Promise.{ShapeIs, SizesMeet, TestTold, TestCodeMeets, ReadTold, ReadCodeMeets}
use Rattle.capi.proofs.Codes.{not_zero, code-only, refused-code, told-refused, told-done, told-settled}
use Rattle.capi.proofs.Words.{shape-only}

pub c-shape_settled : (n r x y : ℕ) → ShapeIs n r x → ShapeIs n r y → x ≡ y
c-shape_settled n r x y p q = p.value ∙ sym q.value

-- r in the lowest byte
pub c-shape_swaps : ShapeIs 3 2 770 → ⊥
unfolding word_of
c-shape_swaps p = omega (arith, p.value)

-- n = 259 wraps round to 3
pub c-shape_wraps : ShapeIs 259 2 515 → ⊥
unfolding word_of
c-shape_wraps p = omega (arith, p.value)

pub c-sizes_settled : (shape k m s l : ℕ) (a a-k a-m a_s a-l : ℕ) (b b-k b-m b_s b-l : ℕ)
    → SizesMeet (shape_of shape) k m s l a a-k a-m a_s a-l → SizesMeet (shape_of shape) k m s l b b-k b-m b_s b-l
    → (a ≡ b) × (a-k ≡ b-k) × (a-m ≡ b-m) × (a_s ≡ b_s) × (a-l ≡ b-l)
c-sizes_settled shape k m s l a a-k a-m a_s a-l b b-k b-m b_s b-l p q = go (refusal-cases (shape_of shape))
  where
    same : a ≡ b
    same = code-only a b (p.answered ∙ sym q.answered)

    go : ((accepted (shape_of shape) ≡ true) × (shape_refusal (shape_of shape) ≡ none))
        ⊎ ((accepted (shape_of shape) ≡ false) × (shape_refusal (shape_of shape) ≡ some 1))
        → (a ≡ b) × (a-k ≡ b-k) × (a-m ≡ b-m) × (a_s ≡ b_s) × (a-l ≡ b-l)
    go (inl e) =
        let x = p.written e.1 in
        let y = q.written e.1 in
        (same, x.0 ∙ sym y.0, x.1 ∙ sym y.1, x.2 ∙ sym y.2, x.3 ∙ sym y.3)
    go (inr e) =
        let x = p.kept 1 e.1 in
        let y = q.kept 1 e.1 in
        (same, x.0 ∙ sym y.0, x.1 ∙ sym y.1, x.2 ∙ sym y.2, x.3 ∙ sym y.3)

-- n = 4, r = 3, whose k, m, s and l are 1, 2, 3 and 9
taken_4_3 : shape_refusal (shape_of 772) ≡ none
unfolding shape_refusal accepted rows groups group_size
taken_4_3 = refl

-- refuses everything
pub c-sizes_refuses : (k m s l code k-later m-later s-later l-later : ℕ) → (code ≡ 0 → ⊥)
    → SizesMeet (shape_of 772) k m s l code k-later m-later s-later l-later → ⊥
c-sizes_refuses k m s l code k-later m-later s-later l-later ne p =
    some-ne-none code (sym (refused-code code ne) ∙ p.answered ∙ taken_4_3)

-- m and l swapped
pub c-sizes_swaps : (k m s l : ℕ) → SizesMeet (shape_of 772) k m s l 0 1 9 3 2 → ⊥
unfolding groups group_size
c-sizes_swaps k m s l p = let e : ◌≡◌ {A = ℕ} 9 2 = (p.written taken_4_3).1 in omega arith

-- a refusal that writes: n = 16, r = 3
pub c-sizes-refused_writes : (m s l : ℕ) → SizesMeet (shape_of 784) 7 m s l 1 13 m s l → ⊥
unfolding shape_refusal accepted rows groups group_size
c-sizes-refused_writes m s l p = let e : ◌≡◌ {A = ℕ} 13 7 = (p.kept 1 refl).0 in omega arith

pub c-lay_settled : (shape : ℕ) (rec stripe : List ℕ) (a b : ℕ) (x y : List ℕ)
    → Told (λ o. LayMeets (shape_of shape) rec stripe o x) a → Told (λ o. LayMeets (shape_of shape) rec stripe o y) b → (a ≡ b) × (x ≡ y)
c-lay_settled shape rec stripe a b x y p q = told-settled p q (copying.lay_settled (shape_of shape) rec stripe p.answer q.answer x y p.meets q.meets)

pub c-lay_refuses : (code : ℕ) (later : List ℕ) → (code ≡ 0 → ⊥) → Told (λ o. LayMeets (shape_of 515) (7 ∷ []) stripe_c o later) code → ⊥
c-lay_refuses code later ne p =
    told-refused ne (λ q. copying.lay_refuses q later) p

pub c-lay_writes_nothing : Told (λ o. LayMeets (shape_of 515) (7 ∷ []) stripe_c o stripe_c) 0 → ⊥
c-lay_writes_nothing p = told-done copying.lay_writes_nothing p

pub c-read-back_settled : (shape : ℕ) (stripe rec : List ℕ) (a b : ℕ) (x y : List ℕ)
    → Told (λ o. ReadBackMeets (shape_of shape) stripe rec o x) a → Told (λ o. ReadBackMeets (shape_of shape) stripe rec o y) b → (a ≡ b) × (x ≡ y)
c-read-back_settled shape stripe rec a b x y p q =
    told-settled p q (copying.read-back_settled (shape_of shape) stripe rec p.answer q.answer x y p.meets q.meets)

pub c-read-back_refuses : (code : ℕ) (later : List ℕ) → (code ≡ 0 → ⊥)
    → Told (λ o. ReadBackMeets (shape_of 515) stripe_c (0 ∷ 0 ∷ 0 ∷ 0 ∷ []) o later) code → ⊥
c-read-back_refuses code later ne p =
    told-refused ne (λ q. copying.read-back_refuses q later) p

pub c-read-back_writes_nothing : Told (λ o. ReadBackMeets (shape_of 515) stripe_c (0 ∷ 0 ∷ 0 ∷ 0 ∷ []) o (0 ∷ 0 ∷ 0 ∷ 0 ∷ [])) 0 → ⊥
c-read-back_writes_nothing p = told-done copying.read-back_writes_nothing p

pub c-cut_settled : (shape helper failed : ℕ) (col fraction : List ℕ) (a b : ℕ) (x y : List ℕ)
    → Told (λ o. CutMeets (shape_of shape) helper failed col fraction o x) a → Told (λ o. CutMeets (shape_of shape) helper failed col fraction o y) b
    → (a ≡ b) × (x ≡ y)
c-cut_settled shape helper failed col fraction a b x y p q =
    told-settled p q (copying.cut_settled (shape_of shape) helper failed col fraction p.answer q.answer x y p.meets q.meets)

-- D: node 2 of C helps node 1
pub c-cut_refuses : (code : ℕ) (later : List ℕ) → (code ≡ 0 → ⊥)
    → Told (λ o. CutMeets (shape_of 515) 2 1 (6 ∷ 15 ∷ 12 ∷ 30 ∷ []) (0 ∷ 0 ∷ []) o later) code → ⊥
c-cut_refuses code later ne p =
    told-refused ne (λ q. copying.cut_refuses q later) p

pub c-cut_writes_nothing : Told (λ o. CutMeets (shape_of 515) 2 1 (6 ∷ 15 ∷ 12 ∷ 30 ∷ []) (0 ∷ 0 ∷ []) o (0 ∷ 0 ∷ [])) 0 → ⊥
c-cut_writes_nothing p = told-done copying.cut_writes_nothing p

pub c-rebuild_settled : (shape failed : ℕ) (fractions before : List ℕ) (a b : ℕ) (x y : List ℕ)
    → Told (λ o. RebuildMeets (shape_of shape) failed fractions before o x) a → Told (λ o. RebuildMeets (shape_of shape) failed fractions before o y) b
    → (a ≡ b) × (x ≡ y)
c-rebuild_settled shape failed fractions before a b x y p q =
    told-settled p q (rebuilding.rebuild_settled (shape_of shape) failed fractions before p.answer q.answer x y p.meets q.meets)

-- H: node 1 of C, into sevens
pub c-rebuild_refuses : (code : ℕ) (later : List ℕ) → (code ≡ 0 → ⊥)
    → Told (λ o. RebuildMeets (shape_of 515) 1 (6 ∷ 12 ∷ 2 ∷ 0 ∷ []) (7 ∷ 7 ∷ 7 ∷ 7 ∷ []) o later) code → ⊥
c-rebuild_refuses code later ne p =
    told-refused ne (λ q. rebuilding.rebuild_refuses q later) p

pub c-rebuild_writes_nothing : Told (λ o. RebuildMeets (shape_of 515) 1 (6 ∷ 12 ∷ 2 ∷ 0 ∷ []) (7 ∷ 7 ∷ 7 ∷ 7 ∷ []) o (7 ∷ 7 ∷ 7 ∷ 7 ∷ [])) 0 → ⊥
c-rebuild_writes_nothing p = told-done rebuilding.rebuild_writes_nothing p

pub c-fill-parity_settled : (shape : ℕ) (stripe : List ℕ) (a b : ℕ) (x y : List ℕ)
    → Told (λ o. ParityMeets (shape_of shape) stripe o x) a → Told (λ o. ParityMeets (shape_of shape) stripe o y) b → (a ≡ b) × (x ≡ y)
c-fill-parity_settled shape stripe a b x y p q = told-settled p q (filling.parity_settled (shape_of shape) stripe p.answer q.answer x y p.meets q.meets)

-- A's data, and sevens in both parity columns
abbrev given_a : List ℕ
given_a = 4 ∷ 0 ∷ 0 ∷ 0 ∷ 7 ∷ 7 ∷ 7 ∷ 7 ∷ 7 ∷ 7 ∷ 7 ∷ 7 ∷ []

pub c-fill-parity_refuses : (code : ℕ) (later : List ℕ) → (code ≡ 0 → ⊥) → Told (λ o. ParityMeets (shape_of 515) given_a o later) code → ⊥
c-fill-parity_refuses code later ne p =
    told-refused ne (λ q. filling.parity_refuses q later) p

pub c-fill-parity_writes_nothing : Told (λ o. ParityMeets (shape_of 515) given_a o given_a) 0 → ⊥
c-fill-parity_writes_nothing p = told-done filling.parity_writes_nothing p

pub c-fill_settled : (shape lost : ℕ) (stripe : List ℕ) (a b : ℕ) (x y : List ℕ)
    → Told (λ o. FillMeets (shape_of shape) lost stripe o x) a → Told (λ o. FillMeets (shape_of shape) lost stripe o y) b → (a ≡ b) × (x ≡ y)
c-fill_settled shape lost stripe a b x y p q = told-settled p q (filling.fill_settled (shape_of shape) lost stripe p.answer q.answer x y p.meets q.meets)

pub c-fill_refuses : (code : ℕ) (later : List ℕ) → (code ≡ 0 → ⊥) → Told (λ o. FillMeets (shape_of 515) 6 given_a o later) code → ⊥
c-fill_refuses code later ne p =
    told-refused ne (λ q. filling.fill_refuses q later) p

pub c-fill_writes_nothing : Told (λ o. FillMeets (shape_of 515) 6 given_a o given_a) 0 → ⊥
c-fill_writes_nothing p = told-done filling.fill_writes_nothing p

-- bit 16 dropped, as it is by 16 bits: 65542 is then 6
pub c-fill_drops_bits : (later : List ℕ) → Told (λ o. FillMeets (shape_of 515) 65542 given_a o later) 0 → ⊥
unfolding fill_refusal accepted rows groups group_size stripe_length bit_above
c-fill_drops_bits later p = told-done (λ m. none-ne-some 3 (m.refused 3 refl)) p

-- what an answer of a test says is one
test-told_only : (o : Result (Option Failure) Refusal) (whole row t : ℕ) {a a-whole a-row a-t b b-whole b-row b-t : ℕ}
    → TestTold o whole row t a a-whole a-row a-t → TestTold o whole row t b b-whole b-row b-t
    → (a ≡ b) × (a-whole ≡ b-whole) × (a-row ≡ b-row) × (a-t ≡ b-t)
test-told_only (Ok None) whole row t x y = (x.0 ∙ sym y.0, x.1 ∙ sym y.1, x.2 ∙ sym y.2, x.3 ∙ sym y.3)
test-told_only (Ok (Some f)) whole row t x y = (x.0 ∙ sym y.0, x.1 ∙ sym y.1, x.2 ∙ sym y.2, x.3 ∙ sym y.3)
test-told_only (Err q) whole row t x y = (x.0 ∙ sym y.0, x.1 ∙ sym y.1, x.2 ∙ sym y.2, x.3 ∙ sym y.3)

pub c-test_settled : (shape : ℕ) (stripe : List ℕ) (whole row t : ℕ) (a a-whole a-row a-t : ℕ) (b b-whole b-row b-t : ℕ)
    → TestCodeMeets (shape_of shape) stripe whole row t a a-whole a-row a-t → TestCodeMeets (shape_of shape) stripe whole row t b b-whole b-row b-t
    → (a ≡ b) × (a-whole ≡ b-whole) × (a-row ≡ b-row) × (a-t ≡ b-t)
c-test_settled shape stripe whole row t a a-whole a-row a-t b b-whole b-row b-t p q =
    let same = testing.test_settled (shape_of shape) stripe p.answer q.answer p.meets q.meets in
    test-told_only q.answer whole row t (subst (λ o. TestTold o whole row t a a-whole a-row a-t) same p.told) q.told

pub c-test_refuses : (whole row t code whole-later row-later t-later : ℕ) → (code ≡ 0 → ⊥)
    → TestCodeMeets (shape_of 515) stripe_c whole row t code whole-later row-later t-later → ⊥
c-test_refuses whole row t code whole-later row-later t-later ne p = go p.answer p.meets p.told
  where
    go : (o : Result (Option Failure) Refusal) → TestMeets (shape_of 515) stripe_c o → TestTold o whole row t code whole-later row-later t-later → ⊥
    go (Ok None) m x = ne x.0
    go (Ok (Some f)) m x = ne x.0
    go (Err q) m x = testing.test_refuses q m

-- every stripe is whole: J isn't
pub c-test-says-whole : (whole row t row-later t-later : ℕ) → TestCodeMeets (shape_of 515) stripe_j whole row t 0 1 row-later t-later → ⊥
c-test-says-whole whole row t row-later t-later p = go p.answer p.meets p.told
  where
    go : (o : Result (Option Failure) Refusal) → TestMeets (shape_of 515) stripe_j o → TestTold o whole row t 0 1 row-later t-later → ⊥
    go (Ok None) m x = testing.test-says-whole m
    go (Ok (Some f)) m x = let e : ◌≡◌ {A = ℕ} 1 0 = x.1 in omega (arith, e)
    go (Err q) m x = not_zero q (sym x.0)

-- row and t swapped: J fails at row 1, t 0
pub c-test_swaps : (whole row t : ℕ) → TestCodeMeets (shape_of 515) stripe_j whole row t 0 0 0 1 → ⊥
c-test_swaps whole row t p = go p.answer p.meets p.told
  where
    go : (o : Result (Option Failure) Refusal) → TestMeets (shape_of 515) stripe_j o → TestTold o whole row t 0 0 0 1 → ⊥
    go (Ok None) m x = let e : ◌≡◌ {A = ℕ} 0 1 = x.1 in omega (arith, e)
    go (Ok (Some f)) m x =
        let e = (lowest-only (shape_of 515) (symbol (shape_of 515) stripe_j) (all_rows (shape_of 515)) f.row f.t 1 0 m.found fails-j).0 in
        let z : ◌≡◌ {A = ℕ} 0 1 = x.2 ∙ e in
        omega (arith, z)
    go (Err q) m x = not_zero q (sym x.0)

-- 2 in `whole`, of whatever stripe
pub c-test-says_2 : (shape : ℕ) (stripe : List ℕ) (whole row t row-later t-later : ℕ)
    → TestCodeMeets (shape_of shape) stripe whole row t 0 2 row-later t-later → ⊥
c-test-says_2 shape stripe whole row t row-later t-later p = go p.answer p.told
  where
    go : (o : Result (Option Failure) Refusal) → TestTold o whole row t 0 2 row-later t-later → ⊥
    go (Ok None) x = let e : ◌≡◌ {A = ℕ} 2 1 = x.1 in omega (arith, e)
    go (Ok (Some f)) x = let e : ◌≡◌ {A = ℕ} 2 0 = x.1 in omega (arith, e)
    go (Err q) x = not_zero q (sym x.0)

-- a whole stripe, and the row is written
pub c-test-whole_writes : (shape : ℕ) (stripe : List ℕ) (whole t : ℕ) → TestCodeMeets (shape_of shape) stripe whole 7 t 0 1 0 t → ⊥
c-test-whole_writes shape stripe whole t p = go p.answer p.told
  where
    go : (o : Result (Option Failure) Refusal) → TestTold o whole 7 t 0 1 0 t → ⊥
    go (Ok None) x = let e : ◌≡◌ {A = ℕ} 0 7 = x.2 in omega (arith, e)
    go (Ok (Some f)) x = let e : ◌≡◌ {A = ℕ} 1 0 = x.1 in omega (arith, e)
    go (Err q) x = not_zero q (sym x.0)

-- a refusal that writes
pub c-test-refused_writes : (shape : ℕ) (stripe : List ℕ) (row t code : ℕ) → (code ≡ 0 → ⊥)
    → TestCodeMeets (shape_of shape) stripe 7 row t code 0 row t → ⊥
c-test-refused_writes shape stripe row t code ne p = go p.answer p.told
  where
    go : (o : Result (Option Failure) Refusal) → TestTold o 7 row t code 0 row t → ⊥
    go (Ok None) x = ne x.0
    go (Ok (Some f)) x = ne x.0
    go (Err q) x = let e : ◌≡◌ {A = ℕ} 0 7 = x.1 in omega (arith, e)

-- what an answer of the pack reader says is one
read-told_only : (o : Result Contents Refusal) (shape lost : ℕ) {a a-shape a-lost b b-shape b-lost : ℕ}
    → ReadTold o shape lost a a-shape a-lost → ReadTold o shape lost b b-shape b-lost → (a ≡ b) × (a-shape ≡ b-shape) × (a-lost ≡ b-lost)
read-told_only (Ok contents) shape lost {a-shape = a-shape} {b-shape = b-shape} x y =
    (x.0 ∙ sym y.0, shape-only a-shape b-shape (sym x.1 ∙ y.1), x.2 ∙ sym y.2)
read-told_only (Err q) shape lost x y = (x.0 ∙ sym y.0, x.1 ∙ sym y.1, x.2 ∙ sym y.2)

pub c-read-pack_settled : (pack stripe : List ℕ) (shape lost : ℕ) (a : ℕ) (x : List ℕ) (a-shape a-lost : ℕ) (b : ℕ) (y : List ℕ) (b-shape b-lost : ℕ)
    → ReadCodeMeets pack stripe shape lost a x a-shape a-lost → ReadCodeMeets pack stripe shape lost b y b-shape b-lost
    → (a ≡ b) × (x ≡ y) × (a-shape ≡ b-shape) × (a-lost ≡ b-lost)
c-read-pack_settled pack stripe shape lost a x a-shape a-lost b y b-shape b-lost p q =
    let (same, written) = reading.read_settled pack stripe p.answer q.answer x y p.meets q.meets in
    let (e, f, g) = read-told_only q.answer shape lost (subst (λ o. ReadTold o shape lost a a-shape a-lost) same p.told) q.told in
    (e, written, f, g)

-- document 01's worked pack: n = 3, r = 2, and node 2 isn't held
module _ (stripe : List ℕ) (room : length stripe ≡ stripe_most) (shape lost : ℕ) (later : List ℕ) (shape-later lost-later : ℕ) where
  pub c-read-pack_refuses : (code : ℕ) → (code ≡ 0 → ⊥) → ReadCodeMeets worked stripe shape lost code later shape-later lost-later → ⊥
  c-read-pack_refuses code ne p = go p.answer p.meets p.told
    where
      go : (o : Result Contents Refusal) → ReadMeets worked stripe o later → ReadTold o shape lost code shape-later lost-later → ⊥
      go (Ok contents) m x = ne x.0
      go (Err q) m x = reading.read_refuses stripe room q later m

  read-pack-worked : ReadCodeMeets worked stripe shape lost 0 later shape-later lost-later → (shape-later ≡ 515) × (lost-later ≡ 2)
  read-pack-worked p =
      let x = subst (λ o. ReadTold o shape lost 0 shape-later lost-later) (reading.read-c stripe room _ later p.meets).0 p.told in
      (shape-only shape-later 515 (sym x.1), x.2)

  -- the lost set is left as it was, which wasn't 2
  pub c-read-pack_keeps_lost : (lost ≡ 2 → ⊥) → lost-later ≡ lost → ReadCodeMeets worked stripe shape lost 0 later shape-later lost-later → ⊥
  c-read-pack_keeps_lost ne e p = ne (sym e ∙ (read-pack-worked p).1)

  -- n and r swapped in the shape
  pub c-read-pack_swaps : shape-later ≡ 770 → ReadCodeMeets worked stripe shape lost 0 later shape-later lost-later → ⊥
  c-read-pack_swaps e p = omega (arith, e, (read-pack-worked p).0)

-- a refusal that writes
pub c-read-pack-refused_writes : (pack stripe later : List ℕ) (shape code : ℕ) → (code ≡ 0 → ⊥)
    → ReadCodeMeets pack stripe shape 7 code later shape 0 → ⊥
c-read-pack-refused_writes pack stripe later shape code ne p = go p.answer p.told
  where
    go : (o : Result Contents Refusal) → ReadTold o shape 7 code shape 0 → ⊥
    go (Ok contents) x = ne x.0
    go (Err q) x = let e : ◌≡◌ {A = ℕ} 0 7 = x.2 in omega (arith, e)

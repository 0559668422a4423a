-- What each public function promises settles its result: two results that one promise allows are equal. And for each, wrong answers that the promise
-- rules out. In order: `Shape::new`, `measure`, `worth`, `point`; what checks (`Sizes::check_node`, `check_len`).
use mathlib.Core.Path.{◌≡◌, refl, sym, ap, ap₂, ◌∙◌}
use mathlib.Core.Bool.{true, false, true≢false, false≢true}
use mathlib.Core.Logic.{◌⊎◌, inl, inr}
use mathlib.Core.Option.{none, some, none-ne-some, some-ne-none}
use Prim.Native.Nat.{ℕ, ◌<◌, ◌≤◌}
use native.Mathlib.Omega.{arith}
use native.Mathlib.Decide.{dec_le}
use Rattle.field.specs.Number.{modulus, add, double, by_bits, mul, power}
use Rattle.rules.specs.declared.shapes.Shape.{Shape}
use Rattle.rules.specs.declared.shapes.Sizes.{Sizes}
use Rattle.std.specs.Prelude.{Result, Ok, Err, IsOk, IsOkUnless, ◌↔◌}
use Rattle.rules.specs.declared.refusals.Refusal.{Refusal}
use Rattle.rules.specs.declared.refusals.Refusal.TheVariants as refusal
use Rattle.rules.specs.Shape.{group_size, groups, rows, accepted, worth}
use Rattle.rules.specs.Point.{point_of}
use Rattle.rules.specs.Refusal.{shape_refusal, number_of, not_node}
use Rattle.rules.proofs.Numbers.{number_of-injective}
use Rattle.rules.specs.Bench.{shape}
use Rattle.rules.proofs.Accepted.{refusal-cases}
use Rattle.rules.proofs.Measures.{sizes_same}
use Rattle.rules.specs.Sizes.{AreSizes}
use Rattle.rules.specs.Promise.{NewIs, MeasuredIs, WorthIs, PointIs}

pub new_settled : (n r : ℕ) (x y : Shape) → NewIs n r x → NewIs n r y → x ≡ y
new_settled n r x y p q = ap₂ shape (p.nodes ∙ sym q.nodes) (p.parity ∙ sym q.parity)

pub new_swaps : NewIs 3 2 (shape 2 3) → ⊥
new_swaps p = let e : ◌≡◌ {A = ℕ} 2 3 = p.nodes in omega arith

-- a shape that isn't accepted is held as it is
pub new-corrects : NewIs 16 3 (shape 15 3) → ⊥
new-corrects p = let e : ◌≡◌ {A = ℕ} 15 16 = p.nodes in omega arith

pub measure_settled : (sh : Shape) (x y : Result Sizes Refusal) → MeasuredIs sh x → MeasuredIs sh y → x ≡ y
measure_settled sh (Ok x) (Ok y) p q = ap Ok (sizes_same x y (p ∙ sym q))
measure_settled sh (Ok x) (Err b) p q =
    absurd (none-ne-some (number_of b) (sym x.of_shape.taken ∙ ap shape_refusal p ∙ q))
measure_settled sh (Err a) (Ok y) p q =
    absurd (none-ne-some (number_of a) (sym y.of_shape.taken ∙ ap shape_refusal q ∙ p))
measure_settled sh (Err a) (Err b) p q = let n : number_of a ≡ number_of b = cc in ap Err (number_of-injective a b n)

-- refuses everything
pub measure_refuses : (q : Refusal) → MeasuredIs (shape 3 2) (Err q) → ⊥
unfolding shape_refusal accepted rows groups group_size
measure_refuses q p = none-ne-some (number_of q) p

-- accepts 729 rows
pub measure-accepts : (z : Sizes) → MeasuredIs (shape 16 3) (Ok z) → ⊥
unfolding shape_refusal accepted rows groups group_size
measure-accepts z p = some-ne-none 1 (sym (ap shape_refusal p) ∙ z.of_shape.taken)

-- one wrong number among the sizes: l is 4
pub measure_wrong_rows : (z : Sizes) → (z.l ≡ 4 → ⊥) → MeasuredIs (shape 3 2) (Ok z) → ⊥
unfolding rows groups group_size
measure_wrong_rows z wrong p = wrong (z.of_shape.l-is ∙ ap rows p)

-- l = 3, which the type itself rules out
pub sizes_wrong_rows : AreSizes (shape 3 2) 1 2 3 2 → ⊥
unfolding rows groups group_size
sizes_wrong_rows p = let e : ◌≡◌ {A = ℕ} 3 4 = p.l-is in omega arith

-- nor are they the sizes of another shape
pub measure_other_shape : (z : Sizes) → z.l ≡ 8 → MeasuredIs (shape 3 2) (Ok z) → ⊥
unfolding rows groups group_size
measure_other_shape z eight p = let e : ◌≡◌ {A = ℕ} 8 4 = sym eight ∙ z.of_shape.l-is ∙ ap rows p in omega arith

-- no other refusal number
pub measure-numbers : MeasuredIs (shape 16 3) (Err refusal.BadLength) → ⊥
unfolding shape_refusal accepted rows groups group_size
measure-numbers p = let e : ◌≡◌ {A = ℕ} 1 2 = cc in omega arith

pub worth_settled : (sh : Shape) (v x y : ℕ) → WorthIs sh v x → WorthIs sh v y → x ≡ y
worth_settled sh v x y p q = go (refusal-cases sh) (dec_le 1 v) (dec_le v (groups sh))
  where
    out : (shape_refusal sh ≡ some 1) ⊎ (v < 1) ⊎ (groups sh < v) → x ≡ y
    out h = p.outside h ∙ sym (q.outside h)

    go : ((accepted sh ≡ true) × (shape_refusal sh ≡ none)) ⊎ ((accepted sh ≡ false) × (shape_refusal sh ≡ some 1)) → Dec (1 ≤ v) → Dec (v ≤ groups sh) → x ≡ y
    go (inl e) (yes h) (yes k) = p.inside e.1 h k ∙ sym (q.inside e.1 h k)
    go (inl e) (yes h) (no k) = out (inr (inr (omega arith)))
    go (inl e) (no h) d = out (inr (inl (omega arith)))
    go (inr e) c d = out (inl e.1)

-- the first group's digit as the highest
pub worth_highest_first : WorthIs (shape 3 2) 1 2 → ⊥
unfolding shape_refusal accepted rows groups group_size worth
worth_highest_first p = let e : ◌≡◌ {A = ℕ} 2 1 = p.inside refl (omega arith) (omega arith) in omega arith

-- no digit worth nothing
pub worth-zero : WorthIs (shape 3 2) 2 0 → ⊥
unfolding shape_refusal accepted rows groups group_size worth
worth-zero p = let e : ◌≡◌ {A = ℕ} 0 2 = p.inside refl (omega arith) (omega arith) in omega arith

pub point_settled : (sh : Shape) (i x y : ℕ) → PointIs sh i x → PointIs sh i y → x ≡ y
point_settled sh i x y p q = go (dec_le 1 i) (dec_le i 16)
  where
    out : (i < 1) ⊎ (16 < i) → x ≡ y
    out h = p.outside h ∙ sym (q.outside h)

    go : Dec (1 ≤ i) → Dec (i ≤ 16) → x ≡ y
    go (yes h) (yes k) = p.inside h k ∙ sym (q.inside h k)
    go (yes h) (no k) = out (inr (omega arith))
    go (no h) d = out (inl (omega arith))

-- point 1 is 1
pub point_doubled : PointIs (shape 3 2) 1 2 → ⊥
unfolding point_of power
point_doubled p = let e : ◌≡◌ {A = ℕ} 2 1 = p.inside (omega arith) (omega arith) in omega arith

-- 2 to the power 8 is 29
pub point-zero : PointIs (shape 3 2) 9 0 → ⊥
unfolding point_of power mul by_bits double add modulus
point-zero p = let e : ◌≡◌ {A = ℕ} 0 29 = p.inside (omega arith) (omega arith) in omega arith

-- there is no point 17
pub point_wraps : PointIs (shape 3 2) 17 1 → ⊥
point_wraps p = let e : ◌≡◌ {A = ℕ} 1 0 = p.outside (inr (omega arith)) in omega arith

-- of a check: accepted exactly where P holds, and else refused with q
pub check_settled : (P : Type 0) (q : Refusal) (x y : Result (Unit {0}) Refusal) → (IsOk x ↔ P) → IsOkUnless x q → (IsOk y ↔ P) → IsOkUnless y q → x ≡ y
check_settled P q (Ok a) (Ok b) h only k also = refl
check_settled P q (Ok a) (Err b) h only k also = absurd (false≢true (k.1 (h.0 refl)))
check_settled P q (Err a) (Ok b) h only k also = absurd (false≢true (h.1 (k.0 refl)))
check_settled P q (Err a) (Err b) h only k also = ap Err (only ∙ sym also)

abbrev passed : Result (Unit {0}) Refusal
passed = Ok tt

abbrev stopped : Refusal → Result (Unit {0}) Refusal
stopped q = Err q

-- no node 0
pub node-zero-taken : (IsOk passed ↔ (not_node (shape 3 2) 0 ≡ false)) → ⊥
unfolding not_node
node-zero-taken p = true≢false (p.0 refl)

-- node n is one
pub last-node-refused : (q : Refusal) → (IsOk (stopped q) ↔ (not_node (shape 3 2) 3 ≡ false)) → ⊥
unfolding not_node
last-node-refused q p = false≢true (p.1 refl)

-- a longer buffer
pub longer_taken : (IsOk passed ↔ (◌≡◌ {A = ℕ} 13 12)) → ⊥
longer_taken p = let e : ◌≡◌ {A = ℕ} 13 12 = p.0 refl in omega arith

pub exact_refused : (q : Refusal) → (IsOk (stopped q) ↔ (◌≡◌ {A = ℕ} 12 12)) → ⊥
exact_refused q p = false≢true (p.1 refl)

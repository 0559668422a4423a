-- What each entry promises settles its answer and every byte that it leaves: two results that one promise allows are equal. And for each, wrong answers
-- that the promise rules out, at the bench stripes. In order: answers and buffers; `lay`, `read_back`, `cut`.
--   MeetsD answer later == bench D: what `cut` promises of node 2 of C, which helps node 1
use mathlib.Core.Path.{◌≡◌, refl, sym, ap, ◌∙◌}
use mathlib.Core.List.{List, [], ◌∷◌}
use mathlib.Core.Option.{Option, none, some, none-ne-some, some-ne-none}
use Prim.Native.Nat.{ℕ}
use native.Mathlib.Omega.{arith}
use lib.ListN.{get_or}
use Rattle.rules.specs.declared.shapes.Shape.{Shape}
use Rattle.rules.specs.Rising.{rising}
use Rattle.rules.specs.Shape.{group_size, data_nodes, groups, rows, accepted, group, place, worth, digit}
use Rattle.rules.specs.Stripe.{stripe_length, data_length, laid, read_back}
use Rattle.rules.specs.Fraction.{is_read, rows_read, fraction_length, fraction}
use Rattle.rules.specs.Bench.{shape, stripe_c}
use Rattle.std.specs.Prelude.{Result, Ok, Err}
use Rattle.rules.specs.declared.refusals.Refusal.{Refusal}
use Rattle.rules.specs.declared.refusals.Refusal.TheVariants.{BadShape, BadLength, BadNode}
use Rattle.rules.specs.Refusal.{not_node, number_of, refusal_of}
use Rattle.rules.proofs.Numbers.{answers_settled}
use Rattle.yebarg.specs.Refusal.{lay_refusal, read_back_refusal, cut_refusal}
use Rattle.yebarg.specs.Promise.{Writes, LayMeets, ReadBackMeets, CutMeets}

pub writes_settled : (refused : Option ℕ) (wanted before x y : List ℕ) → Writes refused wanted before x → Writes refused wanted before y → x ≡ y
writes_settled none wanted before x y p q = p.written refl ∙ sym (q.written refl)
writes_settled (some k) wanted before x y p q = p.kept k refl ∙ sym (q.kept k refl)

-- an answer is its refusal's number, or that there is none
pub refusal-only : (a b : Result (Unit {0}) Refusal) → refusal_of a ≡ refusal_of b → a ≡ b
refusal-only = answers_settled

-- the answer and the buffer of an entry that writes
answer_settled : (refused : Option ℕ) (wanted before : List ℕ) (a b : Result (Unit {0}) Refusal) (x y : List ℕ)
    → refusal_of a ≡ refused → Writes refused wanted before x → refusal_of b ≡ refused → Writes refused wanted before y → (a ≡ b) × (x ≡ y)
answer_settled refused wanted before a b x y e p f q = (refusal-only a b (e ∙ sym f), writes_settled refused wanted before x y p q)

pub lay_settled : (sh : Shape) (rec stripe : List ℕ) (a b : Result (Unit {0}) Refusal) (x y : List ℕ)
    → LayMeets sh rec stripe a x → LayMeets sh rec stripe b y → (a ≡ b) × (x ≡ y)
lay_settled sh rec stripe a b x y p q =
    answer_settled (lay_refusal sh rec stripe) (laid sh rec stripe) stripe a b x y p.answered p.stripe-later q.answered q.stripe-later

-- a record of one byte, 7, is laid into bench stripe C
pub lay_refuses : (q : Refusal) (later : List ℕ) → LayMeets (shape 3 2) (7 ∷ []) stripe_c (Err q) later → ⊥
unfolding lay_refusal accepted rows groups group_size data_length data_nodes stripe_length
lay_refuses q later p = some-ne-none (number_of q) p.answered

-- what the stripe holds then, at index j
laid-at : (later : List ℕ) → LayMeets (shape 3 2) (7 ∷ []) stripe_c (Ok tt) later → (j : ℕ)
    → get_or later j 0 ≡ get_or (7 ∷ 0 ∷ 0 ∷ 0 ∷ 6 ∷ 15 ∷ 12 ∷ 30 ∷ 2 ∷ 12 ∷ 0 ∷ 5 ∷ []) j 0
unfolding lay_refusal accepted rows groups group_size data_length data_nodes stripe_length laid
laid-at later p j = ap (λ (l : List ℕ). get_or l j 0) (p.stripe-later.written refl)

pub lay_writes_nothing : LayMeets (shape 3 2) (7 ∷ []) stripe_c (Ok tt) stripe_c → ⊥
lay_writes_nothing p = let e : ◌≡◌ {A = ℕ} 4 7 = laid-at stripe_c p 0 in omega arith

pub lay_writes_zeros : LayMeets (shape 3 2) (7 ∷ []) stripe_c (Ok tt) (0 ∷ 0 ∷ 0 ∷ 0 ∷ 0 ∷ 0 ∷ 0 ∷ 0 ∷ 0 ∷ 0 ∷ 0 ∷ 0 ∷ []) → ⊥
lay_writes_zeros p = let e : ◌≡◌ {A = ℕ} 0 7 = laid-at _ p 0 in omega arith

-- a data byte past the record is kept that is to be zero
pub lay_wrong_byte : LayMeets (shape 3 2) (7 ∷ []) stripe_c (Ok tt) (7 ∷ 0 ∷ 0 ∷ 12 ∷ 6 ∷ 15 ∷ 12 ∷ 30 ∷ 2 ∷ 12 ∷ 0 ∷ 5 ∷ []) → ⊥
lay_wrong_byte p = let e : ◌≡◌ {A = ℕ} 12 0 = laid-at _ p 3 in omega arith

pub lay_clears_parity : LayMeets (shape 3 2) (7 ∷ []) stripe_c (Ok tt) (7 ∷ 0 ∷ 0 ∷ 0 ∷ 0 ∷ 0 ∷ 0 ∷ 0 ∷ 0 ∷ 0 ∷ 0 ∷ 0 ∷ []) → ⊥
lay_clears_parity p = let e : ◌≡◌ {A = ℕ} 0 6 = laid-at _ p 4 in omega arith

-- a refusal that changes a byte
pub lay-refused_writes : LayMeets (shape 16 3) (7 ∷ []) stripe_c (Err BadShape) (7 ∷ 0 ∷ 0 ∷ 12 ∷ 6 ∷ 15 ∷ 12 ∷ 30 ∷ 2 ∷ 12 ∷ 0 ∷ 5 ∷ []) → ⊥
unfolding lay_refusal accepted rows groups group_size
lay-refused_writes p = let e : ◌≡◌ {A = ℕ} 7 4 = ap (λ (l : List ℕ). get_or l 0 0) (p.stripe-later.kept 1 refl) in omega arith

-- a shape that isn't accepted goes before a wrong length
pub lay_order : (later : List ℕ) → LayMeets (shape 16 3) (7 ∷ []) stripe_c (Err BadLength) later → ⊥
unfolding lay_refusal accepted rows groups group_size
lay_order later p = let h = p.answered in let e : ◌≡◌ {A = ℕ} 2 1 = cc in omega arith

pub read-back_settled : (sh : Shape) (stripe buffer : List ℕ) (a b : Result (Unit {0}) Refusal) (x y : List ℕ)
    → ReadBackMeets sh stripe buffer a x → ReadBackMeets sh stripe buffer b y → (a ≡ b) × (x ≡ y)
read-back_settled sh stripe buffer a b x y p q =
    answer_settled (read_back_refusal sh stripe buffer) (read_back sh stripe) buffer a b x y p.answered p.buffer_later q.answered q.buffer_later

pub read-back_refuses : (q : Refusal) (later : List ℕ) → ReadBackMeets (shape 3 2) stripe_c (0 ∷ 0 ∷ 0 ∷ 0 ∷ []) (Err q) later → ⊥
unfolding read_back_refusal accepted rows groups group_size data_length data_nodes stripe_length
read-back_refuses q later p = some-ne-none (number_of q) p.answered

-- bench stripe C's record is 4, 0, 0, 12
read_at : (later : List ℕ) → ReadBackMeets (shape 3 2) stripe_c (0 ∷ 0 ∷ 0 ∷ 0 ∷ []) (Ok tt) later → (j : ℕ) → get_or later j 0 ≡ get_or (4 ∷ 0 ∷ 0 ∷ 12 ∷ []) j 0
unfolding read_back_refusal accepted rows groups group_size data_length data_nodes stripe_length read_back
read_at later p j = ap (λ (l : List ℕ). get_or l j 0) (p.buffer_later.written refl)

pub read-back_writes_nothing : ReadBackMeets (shape 3 2) stripe_c (0 ∷ 0 ∷ 0 ∷ 0 ∷ []) (Ok tt) (0 ∷ 0 ∷ 0 ∷ 0 ∷ []) → ⊥
read-back_writes_nothing p = let e : ◌≡◌ {A = ℕ} 0 4 = read_at _ p 0 in omega arith

pub read-back_wrong_byte : ReadBackMeets (shape 3 2) stripe_c (0 ∷ 0 ∷ 0 ∷ 0 ∷ []) (Ok tt) (4 ∷ 0 ∷ 0 ∷ 6 ∷ []) → ⊥
read-back_wrong_byte p = let e : ◌≡◌ {A = ℕ} 6 12 = read_at _ p 3 in omega arith

pub read-back-refused_writes : ReadBackMeets (shape 3 2) stripe_c (0 ∷ 0 ∷ 0 ∷ []) (Err BadLength) (4 ∷ 0 ∷ 0 ∷ []) → ⊥
unfolding read_back_refusal accepted rows groups group_size data_length data_nodes stripe_length
read-back-refused_writes p = let e : ◌≡◌ {A = ℕ} 4 0 = ap (λ (l : List ℕ). get_or l 0 0) (p.buffer_later.kept 2 refl) in omega arith

pub cut_settled : (sh : Shape) (helper failed : ℕ) (col buffer : List ℕ) (a b : Result (Unit {0}) Refusal) (x y : List ℕ)
    → CutMeets sh helper failed col buffer a x → CutMeets sh helper failed col buffer b y → (a ≡ b) × (x ≡ y)
cut_settled sh helper failed col buffer a b x y p q =
    answer_settled (cut_refusal sh helper failed col buffer) (fraction sh failed col) buffer a b x y
    p.answered p.buffer_later q.answered q.buffer_later

abbrev MeetsD : Result (Unit {0}) Refusal → List ℕ → Type 0
MeetsD answer later = CutMeets (shape 3 2) 2 1 (6 ∷ 15 ∷ 12 ∷ 30 ∷ []) (0 ∷ 0 ∷ []) answer later

pub cut_refuses : (q : Refusal) (later : List ℕ) → MeetsD (Err q) later → ⊥
unfolding cut_refusal not_node accepted rows groups group_size fraction_length
cut_refuses q later p = some-ne-none (number_of q) p.answered

-- 6, 12 is given
cut_at : (later : List ℕ) → MeetsD (Ok tt) later → (j : ℕ) → get_or later j 0 ≡ get_or (6 ∷ 12 ∷ []) j 0
unfolding cut_refusal not_node accepted rows groups group_size fraction_length fraction rows_read rising is_read digit group place worth
cut_at later p j = ap (λ (l : List ℕ). get_or l j 0) (p.buffer_later.written refl)

pub cut_writes_nothing : MeetsD (Ok tt) (0 ∷ 0 ∷ []) → ⊥
cut_writes_nothing p = let e : ◌≡◌ {A = ℕ} 0 6 = cut_at _ p 0 in omega arith

pub cut_highest_digit-first : MeetsD (Ok tt) (6 ∷ 15 ∷ []) → ⊥
cut_highest_digit-first p = let e : ◌≡◌ {A = ℕ} 15 12 = cut_at _ p 1 in omega arith

-- the byte at row 0 for every row
pub cut-row_0_for_all : MeetsD (Ok tt) (6 ∷ 6 ∷ []) → ⊥
cut-row_0_for_all p = let e : ◌≡◌ {A = ℕ} 6 12 = cut_at _ p 1 in omega arith

pub cut_wrong_byte : MeetsD (Ok tt) (15 ∷ 12 ∷ []) → ⊥
cut_wrong_byte p = let e : ◌≡◌ {A = ℕ} 15 6 = cut_at _ p 0 in omega arith

-- a node that helps itself
pub cut_takes_itself : (later : List ℕ) → CutMeets (shape 3 2) 1 1 (4 ∷ 0 ∷ 0 ∷ 12 ∷ []) (0 ∷ 0 ∷ []) (Ok tt) later → ⊥
unfolding cut_refusal not_node accepted rows groups group_size fraction_length
cut_takes_itself later p = none-ne-some 3 p.answered

-- a wrong length goes before a node that there isn't
pub cut_order : (later : List ℕ) → CutMeets (shape 3 2) 4 1 (6 ∷ 15 ∷ 12 ∷ []) (0 ∷ 0 ∷ []) (Err BadNode) later → ⊥
unfolding cut_refusal not_node accepted rows groups group_size fraction_length
cut_order later p = let h = p.answered in let e : ◌≡◌ {A = ℕ} 3 2 = cc in omega arith

pub cut-refused_writes : CutMeets (shape 3 2) 1 1 (4 ∷ 0 ∷ 0 ∷ 12 ∷ []) (0 ∷ 0 ∷ []) (Err BadNode) (4 ∷ 0 ∷ []) → ⊥
unfolding cut_refusal not_node accepted rows groups group_size fraction_length
cut-refused_writes p = let e : ◌≡◌ {A = ℕ} 4 0 = ap (λ (l : List ℕ). get_or l 0 0) (p.buffer_later.kept 3 refl) in omega arith

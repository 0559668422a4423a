-- What each function promises settles its answer and every byte of the sums: two results that one promise allows are equal. And for each, wrong answers that
-- the promise rules out. In order: `add_shares`; `add_node`.
--   Shares answer later == what `add_shares` promises of the weights 3 and 5 and the point 2, added to two sums a row, which are 1
--   Node answer later   == what `add_node` promises of the first node of a group of two, with the columns 6, 12 and 5, 7 and the point 2, added to two sums a
--                          row, which are 1
use mathlib.Core.Path.{◌≡◌, refl, sym, ap, ◌∙◌}
use Rattle.std.specs.Prelude.{Result, Ok, Err}
use Rattle.rules.specs.declared.refusals.Misfit.{Misfit}
use mathlib.Core.List.{List, [], ◌∷◌}
use Prim.Native.Nat.{ℕ, ◌*◌}
use native.Mathlib.Omega.{arith}
use lib.ListN.{length, get_or}
use Rattle.field.specs.Number.{modulus, add, double, by_bits, mul, power}
use Rattle.rules.specs.Point.{γ}
use Rattle.rules.specs.Equation.{weighed}
use Rattle.rules.proofs.Stripes.{by_columns}
use Rattle.weights.specs.Promise.{weight_at, Shared, SharesAre, NodeAdded}

-- the shares of the same weights
shared-only : (r p l : ℕ) (weights : ℕ → ℕ) (before x y : List ℕ) → length before ≡ r * l → Shared r p l weights before x → Shared r p l weights before y
    → x ≡ y
shared-only r p l weights before x y exact v w =
    by_columns r l x y (v.same_length ∙ exact) (w.same_length ∙ exact) (λ t a ht ha. v.bytes t a ht ha ∙ sym (w.bytes t a ht ha))

pub add_shares_settled : (r p : ℕ) (weights before : List ℕ) (a b : Result (Unit {0}) Misfit) (x y : List ℕ)
    → SharesAre r p weights before a x → SharesAre r p weights before b y → (a ≡ b) × (x ≡ y)
add_shares_settled r p weights before (Ok _) (Ok _) x y v w =
    (refl, shared-only r p (length weights) _ before x y v.can.exact v.shared w.shared)
add_shares_settled r p weights before (Ok _) (Err _) x y v w = absurd (w.cannot v.can)
add_shares_settled r p weights before (Err _) (Ok _) x y v w = absurd (v.cannot w.can)
add_shares_settled r p weights before (Err _) (Err _) x y v w = (refl, v.kept ∙ sym w.kept)

abbrev Shares : Result (Unit {0}) Misfit → List ℕ → Type 0
Shares = SharesAre 2 2 (3 ∷ 5 ∷ []) (1 ∷ 1 ∷ 1 ∷ 1 ∷ [])

pub add_shares_refuses : (misfit : Misfit) (later : List ℕ) → Shares (Err misfit) later → ⊥
add_shares_refuses misfit later p = p.cannot (record { few = omega arith; short = omega arith; exact = refl })

-- 3 and 5 are added for t = 0, and 2 times them for t = 1: 6 and 10
shared_at : (later : List ℕ) → Shares (Ok tt) later → (get_or later 0 0 ≡ 2) × (get_or later 1 0 ≡ 4) × (get_or later 2 0 ≡ 7) × (get_or later 3 0 ≡ 11)
unfolding power mul by_bits double add modulus
shared_at later p =
    let w = p.shared in (
      w.bytes 0 0 (omega arith) (omega arith),
      w.bytes 0 1 (omega arith) (omega arith),
      w.bytes 1 0 (omega arith) (omega arith),
      w.bytes 1 1 (omega arith) (omega arith),
    )

pub add_shares_adds_nothing : Shares (Ok tt) (1 ∷ 1 ∷ 1 ∷ 1 ∷ []) → ⊥
add_shares_adds_nothing p = let e : ◌≡◌ {A = ℕ} 1 2 = (shared_at _ p).0 in omega arith

-- stored, and not added
pub add_shares_stores : Shares (Ok tt) (3 ∷ 5 ∷ 6 ∷ 10 ∷ []) → ⊥
add_shares_stores p = let e : ◌≡◌ {A = ℕ} 3 2 = (shared_at _ p).0 in omega arith

-- the same for every t
pub add_shares_no_powers : Shares (Ok tt) (2 ∷ 4 ∷ 2 ∷ 4 ∷ []) → ⊥
add_shares_no_powers p = let e : ◌≡◌ {A = ℕ} 2 7 = (shared_at _ p).2 in omega arith

-- a sum too few taken; and a byte written with a refusal
pub add_shares_takes_short : (later : List ℕ) → SharesAre 2 2 (3 ∷ 5 ∷ []) (1 ∷ 1 ∷ 1 ∷ []) (Ok tt) later → ⊥
add_shares_takes_short later p = let e : ◌≡◌ {A = ℕ} 3 4 = p.can.exact in omega arith

pub add_shares_refused_writes : (misfit : Misfit) → SharesAre 2 2 (3 ∷ 5 ∷ []) (1 ∷ 1 ∷ 1 ∷ []) (Err misfit) (2 ∷ 1 ∷ 1 ∷ []) → ⊥
add_shares_refused_writes misfit p = let e : ◌≡◌ {A = ℕ} 2 1 = ap (λ (xs : List ℕ). get_or xs 0 0) p.kept in omega arith

pub add-node_settled : (s w l u r p : ℕ) (group before : List ℕ) (a b : Result (Unit {0}) Misfit) (x y : List ℕ)
    → NodeAdded s w l u r p group before a x → NodeAdded s w l u r p group before b y → (a ≡ b) × (x ≡ y)
add-node_settled s w l u r p group before (Ok _) (Ok _) x y v k =
    (refl, shared-only r p l _ before x y v.can.exact v.shared k.shared)
add-node_settled s w l u r p group before (Ok _) (Err _) x y v k = absurd (k.cannot v.can)
add-node_settled s w l u r p group before (Err _) (Ok _) x y v k = absurd (v.cannot k.can)
add-node_settled s w l u r p group before (Err _) (Err _) x y v k = (refl, v.kept ∙ sym k.kept)

abbrev Node : Result (Unit {0}) Misfit → List ℕ → Type 0
Node = NodeAdded 2 1 2 0 2 2 (6 ∷ 12 ∷ 5 ∷ 7 ∷ []) (1 ∷ 1 ∷ 1 ∷ 1 ∷ [])

pub add-node_refuses : (misfit : Misfit) (later : List ℕ) → Node (Err misfit) later → ⊥
add-node_refuses misfit later p =
    p.cannot (record {
      counts = omega arith;
      counts-most = omega arith;
      inside = omega arith;
      size-most = omega arith;
      few = omega arith;
      short = omega arith;
      exact = refl;
    })

-- at row 0 the node is its own mate and weighs 6; at row 1 its weight is γ times 12, and 5: 29
weighed-at : (later : List ℕ) → Node (Ok tt) later → (get_or later 0 0 ≡ 7) × (get_or later 1 0 ≡ 28) × (get_or later 2 0 ≡ 13) × (get_or later 3 0 ≡ 59)
unfolding weight_at weighed γ power mul by_bits double add modulus
weighed-at later p =
    let w = p.shared in (
      w.bytes 0 0 (omega arith) (omega arith),
      w.bytes 0 1 (omega arith) (omega arith),
      w.bytes 1 0 (omega arith) (omega arith),
      w.bytes 1 1 (omega arith) (omega arith),
    )

pub add-node_adds_nothing : Node (Ok tt) (1 ∷ 1 ∷ 1 ∷ 1 ∷ []) → ⊥
add-node_adds_nothing p = let e : ◌≡◌ {A = ℕ} 1 7 = (weighed-at _ p).0 in omega arith

-- the node's symbols, as if it had no mate
pub add-node-own_symbols : Node (Ok tt) (7 ∷ 13 ∷ 13 ∷ 25 ∷ []) → ⊥
add-node-own_symbols p = let e : ◌≡◌ {A = ℕ} 13 28 = (weighed-at _ p).1 in omega arith

-- 12 and 5, without γ
pub add-node_no_gamma : Node (Ok tt) (7 ∷ 8 ∷ 13 ∷ 19 ∷ []) → ⊥
add-node_no_gamma p = let e : ◌≡◌ {A = ℕ} 8 28 = (weighed-at _ p).1 in omega arith

-- a place outside the group taken; and a byte written with a refusal
pub add-node_takes_outside : (later : List ℕ) → NodeAdded 2 1 2 2 2 2 (6 ∷ 12 ∷ 5 ∷ 7 ∷ []) (1 ∷ 1 ∷ 1 ∷ 1 ∷ []) (Ok tt) later → ⊥
add-node_takes_outside later p = omega (arith, p.can.inside)

pub add-node-refused_writes : (misfit : Misfit) → NodeAdded 2 1 2 2 2 2 (6 ∷ 12 ∷ 5 ∷ 7 ∷ []) (1 ∷ 1 ∷ 1 ∷ 1 ∷ []) (Err misfit) (7 ∷ 1 ∷ 1 ∷ 1 ∷ []) → ⊥
add-node-refused_writes misfit p = let e : ◌≡◌ {A = ℕ} 7 1 = ap (λ (xs : List ℕ). get_or xs 0 0) p.kept in omega arith

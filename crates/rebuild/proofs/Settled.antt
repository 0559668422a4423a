-- What `rebuild` promises settles its answer and every byte that it leaves: two results that the promise allows are equal. And wrong answers that it rules
-- out, at bench stripes with n = 3, r = 2. In order: settled; H and its wrong answers; I; a column of B; refusals.
--   MeetsH answer later == bench H: what `rebuild` promises of the fractions 6 12 and 2 0 for node 1
--   MeetsI answer later == bench I: of the fractions 4 0 and 6 15 for node 3
use mathlib.Core.Path.{◌≡◌, refl, sym, ap, ◌∙◌}
use mathlib.Core.List.{List, [], ◌∷◌, flat_map}
use mathlib.Core.Option.{Option, none, some, none-ne-some, some-ne-none}
use Prim.Native.Nat.{ℕ}
use native.Mathlib.Omega.{arith}
use lib.ListN.{get_or}
use Rattle.rules.specs.declared.shapes.Shape.{Shape}
use Rattle.rules.specs.Shape.{group_size, data_nodes, groups, rows, accepted, group, place, worth, digit}
use Rattle.rules.specs.Rising.{rising}
use Rattle.rules.specs.Stripe.{IsBytes, data_length, column_start, column}
use Rattle.rules.specs.Fraction.{is_read, rows_read, fraction_length, fraction, helpers, end_to_end, cut_all, MeetsRead}
use Rattle.rules.specs.Bench.{shape}
use Rattle.rules.proofs.Accepted.{bounds}
use Rattle.rules.proofs.Rebuildings.{cut-rebuilt}
use Rattle.rules.proofs.Benches.{parity-a, parity-b, rebuilt-h, rebuilt-i, bench-shape}
use Rattle.std.specs.Prelude.{Result, Ok, Err}
use Rattle.rules.specs.declared.refusals.Refusal.{Refusal}
use Rattle.rules.specs.declared.refusals.Refusal.TheVariants.{BadLength, BadNode}
use Rattle.rules.specs.Refusal.{number_of, not_node}
use Rattle.rules.proofs.Numbers.{answers_settled}
use Rattle.rebuild.specs.Refusal.{rebuild_refusal}
use Rattle.rebuild.specs.Promise.{RebuildMeets}
use Rattle.rebuild.proofs.Taken.{rebuild-answers}

module _ (sh : Shape) (failed : ℕ) (fractions before : List ℕ) (a b : Result (Unit {0}) Refusal) (x y : List ℕ)
    (p : RebuildMeets sh failed fractions before a x) (q : RebuildMeets sh failed fractions before b y) where
  pub rebuild_settled : (a ≡ b) × (x ≡ y)
  rebuild_settled = (answers_settled a b (p.answered ∙ sym q.answered), go (rebuild_refusal sh failed fractions before) refl)
    where
      go : (z : Option ℕ) → rebuild_refusal sh failed fractions before ≡ z → x ≡ y
      go (some k) t = p.kept k t ∙ sym (q.kept k t)
      go none t = rebuild-answers sh failed fractions before a x t p y (q.rebuilt t).bytes (q.rebuilt t).meets

-- the column that is lent holds sevens
abbrev MeetsH : Result (Unit {0}) Refusal → List ℕ → Type 0
MeetsH answer later = RebuildMeets (shape 3 2) 1 (6 ∷ 12 ∷ 2 ∷ 0 ∷ []) (7 ∷ 7 ∷ 7 ∷ 7 ∷ []) answer later

taken-h : rebuild_refusal (shape 3 2) 1 (6 ∷ 12 ∷ 2 ∷ 0 ∷ []) (7 ∷ 7 ∷ 7 ∷ 7 ∷ []) ≡ none
unfolding rebuild_refusal not_node accepted rows groups group_size fraction_length
taken-h = refl

-- 4, 0, 0, 12 is written
at_H : (answer : Result (Unit {0}) Refusal) (later : List ℕ) → MeetsH answer later → (j : ℕ) → get_or later j 0 ≡ get_or (4 ∷ 0 ∷ 0 ∷ 12 ∷ []) j 0
at_H answer later p j =
    ap (λ (l : List ℕ). get_or l j 0)
    (rebuild-answers (shape 3 2) 1 (6 ∷ 12 ∷ 2 ∷ 0 ∷ []) (7 ∷ 7 ∷ 7 ∷ 7 ∷ []) answer later taken-h p (4 ∷ 0 ∷ 0 ∷ 12 ∷ []) rebuilt-h.1 rebuilt-h.2)

-- refuses everything
pub rebuild_refuses : (q : Refusal) (later : List ℕ) → MeetsH (Err q) later → ⊥
rebuild_refuses q later p = some-ne-none (number_of q) (p.answered ∙ taken-h)

-- the column of a replaced node comes back as zeros
pub rebuild_writes_zeros : MeetsH (Ok tt) (0 ∷ 0 ∷ 0 ∷ 0 ∷ []) → ⊥
rebuild_writes_zeros p = let e : ◌≡◌ {A = ℕ} 0 4 = at_H (Ok tt) _ p 0 in omega arith

pub rebuild_writes_nothing : MeetsH (Ok tt) (7 ∷ 7 ∷ 7 ∷ 7 ∷ []) → ⊥
rebuild_writes_nothing p = let e : ◌≡◌ {A = ℕ} 7 4 = at_H (Ok tt) _ p 0 in omega arith

-- solves row 0 and copies it to the other rows
pub rebuild-row_0_for_all : MeetsH (Ok tt) (4 ∷ 4 ∷ 4 ∷ 4 ∷ []) → ⊥
rebuild-row_0_for_all p = let e : ◌≡◌ {A = ℕ} 4 0 = at_H (Ok tt) _ p 1 in omega arith

-- the rows read alone are written: rows 0 and 2 of node 1
pub rebuild-rows-read-alone : MeetsH (Ok tt) (4 ∷ 7 ∷ 0 ∷ 7 ∷ []) → ⊥
rebuild-rows-read-alone p = let e : ◌≡◌ {A = ℕ} 7 0 = at_H (Ok tt) _ p 1 in omega arith

pub rebuild_wrong_byte : MeetsH (Ok tt) (4 ∷ 0 ∷ 0 ∷ 6 ∷ []) → ⊥
rebuild_wrong_byte p = let e : ◌≡◌ {A = ℕ} 6 12 = at_H (Ok tt) _ p 3 in omega arith

-- node 3 is in the half-filled group: its rebuild stands on a phantom's point
abbrev MeetsI : Result (Unit {0}) Refusal → List ℕ → Type 0
MeetsI answer later = RebuildMeets (shape 3 2) 3 (4 ∷ 0 ∷ 6 ∷ 15 ∷ []) (7 ∷ 7 ∷ 7 ∷ 7 ∷ []) answer later

taken-i : rebuild_refusal (shape 3 2) 3 (4 ∷ 0 ∷ 6 ∷ 15 ∷ []) (7 ∷ 7 ∷ 7 ∷ 7 ∷ []) ≡ none
unfolding rebuild_refusal not_node accepted rows groups group_size fraction_length
taken-i = refl

-- 2, 12, 0, 5 is written
at-i : (answer : Result (Unit {0}) Refusal) (later : List ℕ) → MeetsI answer later → (j : ℕ) → get_or later j 0 ≡ get_or (2 ∷ 12 ∷ 0 ∷ 5 ∷ []) j 0
at-i answer later p j =
    ap (λ (l : List ℕ). get_or l j 0)
    (rebuild-answers (shape 3 2) 3 (4 ∷ 0 ∷ 6 ∷ 15 ∷ []) (7 ∷ 7 ∷ 7 ∷ 7 ∷ []) answer later taken-i p (2 ∷ 12 ∷ 0 ∷ 5 ∷ []) rebuilt-i.1 rebuilt-i.2)

pub rebuild-row_0_for_all-i : MeetsI (Ok tt) (2 ∷ 2 ∷ 2 ∷ 2 ∷ []) → ⊥
rebuild-row_0_for_all-i p = let e : ◌≡◌ {A = ℕ} 2 12 = at-i (Ok tt) _ p 1 in omega arith

-- rows 2 and 3, which only the phantom's equations give, are left as they were
pub rebuild-without-phantom : MeetsI (Ok tt) (2 ∷ 12 ∷ 7 ∷ 7 ∷ []) → ⊥
rebuild-without-phantom p = let e : ◌≡◌ {A = ℕ} 7 0 = at-i (Ok tt) _ p 2 in omega arith

-- node 1 of A and of B, from the fractions of their other columns
abbrev MeetsNode1 : List ℕ → List ℕ → Type 0
MeetsNode1 fractions later = RebuildMeets (shape 3 2) 1 fractions (7 ∷ 7 ∷ 7 ∷ 7 ∷ []) (Ok tt) later

at-node_1 : (fractions col later : List ℕ) → rebuild_refusal (shape 3 2) 1 fractions (7 ∷ 7 ∷ 7 ∷ 7 ∷ []) ≡ none → IsBytes (rows (shape 3 2)) col
    → MeetsRead (shape 3 2) 1 fractions col → MeetsNode1 fractions later → (j : ℕ) → get_or later j 0 ≡ get_or col j 0
at-node_1 fractions col later taken bytes meets p j =
    ap (λ (l : List ℕ). get_or l j 0) (rebuild-answers (shape 3 2) 1 fractions (7 ∷ 7 ∷ 7 ∷ 7 ∷ []) (Ok tt) later taken p col bytes meets)

at-a : (later : List ℕ) → MeetsNode1 (6 ∷ 0 ∷ 2 ∷ 0 ∷ []) later → (j : ℕ) → get_or later j 0 ≡ get_or (4 ∷ 0 ∷ 0 ∷ 0 ∷ []) j 0
unfolding cut_all end_to_end helpers flat_map fraction column column_start rows_read rising is_read digit group place worth rows groups group_size data_length data_nodes rebuild_refusal not_node accepted fraction_length
at-a later =
    at-node_1 (6 ∷ 0 ∷ 2 ∷ 0 ∷ []) (4 ∷ 0 ∷ 0 ∷ 0 ∷ []) later refl parity-a.0
    (cut-rebuilt (shape 3 2) (bounds (shape 3 2) bench-shape.0) 1 (omega arith) (omega arith) _ parity-a.2)

at-b : (later : List ℕ) → MeetsNode1 (0 ∷ 12 ∷ 0 ∷ 0 ∷ []) later → (j : ℕ) → get_or later j 0 ≡ get_or (0 ∷ 0 ∷ 0 ∷ 12 ∷ []) j 0
unfolding cut_all end_to_end helpers flat_map fraction column column_start rows_read rising is_read digit group place worth rows groups group_size data_length data_nodes rebuild_refusal not_node accepted fraction_length
at-b later =
    at-node_1 (0 ∷ 12 ∷ 0 ∷ 0 ∷ []) (0 ∷ 0 ∷ 0 ∷ 12 ∷ []) later refl parity-b.0
    (cut-rebuilt (shape 3 2) (bounds (shape 3 2) bench-shape.0) 1 (omega arith) (omega arith) _ parity-b.2)

-- the column of a replaced node comes back as zeros
pub rebuild_writes_zeros-a : MeetsNode1 (6 ∷ 0 ∷ 2 ∷ 0 ∷ []) (0 ∷ 0 ∷ 0 ∷ 0 ∷ []) → ⊥
rebuild_writes_zeros-a p = let e : ◌≡◌ {A = ℕ} 0 4 = at-a _ p 0 in omega arith

-- solves row 0, which has 0, and copies it to the other rows
pub rebuild-row_0_for_all-b : MeetsNode1 (0 ∷ 12 ∷ 0 ∷ 0 ∷ []) (0 ∷ 0 ∷ 0 ∷ 0 ∷ []) → ⊥
rebuild-row_0_for_all-b p = let e : ◌≡◌ {A = ℕ} 0 12 = at-b _ p 3 in omega arith

-- there is no node 4 to rebuild: it is a phantom
pub rebuild_takes_phantom : (later : List ℕ) → RebuildMeets (shape 3 2) 4 (6 ∷ 12 ∷ 2 ∷ 0 ∷ []) (7 ∷ 7 ∷ 7 ∷ 7 ∷ []) (Ok tt) later → ⊥
unfolding rebuild_refusal not_node accepted rows groups group_size fraction_length
rebuild_takes_phantom later p = none-ne-some 3 p.answered

-- a refusal that changes a byte
pub rebuild-refused_writes : RebuildMeets (shape 3 2) 4 (6 ∷ 12 ∷ 2 ∷ 0 ∷ []) (7 ∷ 7 ∷ 7 ∷ 7 ∷ []) (Err BadNode) (4 ∷ 0 ∷ 0 ∷ 12 ∷ []) → ⊥
unfolding rebuild_refusal not_node accepted rows groups group_size fraction_length
rebuild-refused_writes p = let e : ◌≡◌ {A = ℕ} 4 7 = ap (λ (l : List ℕ). get_or l 0 0) (p.kept 3 refl) in omega arith

-- a shape that isn't accepted goes before a wrong length
pub rebuild-shape-first : (later : List ℕ) → RebuildMeets (shape 16 3) 1 (6 ∷ 12 ∷ []) (7 ∷ []) (Err BadLength) later → ⊥
unfolding rebuild_refusal accepted rows groups group_size
rebuild-shape-first later p = let h = p.answered in let e : ◌≡◌ {A = ℕ} 2 1 = cc in omega arith

-- a wrong length goes before a node that there isn't
pub rebuild-length-first : (later : List ℕ) → RebuildMeets (shape 3 2) 4 (6 ∷ 12 ∷ 2 ∷ []) (7 ∷ 7 ∷ 7 ∷ 7 ∷ []) (Err BadNode) later → ⊥
unfolding rebuild_refusal accepted rows groups group_size fraction_length
rebuild-length-first later p = let h = p.answered in let e : ◌≡◌ {A = ℕ} 3 2 = cc in omega arith

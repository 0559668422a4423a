-- What `read_layout` promises settles its answer: two results that the promise allows are equal. And wrong answers that it rules out, at document 01's
-- pack and at packs near it.
--   near total first padding second offset == document 01's pack, which is near 32 1 0 3 28, with these bytes: the total, the nodes of both entries, a
--                                             padding byte of the first entry, the offset of the second
use mathlib.Core.Path.{◌≡◌, refl, sym, ap, ◌∙◌}
use mathlib.Core.List.{List, [], ◌∷◌, ◌++◌}
use mathlib.Core.Option.{none-ne-some, some-ne-none, some-injective}
use Prim.Native.Nat.{ℕ}
use native.Mathlib.Omega.{arith}
use Rattle.rules.specs.Shape.{group_size, groups, rows, accepted}
use Rattle.rules.specs.Rising.{rising}
use Rattle.rules.specs.Lost.{is_lost}
use Rattle.rules.specs.Bench.{shape}
use Rattle.rules.specs.Refusal.{not_node}
use Rattle.layout.specs.declared.answers.Found.{Found}
use Rattle.std.specs.Prelude.{Result, Ok, Err}
use Rattle.rules.specs.declared.refusals.Refusal.{Refusal}
use Rattle.rules.specs.declared.refusals.Refusal.TheVariants as refusal
use Rattle.rules.proofs.Numbers.{number_of-injective}
use Rattle.entries.specs.Pack.{nodes_of, columns_at, offset_of, total_of, entry_at}
use Rattle.entries.specs.Parts.{number_at, total_in, node_in, padded_in, offset_in, node_before}
use Rattle.entries.specs.Refusal.{first_from, bad_entry, first_bad_entry, wrong_total, wrong_offset, first_wrong_offset, wrong_length, layout_refusal}
use Rattle.rules.specs.Refusal.{refusal_of, number_of}
use Rattle.layout.specs.Promise.{LayoutMeets}
use Rattle.layout.proofs.Packs.{layout_only}
use Rattle.layout.proofs.Worked.{worked, worked_columns, worked-accepted, worked-found}

pub layout_settled : (pack : List ℕ) (a b : Result Found Refusal) → LayoutMeets pack a → LayoutMeets pack b → a ≡ b
layout_settled pack (Ok x) (Ok y) p q = ap Ok (layout_only pack x y (p.finds x refl) (q.finds y refl))
layout_settled pack (Ok x) (Err j) p q = absurd (none-ne-some (number_of j) (p.answered ∙ sym q.answered))
layout_settled pack (Err i) (Ok y) p q = absurd (some-ne-none (number_of i) (p.answered ∙ sym q.answered))
layout_settled pack (Err i) (Err j) p q =
    ap Err (number_of-injective i j (some-injective (number_of i) (number_of j) (p.answered ∙ sym q.answered)))

-- everything is refused
pub layout_refuses : (q : Refusal) → LayoutMeets worked (Err q) → ⊥
layout_refuses q p = some-ne-none (number_of q) (ap refusal_of (worked-accepted (Err q) p))

-- another shape
pub layout_wrong_shape : (found : Found) → (found.shape ≡ shape 3 2 → ⊥) → LayoutMeets worked (Ok found) → ⊥
layout_wrong_shape found ne p = ne (ap (λ x. x.shape) (worked-found found p))

-- another set than that of nodes 1 and 3, say 3, that of 1 and 2
pub layout_wrong_set : (found : Found) → (found.held ≡ 5 → ⊥) → LayoutMeets worked (Ok found) → ⊥
layout_wrong_set found ne p = ne (ap (λ x. x.held) (worked-found found p))

-- the columns begin elsewhere than at 24, say at 8 or at 25
pub layout_wrong_start : (found : Found) → (found.start ≡ 24 → ⊥) → LayoutMeets worked (Ok found) → ⊥
unfolding columns_at entry_at nodes_of rising is_lost
layout_wrong_start found ne p = ne (ap (λ x. x.start) (worked-found found p))

abbrev near : ℕ → ℕ → ℕ → ℕ → ℕ → List ℕ
near total first padding second offset =
    3 ∷ 2 ∷ 2 ∷ 0 ∷ total ∷ 0 ∷ 0 ∷ 0
    ∷ first ∷ padding ∷ 0 ∷ 0 ∷ 24 ∷ 0 ∷ 0 ∷ 0
    ∷ second ∷ 0 ∷ 0 ∷ 0 ∷ offset ∷ 0 ∷ 0 ∷ 0
    ∷ worked_columns

-- a pack near it is accepted, whatever is found: with a padding byte that is 1
pub layout_takes_padding : (found : Found) → LayoutMeets (near 32 1 1 3 28) (Ok found) → ⊥
unfolding layout_refusal accepted rows groups group_size columns_at first_bad_entry first_from bad_entry not_node node_in node_before padded_in entry_at
layout_takes_padding found p = none-ne-some 7 p.answered

-- a node twice
pub layout_takes_twice : (found : Found) → LayoutMeets (near 32 1 0 1 28) (Ok found) → ⊥
unfolding layout_refusal accepted rows groups group_size columns_at first_bad_entry first_from bad_entry not_node node_in node_before padded_in entry_at
layout_takes_twice found p = none-ne-some 7 p.answered

-- node 3 before node 1
pub layout_takes_falling : (found : Found) → LayoutMeets (near 32 3 0 1 28) (Ok found) → ⊥
unfolding layout_refusal accepted rows groups group_size columns_at first_bad_entry first_from bad_entry not_node node_in node_before padded_in entry_at
layout_takes_falling found p = none-ne-some 7 p.answered

-- both offsets 24
pub layout_takes_offset : (found : Found) → LayoutMeets (near 32 1 0 3 24) (Ok found) → ⊥
unfolding layout_refusal accepted rows groups group_size columns_at first_bad_entry first_from bad_entry not_node node_in node_before padded_in entry_at
    wrong_total total_in total_of number_at first_wrong_offset wrong_offset offset_in offset_of wrong_length
layout_takes_offset found p = none-ne-some 8 p.answered

-- with a total that is one too much
pub layout_takes_total : (found : Found) → LayoutMeets (near 33 1 0 3 28) (Ok found) → ⊥
unfolding layout_refusal accepted rows groups group_size columns_at first_bad_entry first_from bad_entry not_node node_in node_before padded_in entry_at
    wrong_total total_in total_of number_at first_wrong_offset wrong_offset offset_in offset_of wrong_length
layout_takes_total found p = none-ne-some 8 p.answered

-- a byte more at the end
pub layout_takes_excess : (found : Found) → LayoutMeets (worked ++ (0 ∷ [])) (Ok found) → ⊥
unfolding layout_refusal accepted rows groups group_size columns_at first_bad_entry first_from bad_entry not_node node_in node_before padded_in entry_at
    wrong_total total_in total_of number_at first_wrong_offset wrong_offset offset_in offset_of wrong_length
layout_takes_excess found p = none-ne-some 8 p.answered

-- byte 3 goes before the shape: n = 16, r = 3 and byte 3 is 1
pub layout_order : LayoutMeets (16 ∷ 3 ∷ 0 ∷ 1 ∷ 8 ∷ 0 ∷ 0 ∷ 0 ∷ []) (Err refusal.BadShape) → ⊥
unfolding layout_refusal
layout_order p = let e : ◌≡◌ {A = ℕ} 1 6 = some-injective 1 6 p.answered in omega arith

-- and the shape before the count: n = 16, r = 3 and 17 columns
pub layout_order_1 : LayoutMeets (16 ∷ 3 ∷ 17 ∷ 0 ∷ 8 ∷ 0 ∷ 0 ∷ 0 ∷ []) (Err refusal.BadHeader) → ⊥
unfolding layout_refusal accepted rows groups group_size
layout_order_1 p = let e : ◌≡◌ {A = ℕ} 6 1 = some-injective 6 1 p.answered in omega arith

-- all entries go before the total: node 1 twice, and the total one too many
pub layout_order_8 : LayoutMeets (near 33 1 0 1 28) (Err refusal.BadLayout) → ⊥
unfolding layout_refusal accepted rows groups group_size columns_at first_bad_entry first_from bad_entry not_node node_in node_before padded_in entry_at
layout_order_8 p = let e : ◌≡◌ {A = ℕ} 8 7 = some-injective 8 7 p.answered in omega arith

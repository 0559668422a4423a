-- What each function promises settles its answer: two answers that one promise allows are equal. And for each, two wrong answers that it rules out. In order:
-- `shorter`, `first_bad_entry`, `held_of`.
--   one i == of a pack with n = 3, r = 2 and one entry, node i, the header and the entry
use mathlib.Core.Path.{◌≡◌, refl, sym, ap, ◌∙◌}
use mathlib.Core.Logic.{◌⊎◌, inl, inr}
use mathlib.Core.Bool.{Bool, true, false, true≢false}
use mathlib.Core.List.{List, [], ◌∷◌}
use Prim.Native.Nat.{ℕ}
use native.Mathlib.Omega.{arith}
use lib.ListN.{length}
use Rattle.std.specs.Prelude.{Option, None, Some}
use Rattle.std.proofs.lemmas.Option.{none-some}
use Rattle.rules.specs.Refusal.{not_node}
use Rattle.entries.specs.Pack.{columns_at, entry_at}
use Rattle.entries.specs.Parts.{shape_in, node_in, padded_in, node_before}
use Rattle.entries.specs.Refusal.{first_from, bad_entry, first_bad_entry}
use Rattle.entries.specs.Promise.{is_shorter, found, ShorterIs, FirstBadIs, EntriesGood, HeldOfIs}
use Rattle.entries.proofs.Sets.{same_nodes, nodes-none}
use Rattle.entries.proofs.Good.{nodes_in_length}
use Rattle.entries.proofs.Checking.{formed_or}

pub shorter_settled : (pack : List ℕ) (a b : Bool) → ShorterIs pack a → ShorterIs pack b → a ≡ b
shorter_settled pack a b p q = p.value ∙ sym q.value

pub first_bad_entry_settled : (pack : List ℕ) (x y : Option ℕ) → FirstBadIs pack x → FirstBadIs pack y → x ≡ y
first_bad_entry_settled pack x y p q = go (is_shorter pack) refl
  where
    go : (b : Bool) → is_shorter pack ≡ b → x ≡ y
    go true h = p.short h ∙ sym (q.short h)
    go false h = p.there h ∙ sym (q.there h)

pub held_of_settled : (pack : List ℕ) (x y : ℕ) → HeldOfIs pack x → HeldOfIs pack y → x ≡ y
held_of_settled pack x y p q = go (formed_or pack)
  where
    go : EntriesGood pack ⊎ (EntriesGood pack → ⊥) → x ≡ y
    go (inl way) =
        let a = p.formed way in
        let b = q.formed way in
        same_nodes (shape_in pack) x y a.inside b.inside (a.nodes ∙ sym b.nodes)
    go (inr none) = p.unformed none ∙ sym (q.unformed none)

abbrev one : ℕ → List ℕ
one i = 3 ∷ 2 ∷ 1 ∷ 0 ∷ 20 ∷ 0 ∷ 0 ∷ 0 ∷ i ∷ 0 ∷ 0 ∷ 0 ∷ 16 ∷ 0 ∷ 0 ∷ 0 ∷ []

one-there : (i : ℕ) → is_shorter (one i) ≡ false
unfolding is_shorter columns_at entry_at
one-there i = refl

one-good : first_bad_entry (one 2) ≡ 0
unfolding first_bad_entry first_from bad_entry not_node node_in node_before padded_in entry_at
one-good = refl

four_bad : first_bad_entry (one 4) ≡ 1
unfolding first_bad_entry first_from bad_entry not_node node_in node_before padded_in entry_at
four_bad = refl

-- an entry that is there missed, and one that isn't there taken
pub shorter_misses : ShorterIs (one 2) true → ⊥
shorter_misses p = true≢false (p.value ∙ one-there 2)

pub shorter_takes : ShorterIs (3 ∷ 2 ∷ 1 ∷ []) false → ⊥
unfolding is_shorter columns_at entry_at
shorter_takes p = true≢false (sym p.value)

-- a good entry found bad, and node 4 of 3 taken
pub first_bad_entry_refuses : FirstBadIs (one 2) (Some 1) → ⊥
first_bad_entry_refuses p = none-some 1 (sym (p.there (one-there 2) ∙ ap found one-good))

pub first_bad_entry_takes : FirstBadIs (one 4) None → ⊥
first_bad_entry_takes p = none-some 1 (p.there (one-there 4) ∙ ap found four_bad)

-- no node held, and a node held that isn't one
pub held_of_none : HeldOfIs (one 2) 0 → ⊥
held_of_none p =
    let is = p.formed (record { there = one-there 2; nodes = omega arith; good = one-good }) in
    let e : ◌≡◌ {A = ℕ} 0 1 = ap length (sym (nodes-none (shape_in (one 2))) ∙ is.nodes) ∙ nodes_in_length (one 2) 1 in
    omega arith

pub held_of_takes : HeldOfIs (one 4) 8 → ⊥
held_of_takes p = let e : ◌≡◌ {A = ℕ} 8 0 = p.unformed (λ way. let z : ◌≡◌ {A = ℕ} 1 0 = sym four_bad ∙ way.good in omega arith) in omega arith

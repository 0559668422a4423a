-- The entries, as the code looks at them. In order: whether they are there; whether the pack is well formed; the first entry that a test
-- holds of; the held set, entry by entry.
--   HeldTo pack e held == the set holds the nodes of the first e entries, and no other
use mathlib.Core.Path.{◌≡◌, refl, sym, ap, ◌∙◌}
use mathlib.Core.Logic.{◌⊎◌, inl, inr}
use native.Mathlib.Decide.{ℕ_discrete}
use mathlib.Core.Bool.{Bool, true, false, true≢false}
use mathlib.Core.List.{List, [], ◌∷◌, ◌++◌}
use Prim.Native.Nat.{ℕ, zero, suc, ◌+◌, ◌-◌, ◌*◌, ◌^◌, ◌<◌, ◌≤◌}
use native.Mathlib.Nat.{pow-suc, pow-le-pow_right}
use native.Mathlib.Omega.{arith}
use lib.Dec.{ltb}
use lib.ListN.{length}
use borrow.Author.Tests.{ltb-true, ltb-false, le-ltb}
use Rattle.rules.proofs.LostSets.{below-lost}
use Rattle.entries.specs.Pack.{nodes_of, columns_at}
use Rattle.entries.specs.Parts.{byte_at, shape_in, count_in, node_in, node_before, nodes_in}
use Rattle.entries.specs.Refusal.{first_from, bad_entry, first_bad_entry}
use Rattle.entries.specs.Promise.{is_shorter, found, FirstBadIs, EntriesGood, HeldIs, HeldOfIs}
use Rattle.entries.proofs.Positions.{columns_begin}
use Rattle.entries.proofs.Sets.{nodes-none, nodes_more}
use Rattle.std.specs.Prelude.{Option, None, Some}
use Rattle.std.specs.Option.{is_some}
use Rattle.std.proofs.lemmas.Option.{none-some}
use Rattle.entries.proofs.Good.{none_from, from_none, from_found, GoodEntry, entry-good, nodes_in_none, nodes_in_more}

-- a pack that isn't shorter than its entries has its entries, and the other way round
pub not_shorter : (pack : List ℕ) → is_shorter pack ≡ false → columns_at (count_in pack) ≤ length pack
unfolding is_shorter
not_shorter pack h = ltb-false (length pack) (columns_at (count_in pack)) h

pub entries_there : (pack : List ℕ) → is_shorter pack ≡ false → 8 + 8 * count_in pack ≤ length pack
entries_there pack h = omega (arith, columns_begin (count_in pack), not_shorter pack h)

pub header_there : (pack : List ℕ) → is_shorter pack ≡ false → 8 ≤ length pack
header_there pack h = omega (arith, entries_there pack h)

pub there_not_shorter : (pack : List ℕ) → columns_at (count_in pack) ≤ length pack → is_shorter pack ≡ false
unfolding is_shorter
there_not_shorter pack h = le-ltb (length pack) (columns_at (count_in pack)) h

-- where no bad entry is found, the entries are there and none is bad
pub found-none : (e : ℕ) → None ≡ found e → e ≡ 0
found-none zero h = refl
found-none (suc e) h = absurd (none-some (suc e) h)

pub first-none : {pack : List ℕ} (answer : Option ℕ) → FirstBadIs pack answer → is_some answer ≡ false → (is_shorter pack ≡ false) × (first_bad_entry pack ≡ 0)
first-none (Some e) is h = absurd (true≢false h)
first-none {pack} None is h = go (is_shorter pack) refl
  where
    go : (b : Bool) → is_shorter pack ≡ b → (is_shorter pack ≡ false) × (first_bad_entry pack ≡ 0)
    go true q = absurd (none-some 1 (is.short q))
    go false q = (q, found-none _ (is.there q))

pub unfound_there : {pack : List ℕ} {answer : Option ℕ} → FirstBadIs pack answer → is_some answer ≡ false → is_shorter pack ≡ false
unfound_there {answer = answer} is h = (first-none answer is h).0

pub is-formed : {held : ℕ} (pack : List ℕ) → EntriesGood pack → HeldIs pack held → HeldOfIs pack held
is-formed pack way is = record { formed = λ w. is; unformed = λ out. absurd (out way) }

pub good_at : (pack : List ℕ) → EntriesGood pack → (e : ℕ) → e < count_in pack → GoodEntry pack e
unfolding first_bad_entry
good_at pack way e h = entry-good pack e (none_from (bad_entry pack) 0 (count_in pack) way.good e (omega arith) (omega arith))

-- a pack is well formed, or it isn't
pub formed_or : (pack : List ℕ) → EntriesGood pack ⊎ (EntriesGood pack → ⊥)
formed_or pack = go (is_shorter pack) (ltb 16 (shape_in pack).n) refl refl (ℕ_discrete (first_bad_entry pack) 0)
  where
    go : (b d : Bool) → is_shorter pack ≡ b → ltb 16 (shape_in pack).n ≡ d → Dec (first_bad_entry pack ≡ 0) → EntriesGood pack ⊎ (EntriesGood pack → ⊥)
    go true d q h e = inr (λ way. true≢false (sym q ∙ way.there))
    go false true q h e = inr (λ way. omega (arith, way.nodes, ltb-true 16 (shape_in pack).n h))
    go false false q h (yes e) = inl (record { there = q; nodes = ltb-false 16 (shape_in pack).n h; good = e })
    go false false q h (no ne) = inr (λ way. ne way.good)

-- the first of p entries that a test holds of, and none
pub first_is : (test : ℕ → Bool) (p e n : ℕ) → n ≡ p → e < n → test e ≡ true → ((d : ℕ) → d < e → test d ≡ false) → Some (e + 1) ≡ found (first_from test 0 p)
first_is test p e n q h here before = rw (from_found test 0 p e (omega arith) (omega arith) here (λ d u v. before d v)) (ap Some (omega arith))

pub none_is : (test : ℕ → Bool) (p e n : ℕ) → n ≡ p → n ≤ e → ((d : ℕ) → d < e → test d ≡ false) → None ≡ found (first_from test 0 p)
none_is test p e n q h before = rw (from_none test 0 p (λ d u v. before d (omega arith))) refl

pub record HeldTo (pack : List ℕ) (e held : ℕ) : Type 0 where
  pub within : e ≤ count_in pack
  pub most : node_before pack e ≤ byte_at pack 0
  pub below : held < 2 ^ node_before pack e
  pub nodes : nodes_of (shape_in pack) held ≡ nodes_in pack e

pub held_start : (pack : List ℕ) → HeldTo pack 0 0
unfolding node_before
held_start pack = record { within = omega arith; most = omega arith; below = omega arith; nodes = nodes-none (shape_in pack) ∙ sym (nodes_in_none pack) }

node-next : (pack : List ℕ) (e : ℕ) → node_before pack (e + 1) ≡ node_in pack e
unfolding node_before
node-next pack e = ap (node_before pack) {x = e + 1} {y = suc e} (omega arith)

module _ (pack : List ℕ) (e held : ℕ) (to : HeldTo pack e held) (good : GoodEntry pack e) where
  held_below : held < 2 ^ (node_in pack e - 1)
  held_below = omega (arith, to.below, pow-le-pow_right {n = 2} (omega arith) before)
    where
      before : node_before pack e ≤ node_in pack e - 1
      before = omega (arith, good.above)

  pub held_more : held + 2 ^ (node_in pack e - 1) < 2 ^ node_in pack e
  held_more = omega (arith, held_below, pow-suc 2 (node_in pack e - 1), ap (λ k. 2 ^ k) node-is)
    where
      node-is : suc (node_in pack e - 1) ≡ node_in pack e
      node-is = omega (arith, good.least)

  pub held_step : e < count_in pack → HeldTo pack (e + 1) (held + 2 ^ (node_in pack e - 1))
  held_step h = record {
    within = omega (arith, h);
    most = omega (arith, node-next pack e, good.most);
    below = omega (arith, held_more, ap (λ k. 2 ^ k) (node-next pack e));
    nodes =
        nodes_more (shape_in pack) held (node_in pack e) good.least good.most held_below
        ∙ ap (λ (l : List ℕ). l ++ (node_in pack e ∷ [])) to.nodes
        ∙ sym (nodes_in_more pack e)
        ∙ ap (nodes_in pack) (omega arith);
  }

pub held_all : (pack : List ℕ) (held : ℕ) → HeldTo pack (count_in pack) held → HeldIs pack held
held_all pack held to = record {
  nodes = to.nodes;
  inside = below-lost (shape_in pack) held (omega (arith, to.below, pow-le-pow_right {n = 2} (omega arith) to.most));
}

-- Entries that aren't bad. In order: the first entry that a test holds of, and none; an entry that isn't bad; its padding; the nodes of the first entries.
--   GoodEntry pack e == entry e's node is 1 to n and above the one before, and its padding is 0
use mathlib.Core.Path.{◌≡◌, refl, sym, ap, ap₂, ◌∙◌}
use mathlib.Core.Bool.{Bool, true, false, cond, not, ◌||◌, ◌&&◌}
use mathlib.Core.List.{List, [], ◌∷◌, ◌++◌, map, map-append}
use mathlib.Core.Logic.{◌⊎◌, inl, inr}
use Prim.Native.Nat.{ℕ, zero, suc, ◌+◌, ◌<◌, ◌≤◌}
use native.Mathlib.Nat.{eq-or-lt_of_le}
use native.Mathlib.Omega.{arith}
use lib.Dec.{leb, eqb}
use lib.ListN.{length, get_or}
use borrow.Author.Tests.{leb-false, eqb-true, lt-leb, eq-eqb, not-false}
use Rattle.rules.specs.Rising.{up_to}
use Rattle.rules.proofs.Checks.{both, neither}
use Rattle.rules.proofs.Risings.{rising-zero, rising-take}
use Rattle.rules.proofs.Stripes.{tabulated, length-tabulated, get_or_tabulated}
use Rattle.rules.specs.Refusal.{not_node}
use Rattle.yebarg.proofs.Refusals.{a-node, is-node}
use Rattle.entries.specs.Pack.{entry_at}
use Rattle.entries.specs.Parts.{byte_at, shape_in, node_in, padded_in, node_before, nodes_in}
use Rattle.entries.specs.Refusal.{first_from, bad_entry}

-- the first number from e on that a test holds of
module _ (test : ℕ → Bool) where
  pub none_from : (e more : ℕ) → first_from test e more ≡ 0 → (i : ℕ) → e ≤ i → i < e + more → test i ≡ false
  unfolding first_from
  none_from e zero h i k l = absurd (omega arith)
  none_from e (suc more) h i k l = go (test e) refl h (none_from (suc e) more) (eq-or-lt_of_le k)
    where
      go : (t : Bool) → test e ≡ t → cond t (suc e) (first_from test (suc e) more) ≡ 0
          → (first_from test (suc e) more ≡ 0 → (i : ℕ) → suc e ≤ i → i < suc e + more → test i ≡ false) → (e ≡ i) ⊎ (e < i) → test i ≡ false
      go true q z ih s = absurd (omega arith)
      go false q z ih (inl s) = ap test (sym s) ∙ q
      go false q z ih (inr s) = ih z i s (omega arith)

  pub from_none : (e more : ℕ) → ((i : ℕ) → e ≤ i → i < e + more → test i ≡ false) → first_from test e more ≡ 0
  unfolding first_from
  from_none e zero h = refl
  from_none e (suc more) h =
      ap (λ t. cond t (suc e) (first_from test (suc e) more)) (h e (omega arith) (omega arith))
      ∙ from_none (suc e) more (λ i k l. h i (omega arith) (omega arith))

-- the first number that it holds of
pub from_found : (test : ℕ → Bool) (e more i : ℕ) → e ≤ i → i < e + more → test i ≡ true → ((d : ℕ) → e ≤ d → d < i → test d ≡ false)
    → first_from test e more ≡ suc i
unfolding first_from
from_found test e zero i h k here before = absurd (omega arith)
from_found test e (suc more) i h k here before =
    go (eq-or-lt_of_le h) (λ l. from_found test (suc e) more i l (omega arith) here (λ d u v. before d (omega arith) v))
  where
    go : (e ≡ i) ⊎ (e < i) → (e < i → first_from test (suc e) more ≡ suc i) → cond (test e) (suc e) (first_from test (suc e) more) ≡ suc i
    go (inl q) later = ap (λ t. cond t (suc e) (first_from test (suc e) more)) (ap test q ∙ here) ∙ ap suc q
    go (inr l) later = ap (λ t. cond t (suc e) (first_from test (suc e) more)) (before e (omega arith) l) ∙ later l

-- two tests that agree
pub from_same : (test other : ℕ → Bool) (e more : ℕ) → ((i : ℕ) → e ≤ i → i < e + more → test i ≡ other i) → first_from test e more ≡ first_from other e more
unfolding first_from
from_same test other e zero h = refl
from_same test other e (suc more) h =
    ap₂ (λ t y. cond t (suc e) y) (h e (omega arith) (omega arith)) (from_same test other (suc e) more (λ i k l. h i (omega arith) (omega arith)))

-- an entry that isn't bad
pub record GoodEntry (pack : List ℕ) (e : ℕ) : Type 0 where
  pub least : 1 ≤ node_in pack e
  pub most : node_in pack e ≤ (shape_in pack).n
  pub above : node_before pack e < node_in pack e
  pub padded : padded_in pack e ≡ true

pub entry-good : (pack : List ℕ) (e : ℕ) → bad_entry pack e ≡ false → GoodEntry pack e
unfolding bad_entry
entry-good pack e h =
    let x = node_in pack e in
    let (a, d) = neither (not_node (shape_in pack) x || leb x (node_before pack e)) (not (padded_in pack e)) h in
    let (b, c) = neither (not_node (shape_in pack) x) (leb x (node_before pack e)) a in
    let (least, most) = is-node (shape_in pack) x b in
    record { least = least; most = most; above = leb-false x (node_before pack e) c; padded = not-false (padded_in pack e) d }

pub good-entry : (pack : List ℕ) (e : ℕ) → GoodEntry pack e → bad_entry pack e ≡ false
unfolding bad_entry
good-entry pack e g =
    let x = node_in pack e in
    simp (a-node (shape_in pack) x g.least g.most, lt-leb x (node_before pack e) g.above, g.padded)

-- the three bytes after the node
pub padding_zero : (pack : List ℕ) (e : ℕ) → padded_in pack e ≡ true
    → (byte_at pack (entry_at e + 1) ≡ 0) × (byte_at pack (entry_at e + 2) ≡ 0) × (byte_at pack (entry_at e + 3) ≡ 0)
unfolding padded_in
padding_zero pack e h =
    let (a, d) = both (zero-at 1 && zero-at 2) (zero-at 3) h in
    let (b, c) = both (zero-at 1) (zero-at 2) a in
    (eqb-true _ 0 b, eqb-true _ 0 c, eqb-true _ 0 d)
  where
    zero-at : ℕ → Bool
    zero-at k = eqb (byte_at pack (entry_at e + k)) 0

pub zero_padding : (pack : List ℕ) (e : ℕ) → byte_at pack (entry_at e + 1) ≡ 0 → byte_at pack (entry_at e + 2) ≡ 0 → byte_at pack (entry_at e + 3) ≡ 0
    → padded_in pack e ≡ true
unfolding padded_in
zero_padding pack e a b c = simp (eq-eqb _ 0 a, eq-eqb _ 0 b, eq-eqb _ 0 c)

-- the nodes of the first p entries
pub nodes_in_length : (pack : List ℕ) (p : ℕ) → length (nodes_in pack p) ≡ p
unfolding nodes_in tabulated
nodes_in_length pack p = length-tabulated p (node_in pack)

pub nodes_in_at : (pack : List ℕ) (p e : ℕ) → e < p → get_or (nodes_in pack p) e 0 ≡ node_in pack e
unfolding nodes_in tabulated
nodes_in_at pack p e h = get_or_tabulated p (node_in pack) e h

pub nodes_in_none : (pack : List ℕ) → nodes_in pack 0 ≡ []
unfolding nodes_in
nodes_in_none pack = ap (map (node_in pack)) (rising-zero (λ a. true))

pub nodes_in_more : (pack : List ℕ) (e : ℕ) → nodes_in pack (suc e) ≡ nodes_in pack e ++ (node_in pack e ∷ [])
unfolding nodes_in
nodes_in_more pack e = ap (map (node_in pack)) (rising-take e (λ a. true) refl) ∙ map-append (node_in pack) (up_to e) (e ∷ [])

-- Lists gone through in turn. In order: a list of numbers, spaced; the words of each entry after those before it, and that there is room for
-- them; an entry is listed; the nodes of a set.
--   in_turn       == what a loop over a list is proved by
--   nodes_in_turn == what a loop over the nodes of a set is proved by
use mathlib.Core.Path.{◌≡◌, refl, sym, ap, ◌∙◌}
use mathlib.Core.List.{List, [], ◌∷◌, ◌++◌, flat_map}
use mathlib.Core.Logic.{inl, inr}
use Prim.Native.Nat.{ℕ, zero, suc, ◌+◌, ◌/◌, ◌%◌, ◌^◌, ◌<◌, ◌≤◌}
use native.Mathlib.Numerals.{add-one}
use native.Mathlib.Omega.{arith}
use lib.ListN.{length, get_or, take, drop, length-append, take-append-drop}
use lib.Seq.{take-suc}
use Rattle.std.proofs.lemmas.Grind.{common_steps}
use Rattle.rules.specs.declared.shapes.Shape.{Shape}
use Rattle.rules.specs.Rising.{Listed}
use Rattle.rules.proofs.Pieces.{flat_none, flat_append, flat_more}
use Rattle.entries.specs.Pack.{nodes_of}
use Rattle.entries.proofs.Sets.{nodes_to, nodes-all, nodes_start, nodes-take, nodes_skip, in_set, not_in_set}
use Rattle.text.specs.Text.{spaced, spaced_all}

pub all-spaced : (list : List ℕ) → spaced_all list ≡ flat_map spaced list
unfolding spaced_all
all-spaced list = refl

module _ (f : ℕ → List ℕ) (list : List ℕ) where
  pub turn_more : (i : ℕ) → i < length list → flat_map f (take (i + 1) list) ≡ flat_map f (take i list) ++ f (get_or list i 0)
  turn_more i inside = rw add-one (ap (flat_map f) (take-suc list i 0 inside) ∙ flat_more f (take i list) (get_or list i 0))

  in_two : (i : ℕ) → flat_map f list ≡ flat_map f (take i list) ++ flat_map f (drop i list)
  in_two i = ap (flat_map f) (sym (take-append-drop i list)) ∙ flat_append f (take i list) (drop i list)

  pub turn_room : (i : ℕ) → i < length list → length (flat_map f (take i list)) + length (f (get_or list i 0)) ≤ length (flat_map f list)
  turn_room i inside =
      omega (
        arith,
        ap length (in_two (i + 1)),
        length-append (flat_map f (take (i + 1) list)) (flat_map f (drop (i + 1) list)),
        ap length (turn_more i inside),
        length-append (flat_map f (take i list)) (f (get_or list i 0)),
      )

pub ruleset in_turn = (common_steps, flat_none, turn_more, turn_room)

pub listed_at : (list : List ℕ) (i x : ℕ) → i < length list → x ≡ get_or list i 0 → Listed x list
listed_at [] i x inside is = absurd (omega arith)
listed_at (y ∷ list) zero x inside is = inl is
listed_at (y ∷ list) (suc i) x inside is = inr (listed_at list i x (omega arith) is)

module _ (set : ℕ) where
  pub nodes_none : nodes_to set 0 ≡ []
  nodes_none = nodes_start set

  pub nodes_more : (i : ℕ) → set / 2 ^ i % 2 ≡ 1 → nodes_to set (i + 1) ≡ nodes_to set i ++ ((i + 1) ∷ [])
  nodes_more i has = rw add-one (nodes-take set i (in_set set i has))

  pub nodes_same : (i : ℕ) → (set / 2 ^ i % 2 ≡ 1 → ⊥) → nodes_to set (i + 1) ≡ nodes_to set i
  nodes_same i hasnt = rw add-one (nodes_skip set i (not_in_set set i hasnt))

  pub nodes_all : (sh : Shape) (i : ℕ) → i ≡ sh.n → nodes_to set i ≡ nodes_of sh set
  nodes_all sh i is = ap (nodes_to set) is ∙ sym (nodes-all sh set)

pub ruleset nodes_in_turn = (common_steps, nodes_none, nodes_more, nodes_same, nodes_all)

-- Document 01's pack: n = 3, r = 2, columns 1 and 3 of bench stripe C. In order: its bytes; that they are the pack of that; what `read_layout` answers.
--   worked        == its 32 bytes
--   worked_columns == columns 1 and 3
use mathlib.Core.Path.{◌≡◌, refl}
use mathlib.Core.List.{List, [], ◌∷◌}
use Prim.Native.Nat.{ℕ}
use Rattle.rules.specs.Shape.{group_size, groups, rows, accepted}
use Rattle.rules.specs.Rising.{rising}
use Rattle.rules.specs.Lost.{is_lost, bit_above}
use Rattle.rules.specs.Refusal.{shape_refusal}
use Rattle.rules.specs.Bench.{shape}
use Rattle.layout.specs.declared.answers.Found.{Found}
use Rattle.std.specs.Prelude.{Result, Ok}
use Rattle.rules.specs.declared.refusals.Refusal.{Refusal}
use Rattle.entries.specs.Pack.{nodes_of, four_bytes, columns_at, offset_of, total_of, header, entry, entries_from, packed_nodes, packed, entry_at}
use Rattle.layout.specs.Promise.{LayoutIs, LayoutMeets}
use Rattle.layout.proofs.Packs.{found_in, layout_only, IsPack, pack→layout, content-answered}

abbrev pub worked_columns : List ℕ
worked_columns = 4 ∷ 0 ∷ 0 ∷ 12 ∷ 2 ∷ 12 ∷ 0 ∷ 5 ∷ []

abbrev pub worked : List ℕ
worked =
    3 ∷ 2 ∷ 2 ∷ 0 ∷ 32 ∷ 0 ∷ 0 ∷ 0
    ∷ 1 ∷ 0 ∷ 0 ∷ 0 ∷ 24 ∷ 0 ∷ 0 ∷ 0
    ∷ 3 ∷ 0 ∷ 0 ∷ 0 ∷ 28 ∷ 0 ∷ 0 ∷ 0
    ∷ worked_columns

pub worked-pack : IsPack (shape 3 2) 5 worked_columns worked
unfolding packed packed_nodes header entries_from entry four_bytes offset_of total_of columns_at entry_at nodes_of rising is_lost bit_above shape_refusal
    accepted rows groups group_size
worked-pack = record { taken = refl; inside = refl; exact = refl; is = refl }

pub worked_layout : LayoutIs worked (found_in (shape 3 2) 5)
worked_layout = pack→layout (shape 3 2) 5 worked_columns worked worked-pack

pub worked-accepted : (answer : Result Found Refusal) → LayoutMeets worked answer → answer ≡ Ok (found_in (shape 3 2) 5)
worked-accepted answer m = content-answered worked answer (found_in (shape 3 2) 5) m worked_layout

pub worked-found : (found : Found) → LayoutMeets worked (Ok found) → found ≡ found_in (shape 3 2) 5
worked-found found m = layout_only worked found (found_in (shape 3 2) 5) (m.finds found refl) worked_layout

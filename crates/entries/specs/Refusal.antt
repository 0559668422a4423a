-- The refusals of reading the layout, in the pack reader's own order: document 01, "Refusals in order".
--   first_from test e more == the first of the entries e, e + 1, .., e + more − 1 that the test holds of, counted from 1; 0 where it holds of none
--   bad_entry pack e   == 7: entry e's node isn't 1 to n, isn't above the one before, or its padding isn't 0
--   first_bad_entry pack == the first such entry, counted from 1; 0 where there is none
--   wrong_total pack   == 8: the total isn't 8 + 8 × p + p × l
--   wrong_offset pack e == 8: entry e's offset isn't where its column begins
--   first_wrong_offset pack == the first such entry, counted from 1; 0 where there is none
--   wrong_length pack  == 8: the input's length isn't the total
--   layout_checks pack == 6, length under 8, byte 3; 1; 6, more columns than n, input shorter than its entries; 7, over all entries; 8, total, offsets,
--                         input length
--   layout_refusal pack == the first of these that applies
use Rattle.std.specs.Prelude.{Bool, not, cond, ◌||◌, List, [], ◌∷◌, ℕ, zero, suc, eqb, ltb, leb, length}
use Rattle.std.proofs.Math.Option.{Option}
use Rattle.rules.specs.Shape.{accepted}
use Rattle.rules.specs.Refusal.{Check, first_of, ◌given-when◌}
use Rattle.rules.specs.Refusal.{not_node}
use Rattle.entries.specs.Pack.{header_length, columns_at, offset_of, total_of}
use Rattle.entries.specs.Parts.{byte_at, shape_in, count_in, total_in, node_in, padded_in, offset_in, node_before}

unfoldable pub first_from : (ℕ → Bool) → ℕ → ℕ → ℕ
first_from test e zero = 0
first_from test e (suc more) = cond (test e) (suc e) (first_from test (suc e) more)

unfoldable pub bad_entry : List ℕ → ℕ → Bool
bad_entry pack e = not_node (shape_in pack) (node_in pack e) || leb (node_in pack e) (node_before pack e) || not (padded_in pack e)

unfoldable pub first_bad_entry : List ℕ → ℕ
first_bad_entry pack = first_from (bad_entry pack) 0 (count_in pack)

unfoldable pub wrong_total : List ℕ → Bool
wrong_total pack = not (eqb (total_in pack) (total_of (shape_in pack) (count_in pack)))

unfoldable pub wrong_offset : List ℕ → ℕ → Bool
wrong_offset pack e = not (eqb (offset_in pack e) (offset_of (shape_in pack) (count_in pack) e))

unfoldable pub first_wrong_offset : List ℕ → ℕ
first_wrong_offset pack = first_from (wrong_offset pack) 0 (count_in pack)

unfoldable pub wrong_length : List ℕ → Bool
wrong_length pack = not (eqb (length pack) (total_in pack))

abbrev pub layout_checks : List ℕ → List Check
layout_checks pack =
    6 given-when ltb (length pack) header_length
    ∷ 6 given-when not (eqb (byte_at pack 3) 0)
    ∷ 1 given-when not (accepted (shape_in pack))
    ∷ 6 given-when ltb (shape_in pack).n (count_in pack)
    ∷ 6 given-when ltb (length pack) (columns_at (count_in pack))
    ∷ 7 given-when not (eqb (first_bad_entry pack) 0)
    ∷ 8 given-when wrong_total pack
    ∷ 8 given-when not (eqb (first_wrong_offset pack) 0)
    ∷ 8 given-when wrong_length pack
    ∷ []

unfoldable pub layout_refusal : List ℕ → Option ℕ
layout_refusal pack = first_of (layout_checks pack)

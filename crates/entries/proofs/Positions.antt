-- What stands where in a pack, by blocks of eight bytes. In order: where columns and nodes stand, in numbers; a number in four bytes; a block; lists
-- that agree in their first blocks; the blocks of a `packed_nodes`, which are its header and its entries; a list of bytes with these blocks is that
-- `packed_nodes`.
--   eight_bytes a b c d x    == the bytes a, b, c and d, and the number x in four bytes
--   Block l at a b c d x     == these stand in l from index `at` on
--   Stands sh nodes pack     == header and entries of the shape and the nodes stand in the pack
use mathlib.Core.Path.{◌≡◌, refl, sym, ap, ◌∙◌}
use mathlib.Core.Bool.{Bool, true, false}
use mathlib.Core.List.{List, [], ◌∷◌, ◌++◌}
use Prim.Native.Nat.{ℕ, zero, suc, ◌+◌, ◌-◌, ◌*◌, ◌/◌, ◌%◌, ◌<◌, ◌≤◌}
use native.Mathlib.Nat.{add-zero, add_assoc, div-div-eq-div-mul, mod-add-div, mod-eq_of_lt, le_of_lt, mul-le-mul_right}
use native.Mathlib.Omega.{arith}
use lib.Dec.{ltb}
use lib.ListN.{length, get_or, drop, length-append, length-drop, get_or-append}
use lib.Seq.{ext_get_or, get_or-drop, get_or-append-add, drop-append-add, drop_at}
use borrow.Author.Tests.{ltb-true, ltb-false}
use Rattle.rules.specs.declared.shapes.Shape.{Shape}
use Rattle.rules.specs.Shape.{rows}
use Rattle.entries.specs.Pack.{four_bytes, columns_at, offset_of, total_of, header, entry, entries_from, packed_nodes, entry_at}
use Rattle.entries.specs.Parts.{byte_at, number_at, node_in}

pub columns_begin : (p : ℕ) → columns_at p ≡ 8 + 8 * p
unfolding columns_at entry_at
columns_begin p = refl

pub node_in_lem : (pack : List ℕ) (e : ℕ) → node_in pack e ≡ byte_at pack (8 + 8 * e)
unfolding node_in entry_at
node_in_lem pack e = refl

-- four bytes and the number that they are
number-bytes : (a b c d x : ℕ) → a < 256 → b < 256 → c < 256 → d < 256 → a + 256 * b + 65536 * c + 16777216 * d ≡ x
    → (a ≡ x % 256) × (b ≡ x / 256 % 256) × (c ≡ x / 65536 % 256) × (d ≡ x / 16777216 % 256)
number-bytes a b c d x h i j k e = (omega arith, omega arith, omega arith, omega arith)

nested : (a b c d x y z : ℕ) → a + 256 * y ≡ x → b + 256 * z ≡ y → c + 256 * d ≡ z → a + 256 * b + 65536 * c + 16777216 * d ≡ x
nested a b c d x y z e f g = omega arith

bytes-number : (x : ℕ) → x < 4294967296 → x % 256 + 256 * (x / 256 % 256) + 65536 * (x / 65536 % 256) + 16777216 * (x / 16777216 % 256) ≡ x
bytes-number x h =
    let z : x / 256 / 256 ≡ x / 65536 = div-div-eq-div-mul x 256 256 in
    let w : x / 65536 / 256 ≡ x / 16777216 = div-div-eq-div-mul x 65536 256 in
    let small : x / 16777216 % 256 ≡ x / 16777216 = mod-eq_of_lt (omega arith) in
    nested (x % 256) (x / 256 % 256) (x / 65536 % 256) (x / 16777216 % 256) x (x / 256) (x / 65536)
    (mod-add-div x 256) (omega (arith, mod-add-div (x / 256) 256, z)) (omega (arith, mod-add-div (x / 65536) 256, w, small))

-- eight bytes at an index: four, and a number in four more
abbrev pub eight_bytes : ℕ → ℕ → ℕ → ℕ → ℕ → List ℕ
eight_bytes a b c d x = a ∷ b ∷ c ∷ d ∷ four_bytes x

pub record Block (l : List ℕ) (at a b c d x : ℕ) : Type 0 where
  pub first : byte_at l at ≡ a
  pub second : byte_at l (at + 1) ≡ b
  pub third : byte_at l (at + 2) ≡ c
  pub fourth : byte_at l (at + 3) ≡ d
  pub number : number_at l (at + 4) ≡ x

module _ (l : List ℕ) (at a b c d x : ℕ) where
  -- the index of a byte in two forms
  moved : (i j y : ℕ) → i ≡ j → get_or l j 0 ≡ y → get_or l i 0 ≡ y
  moved i j y e h = ap (λ k. get_or l k 0) e ∙ h

  pub block→bytes : Block l at a b c d x → ((k : ℕ) → get_or l k 0 < 256) → (j : ℕ) → j < 8 → get_or l (at + j) 0 ≡ get_or (eight_bytes a b c d x) j 0
  unfolding four_bytes number_at
  block→bytes k bytes = go
    where
      four : (get_or l (at + 4) 0 ≡ x % 256) × (get_or l (at + 4 + 1) 0 ≡ x / 256 % 256) × (get_or l (at + 4 + 2) 0 ≡ x / 65536 % 256)
          × (get_or l (at + 4 + 3) 0 ≡ x / 16777216 % 256)
      four = number-bytes _ _ _ _ x (bytes (at + 4)) (bytes (at + 4 + 1)) (bytes (at + 4 + 2)) (bytes (at + 4 + 3)) k.number

      go : (j : ℕ) → j < 8 → get_or l (at + j) 0 ≡ get_or (eight_bytes a b c d x) j 0
      go zero h = moved _ _ _ (add-zero at) k.first
      go (suc zero) h = k.second
      go (suc (suc zero)) h = k.third
      go (suc (suc (suc zero))) h = k.fourth
      go (suc (suc (suc (suc zero)))) h = four.0
      go (suc (suc (suc (suc (suc zero))))) h = moved _ _ _ (sym (add_assoc at 4 1)) four.1
      go (suc (suc (suc (suc (suc (suc zero)))))) h = moved _ _ _ (sym (add_assoc at 4 2)) four.2
      go (suc (suc (suc (suc (suc (suc (suc zero))))))) h = moved _ _ _ (sym (add_assoc at 4 3)) four.3
      go (suc (suc (suc (suc (suc (suc (suc (suc j)))))))) h = absurd (omega arith)

  pub bytes→block : ((j : ℕ) → j < 8 → get_or l (at + j) 0 ≡ get_or (eight_bytes a b c d x) j 0) → x < 4294967296 → Block l at a b c d x
  unfolding four_bytes number_at
  bytes→block h k = record {
    first = moved _ _ _ (sym (add-zero at)) (h 0 (omega arith));
    second = h 1 (omega arith);
    third = h 2 (omega arith);
    fourth = h 3 (omega arith);
    number =
        let five = moved _ _ _ (add_assoc at 4 1) (h 5 (omega arith)) in
        let six = moved _ _ _ (add_assoc at 4 2) (h 6 (omega arith)) in
        let seven = moved _ _ _ (add_assoc at 4 3) (h 7 (omega arith)) in
        simp (h 4 (omega arith), five, six, seven) (bytes-number x k);
  }

-- lists that agree in their first m blocks of eight, and after these
pub same_blocks : (m : ℕ) (x y : List ℕ) → length x ≡ length y
    → ((b j : ℕ) → b < m → j < 8 → get_or x (8 * b + j) 0 ≡ get_or y (8 * b + j) 0) → drop (8 * m) x ≡ drop (8 * m) y → x ≡ y
same_blocks m x y e h k = ext_get_or 0 x y e (λ i l. go i (ltb (i / 8) m) refl)
  where
    go : (i : ℕ) (t : Bool) → ltb (i / 8) m ≡ t → get_or x i 0 ≡ get_or y i 0
    go i true l =
        let q : i ≡ 8 * (i / 8) + i % 8 = omega arith in
        ap (λ n. get_or x n 0) q ∙ h (i / 8) (i % 8) (ltb-true (i / 8) m l) (omega arith) ∙ ap (λ n. get_or y n 0) (sym q)
    go i false l =
        let q : i ≡ 8 * m + (i - 8 * m) = omega (arith, ltb-false (i / 8) m l) in
        ap (λ n. get_or x n 0) q ∙ sym (get_or-drop (8 * m) x (i - 8 * m) 0) ∙ ap (λ (z : List ℕ). get_or z (i - 8 * m) 0) k
        ∙ get_or-drop (8 * m) y (i - 8 * m) 0 ∙ ap (λ n. get_or y n 0) (sym q)

-- the entries of a pack
module _ (sh : Shape) (p : ℕ) where
  pub entries-length : (k : ℕ) (nodes : List ℕ) → length (entries_from sh p k nodes) ≡ 8 * length nodes
  unfolding entries_from entry four_bytes
  entries-length k [] = refl
  entries-length k (i ∷ nodes) = omega (arith, entries-length (suc k) nodes)

  pub entries_at : (k : ℕ) (nodes columns : List ℕ) (e j : ℕ) → e < length nodes → j < 8
      → get_or (entries_from sh p k nodes ++ columns) (8 * e + j) 0 ≡ get_or (entry (get_or nodes e 0) (offset_of sh p (k + e))) j 0
  unfolding entries_from entry four_bytes
  entries_at k [] columns e j h l = absurd (omega arith)
  entries_at k (i ∷ nodes) columns zero j h l =
      ap (λ n. get_or (entries_from sh p k (i ∷ nodes) ++ columns) n 0) {x = 8 * 0 + j} {y = j} (omega arith)
      ∙ get_or-append (entry i (offset_of sh p k)) (entries_from sh p (suc k) nodes ++ columns) 0 j l
      ∙ ap (λ n. get_or (entry i (offset_of sh p n)) j 0) {x = k} {y = k + 0} (omega arith)
  entries_at k (i ∷ nodes) columns (suc e) j h l =
      ap (λ n. get_or (entries_from sh p k (i ∷ nodes) ++ columns) n 0) {x = 8 * suc e + j} {y = 8 + (8 * e + j)} (omega arith)
      ∙ get_or-append-add (entry i (offset_of sh p k)) (entries_from sh p (suc k) nodes ++ columns) (8 * e + j) 0
      ∙ entries_at (suc k) nodes columns e j (omega arith) l
      ∙ ap (λ n. get_or (entry (get_or nodes e 0) (offset_of sh p n)) j 0) {x = suc k + e} {y = k + suc e} (omega arith)

-- header and entries of a pack with these nodes
pub record Stands (sh : Shape) (nodes pack : List ℕ) : Type 0 where
  pub header : Block pack 0 sh.n sh.r (length nodes) 0 (total_of sh (length nodes))
  pub entries : (e : ℕ) → e < length nodes → Block pack (entry_at e) (get_or nodes e 0) 0 0 0 (offset_of sh (length nodes) e)

module _ (sh : Shape) (nodes columns : List ℕ) where
  pub packed-length : length (packed_nodes sh nodes columns) ≡ columns_at (length nodes) + length columns
  unfolding packed_nodes header four_bytes columns_at entry_at
  packed-length =
      omega (arith, length-append (entries_from sh (length nodes) 0 nodes) columns, entries-length sh (length nodes) 0 nodes)

  pub packed-rest : drop (columns_at (length nodes)) (packed_nodes sh nodes columns) ≡ columns
  unfolding packed_nodes header four_bytes columns_at entry_at
  packed-rest =
      drop-append-add (header sh (length nodes)) (entries_from sh (length nodes) 0 nodes ++ columns) (8 * length nodes)
      ∙ drop_at (entries_from sh (length nodes) 0 nodes) columns (8 * length nodes) (entries-length sh (length nodes) 0 nodes)

  header_at : (j : ℕ) → j < 8 → get_or (packed_nodes sh nodes columns) (0 + j) 0 ≡ get_or (header sh (length nodes)) j 0
  unfolding packed_nodes header four_bytes
  header_at j h =
      ap (λ n. get_or (packed_nodes sh nodes columns) n 0) {x = 0 + j} {y = j} (omega arith)
      ∙ get_or-append (header sh (length nodes)) (entries_from sh (length nodes) 0 nodes ++ columns) 0 j h

  entry-at : (e j : ℕ) → e < length nodes → j < 8
      → get_or (packed_nodes sh nodes columns) (entry_at e + j) 0 ≡ get_or (entry (get_or nodes e 0) (offset_of sh (length nodes) e)) j 0
  unfolding packed_nodes header four_bytes entry_at
  entry-at e j h l =
      ap (λ n. get_or (packed_nodes sh nodes columns) n 0) {x = 8 + 8 * e + j} {y = 8 + (8 * e + j)} (omega arith)
      ∙ get_or-append-add (header sh (length nodes)) (entries_from sh (length nodes) 0 nodes ++ columns) (8 * e + j) 0
      ∙ entries_at sh (length nodes) 0 nodes columns e j h l
      ∙ ap (λ n. get_or (entry (get_or nodes e 0) (offset_of sh (length nodes) n)) j 0) {x = 0 + e} {y = e} (omega arith)

  offset_below : (e : ℕ) → e < length nodes → offset_of sh (length nodes) e ≤ total_of sh (length nodes)
  unfolding offset_of total_of
  offset_below e h = omega (arith, mul-le-mul_right (rows sh) (le_of_lt h))

  pub packed-stands : total_of sh (length nodes) < 4294967296 → Stands sh nodes (packed_nodes sh nodes columns)
  unfolding header entry
  packed-stands small = record {
    header = bytes→block _ _ _ _ _ _ _ header_at small;
    entries = λ e h. bytes→block _ _ _ _ _ _ _ (λ j l. entry-at e j h l) (omega (arith, offset_below e h, small));
  }

entry_place : (e : ℕ) → 8 * suc e ≡ 8 + 8 * e
entry_place e = omega arith

-- and a list with that header and these entries is a pack
pub stands-packed : (sh : Shape) (nodes pack : List ℕ) → ((k : ℕ) → get_or pack k 0 < 256) → columns_at (length nodes) ≤ length pack → Stands sh nodes pack
    → pack ≡ packed_nodes sh nodes (drop (columns_at (length nodes)) pack)
unfolding columns_at header entry entry_at
stands-packed sh nodes pack bytes there s = same_blocks (suc (length nodes)) pack made lengths blocks rest
  where
    columns : List ℕ
    columns = drop (8 + 8 * length nodes) pack

    made : List ℕ
    made = packed_nodes sh nodes columns

    lengths : length pack ≡ length made
    lengths = omega (arith, packed-length sh nodes columns, length-drop (8 + 8 * length nodes) pack)

    blocks : (b j : ℕ) → b < suc (length nodes) → j < 8 → get_or pack (8 * b + j) 0 ≡ get_or made (8 * b + j) 0
    blocks zero j h l = block→bytes _ _ _ _ _ _ _ s.header bytes j l ∙ sym (header_at sh nodes columns j l)
    blocks (suc e) j h l =
        ap (λ n. get_or pack (n + j) 0) (entry_place e)
        ∙ block→bytes _ _ _ _ _ _ _ (s.entries e (omega arith)) bytes j l
        ∙ sym (entry-at sh nodes columns e j (omega arith) l)
        ∙ ap (λ n. get_or made (n + j) 0) (sym (entry_place e))

    rest : drop (8 * suc (length nodes)) pack ≡ drop (8 * suc (length nodes)) made
    rest =
        ap (λ n. drop n pack) (entry_place (length nodes))
        ∙ sym (packed-rest sh nodes columns)
        ∙ ap (λ n. drop n made) (sym (entry_place (length nodes)))

-- Document 01, "Shape", sentence by sentence: how nodes, rows and columns are laid out. In order: which shapes the bound on rows bars, how many are
-- accepted, the largest stripe; nodes by group and place; the digits of a row; phantoms; columns and symbols, data columns.
--   digit_sum sh a m == the ordinary sum, over v = 1 to m, of digit v of row a times what a 1 there counts
-- Not here: what acceptance says, both ways (`Accepted`); a stripe has at most 4,096 bytes (`stripe-most` of `Lengths`); group and place of a
-- node, a digit is below s, the digit that is set, phantoms hold 0 (`node-group`, `node-place`, `digit-below`, `digit_set`, `symbol-phantom` of
-- `Ties`); a group counts from 1 to m (`group_from_1`, `group-all-most` of `RowsRead`).
use mathlib.Core.Path.{◌≡◌, refl, sym, ap, ap₂, ◌∙◌}
use mathlib.Core.Bool.{Bool, true, false, ◌&&◌, ◌||◌}
use mathlib.Core.List.{List}
use mathlib.Core.Logic.{◌⊎◌, inl, inr}
use mathlib.Core.Option.{none}
use Prim.Native.Nat.{ℕ, zero, suc, ◌+◌, ◌-◌, ◌*◌, ◌/◌, ◌%◌, ◌^◌, ◌<◌, ◌≤◌}
use native.Mathlib.Nat.{add-sub_cancel_left, div-add-mod', lt-div-mul-add, lt_of_mul-lt-mul_right, mod-eq_of_lt, mod-one}
use native.Mathlib.Nat.{le_antisymm, mul-le-mul_right, one-le-pow, suc-mul, pow-succ', pow-zero}
use native.Mathlib.Omega.{arith}
use lib.Arith.{digits_lt, mod-mul}
use lib.Dec.{T, leb, eqb, eqb→eq}
use lib.Ieee.Fits.{and_l, and_r}
use lib.ListN.{length, get_or, take, drop, length-drop}
use lib.Seq.{length-take-le, get_or-take, get_or-drop}
use borrow.Author.Tests.{le-ltb, leb-true}
use Rattle.theory.specs.Set.{count}
use Rattle.theory.proofs.Digits.{digit-set-other, set_lt, node-split}
use Rattle.field.proofs.Tests.{all, all-at}
use Rattle.rules.specs.declared.shapes.Shape.{Shape}
use Rattle.rules.specs.Shape.{group_size, data_nodes, groups, rows, accepted, node, group, place, phantom, worth, digit, with_digit}
use Rattle.rules.specs.Stripe.{stripe_length, data_length, column_start, column, symbol, read_back}
use Rattle.rules.specs.Refusal.{shape_refusal}
use Rattle.rules.specs.Bench.{shape}
use Rattle.rules.proofs.Accepted.{Bounds, bounds→accepted, size-some, nodes-least, phantoms_few}
use Rattle.rules.proofs.RowsRead.{group-all-most}
use Rattle.rules.proofs.Ties.{worth-suc, group_tie, place_tie, node_tie, digit_tie, with_digit_tie}

-- every n up to 16 and r up to 4 at once
abbrev few-rows : ℕ → ℕ → Bool
few-rows n r = leb (rows (shape n r)) 256 || (eqb n 16 && eqb r 3)

tested : T (all (λ n. all (λ r. few-rows n r) 5) 17)
unfolding rows groups group_size
tested = tt

few-rows-all : (n r : ℕ) → r ≤ 4 → n ≤ 16 → T (few-rows n r)
few-rows-all n r hr hn = all-at (few-rows n) 5 (all-at (λ n. all (few-rows n) 5) 17 tested n (omega arith)) r (omega arith)

-- "Accepted: r from 2 to 4, n from r + 1 to 16, l at most 256. The last bars only n = 16 with r = 3"
pub rows_bar_only : (n r : ℕ) → 2 ≤ r → r ≤ 4 → r + 1 ≤ n → n ≤ 16 → (shape_refusal (shape n r) ≡ none) ⊎ ((n ≡ 16) × (r ≡ 3))
rows_bar_only n r least most more last = go (leb (rows (shape n r)) 256) refl (few-rows-all n r most last)
  where
    go : (b : Bool) → leb (rows (shape n r)) 256 ≡ b → T (b || (eqb n 16 && eqb r 3)) → (shape_refusal (shape n r) ≡ none) ⊎ ((n ≡ 16) × (r ≡ 3))
    go true e t =
        inl
        (bounds→accepted (shape n r)
        (record { r-least = least; r-most = most; n-least = more; n-most = last; l-most = leb-true (rows (shape n r)) 256 e }))
    go false e t = inr (eqb→eq n 16 (and_l (eqb n 16) (eqb r 3) t), eqb→eq r 3 (and_r (eqb n 16) (eqb r 3) t))

-- "n = 16 with r = 3 (729 rows)"
pub rows_16_3 : rows (shape 16 3) ≡ 729
unfolding rows groups group_size
rows_16_3 = refl

-- how many shapes are accepted: by `bounds` r is 2, 3 or 4 and n at most 16, so that these are all
pub shapes_38 : count 17 (λ n. accepted (shape n 2)) + count 17 (λ n. accepted (shape n 3)) + count 17 (λ n. accepted (shape n 4)) ≡ 38
unfolding count accepted rows groups group_size
shapes_38 = refl

-- "Largest stripe: 4,096 bytes": these two have as many
pub stripe_largest : (stripe_length (shape 16 4) ≡ 4096) × (stripe_length (shape 16 2) ≡ 4096)
unfolding stripe_length rows groups group_size
stripe_largest = (refl, refl)

-- "Node i = (v − 1) × r + u + 1 is place u (0 to r − 1) of group v (1 to m)": with `node-group` and `node-place`, exactly one place of one group
pub node_of : (sh : Shape) (i : ℕ) → 1 ≤ i → node sh (group sh i) (place sh i) ≡ i
node_of sh zero h = absurd (omega arith)
node_of sh (suc i) h = rw (group_tie, place_tie, node_tie) (ap suc (node-split (group_size sh) i))

unfoldable pub digit_sum : Shape → ℕ → ℕ → ℕ
digit_sum sh a zero = 0
digit_sum sh a (suc m) = digit_sum sh a m + digit sh a (suc m) * worth sh (suc m)

-- the digits up to m make what is below digit m + 1
digit-sum : (sh : Shape) → Bounds sh → (a m : ℕ) → digit_sum sh a m ≡ a % group_size sh ^ m
unfolding digit_sum digit
digit-sum sh b a zero = rw pow-zero (sym (mod-one a))
digit-sum sh b a (suc m) =
    rw (worth-suc, digit-sum sh b a m, pow-succ', mod-mul a (size-some sh b) (one-le-pow m (group_size sh) (size-some sh b))) (omega arith)

-- "Row a has digits a_1 to a_m to base r, a_1 the lowest"
pub row-digits : (sh : Shape) → Bounds sh → (a : ℕ) → a < rows sh → digit_sum sh a (groups sh) ≡ a
unfolding rows
row-digits sh b a h = digit-sum sh b a (groups sh) ∙ mod-eq_of_lt h

module _ (sh : Shape) (b : Bounds sh) where
  -- "a with digit v set to u": the other digits are kept
  pub digit-set-kept : (a v x u : ℕ) → 1 ≤ v → 1 ≤ x → (v ≡ x → ⊥) → u < group_size sh → digit sh (with_digit sh a v u) x ≡ digit sh a x
  digit-set-kept a zero x u h k ne l = absurd (omega arith)
  digit-set-kept a (suc v) zero u h k ne l = absurd (omega arith)
  digit-set-kept a (suc v) (suc x) u h k ne l =
      simp (digit_tie sh b, with_digit_tie sh b) (digit-set-other (group_size sh) (size-some sh b) a v x u l (λ e. ne (ap suc e)))

  -- and it is a row
  pub set_below : (a v u : ℕ) → 1 ≤ v → v ≤ groups sh → u < group_size sh → a < rows sh → with_digit sh a v u < rows sh
  unfolding rows
  set_below a zero u h k l al = absurd (omega arith)
  set_below a (suc v) u h k l al = rw with_digit_tie (set_lt (group_size sh) (size-some sh b) (groups sh) a v u k l al)

  -- "If r doesn't divide n, the last group is filled up with phantom nodes": phantoms are in no other group
  pub phantoms_last : (i : ℕ) → sh.n < i → i ≤ groups sh * group_size sh → group sh i ≡ groups sh
  unfolding group
  phantoms_last i h k =
      le_antisymm (group-all-most sh b i (omega arith) k)
      (omega (
        arith,
        lt_of_mul-lt-mul_right (group_size sh) {m = groups sh} {n = (i - 1) / group_size sh + 2}
            (omega (arith, phantoms_few sh b, lt-div-mul-add {a = i - 1} (size-some sh b))),
      ))

  -- and if r divides n, there are none
  pub no_phantoms : sh.n % group_size sh ≡ 0 → groups sh * group_size sh ≡ sh.n
  no_phantoms e = le_antisymm (omega (arith, whole, mul-le-mul_right (group_size sh) most)) (nodes-least sh b)
    where
      whole : sh.n / group_size sh * group_size sh ≡ sh.n
      whole = omega (arith, div-add-mod' sh.n (group_size sh))

      most : groups sh ≤ sh.n / group_size sh
      most = omega (arith, lt_of_mul-lt-mul_right (group_size sh) {m = groups sh} {n = sh.n / group_size sh + 1} (omega (arith, whole, phantoms_few sh b)))

-- the byte that a real node has at row a
pub symbol-byte : (sh : Shape) (stripe : List ℕ) (i a : ℕ) → i ≤ sh.n → symbol sh stripe i a ≡ get_or stripe (column_start sh i + a) 0
unfolding symbol phantom
symbol-byte sh stripe i a h = rw (le-ltb sh.n i h)

-- "A stripe is n columns of l bytes"
pub column-room : (sh : Shape) (i : ℕ) → 1 ≤ i → i ≤ sh.n → (i - 1) * rows sh + rows sh ≤ sh.n * rows sh
column-room sh i h k = rw (← suc-mul (i - 1) (rows sh)) (mul-le-mul_right (rows sh) (omega arith))

-- the part of a stripe that is lent as a column, its end given
pub column-part : (sh : Shape) (stripe : List ℕ) (i : ℕ)
    → take (i * rows sh + rows sh - i * rows sh) (drop (i * rows sh) stripe) ≡ column sh stripe (suc i)
unfolding column column_start
column-part sh stripe i = ap₂ (λ (k j : ℕ). take k (drop (j * rows sh) stripe)) (add-sub_cancel_left (i * rows sh) (rows sh)) (omega arith)

pub column-length : (sh : Shape) (stripe : List ℕ) (i : ℕ) → length stripe ≡ stripe_length sh → 1 ≤ i → i ≤ sh.n → length (column sh stripe i) ≡ rows sh
unfolding column column_start stripe_length
column-length sh stripe i e h k = length-take-le (rows sh) (drop ((i - 1) * rows sh) stripe) (rw (length-drop, e) (omega (arith, column-room sh i h k)))

-- "node 1 first. Column i starts at (i − 1) × l and is handed on as that part of the stripe"
pub symbol-column : (sh : Shape) (stripe : List ℕ) (i a : ℕ) → i ≤ sh.n → a < rows sh → symbol sh stripe i a ≡ get_or (column sh stripe i) a 0
unfolding column
symbol-column sh stripe i a h l =
    symbol-byte sh stripe i a h ∙ sym (get_or-take (rows sh) (drop (column_start sh i) stripe) a 0 l ∙ get_or-drop (column_start sh i) stripe a 0)

-- "Data columns are 1 to k"; "the record read back from a stripe is its first k × l bytes"
pub data_column : (sh : Shape) (stripe : List ℕ) (i a : ℕ) → 1 ≤ i → i ≤ data_nodes sh → a < rows sh
    → symbol sh stripe i a ≡ get_or (read_back sh stripe) (column_start sh i + a) 0
unfolding read_back data_length column_start data_nodes
data_column sh stripe i a h k l =
    symbol-byte sh stripe i a (omega arith) ∙ sym (get_or-take (data_length sh) stripe (column_start sh i + a) 0 (digits_lt (omega arith) l))

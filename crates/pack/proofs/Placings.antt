-- The loop that puts a pack's columns in their places. In order: a column put into a stripe, and the others; what holds after the nodes 1 to i: none
-- yet, a node that isn't held, one that is, whose column ends within the pack, all.
--   PlacedTo found pack before i at later == the columns of the nodes 1 to i that are held stand in their places, the next one begins at `at`
use mathlib.Core.Path.{◌≡◌, refl, sym, ap, ap₂, ◌∙◌}
use mathlib.Core.Bool.{true, false, true≢false}
use mathlib.Core.List.{List, [], ◌∷◌, ◌++◌, flat_map}
use Prim.Native.Nat.{ℕ, zero, suc, ◌+◌, ◌-◌, ◌*◌, ◌<◌, ◌≤◌}
use native.Mathlib.Nat.{add-sub_cancel_left, suc-mul, mul-le-mul_right, zero-mul, add-zero}
use native.Mathlib.Numerals.{add-one}
use native.Mathlib.Omega.{arith}
use lib.ListN.{length, take, drop, length-append, length-drop}
use lib.Seq.{take_all, take-add, drop-drop}
use borrow.Rule.Slice.PartMut.{put_mid}
use Rattle.rules.specs.declared.shapes.Shape.{Shape}
use Rattle.rules.specs.Shape.{rows}
use Rattle.rules.specs.Stripe.{stripe_length, column}
use Rattle.rules.proofs.Pieces.{flat_more, flat_same}
use Rattle.rules.proofs.Layouts.{column-part}
use Rattle.rules.proofs.Stripes.{symbol-at, same-column}
use Rattle.columns.proofs.Kernels.{column-within}
use Rattle.columns.proofs.Parts.{part_length, put-part, column-put-other, column-put-length}
use Rattle.layout.specs.declared.answers.Found.{Found}
use Rattle.entries.specs.Pack.{has, nodes_of, columns_of, total_of}
use Rattle.layout.specs.Promise.{LayoutIs}
use Rattle.entries.proofs.Sets.{nodes_to, nodes-all, nodes_start, nodes-take, nodes_skip, listed_to, nodes_up}
use Rattle.pack.specs.Kernel.{Placed}

module _ (sh : Shape) (i : ℕ) (xs : List ℕ) (exact : length xs ≡ stripe_length sh) (inside : i < sh.n) (ys : List ℕ) (same : length ys ≡ rows sh) where
  -- the stripe with ys as column i + 1
  abbrev put : List ℕ
  put = put_mid (i * rows sh) (i * rows sh + rows sh - i * rows sh) xs ys

  fits : i * rows sh + rows sh ≤ length xs
  unfolding stripe_length
  fits = omega (arith, exact, column-within (rows sh) inside)

  column-is : column sh put (suc i) ≡ ys
  column-is = sym (column-part sh put i) ∙ put-part (i * rows sh) (rows sh) xs fits ys same

  put-exact : length put ≡ stripe_length sh
  put-exact = column-put-length (rows sh) i xs fits ys same ∙ exact

  column-other : (j : ℕ) → 1 ≤ j → j ≤ sh.n → (j ≡ suc i → ⊥) → column sh put j ≡ column sh xs j
  column-other zero h k ne = absurd (omega arith)
  column-other (suc j) h k ne =
      same-column sh put xs j put-exact exact k
      (λ a l. symbol-at sh put j a k ∙ column-put-other (rows sh) i xs fits ys same j a (λ e. ne (ap suc e)) l ∙ sym (symbol-at sh xs j a k))

pub record PlacedTo (found : Found) (pack before : List ℕ) (i at : ℕ) (later : List ℕ) : Type 0 where
  pub same_length : length later ≡ length before
  pub running : at ≡ found.start + length (nodes_to found.held i) * rows found.shape
  pub placed : flat_map (column found.shape later) (nodes_to found.held i)
      ≡ take (length (nodes_to found.held i) * rows found.shape) (drop found.start pack)
  pub kept : (j : ℕ) → 1 ≤ j → j ≤ found.shape.n → has found.held j ≡ false
      → column found.shape later j ≡ column found.shape before j

pub placed_start : (found : Found) (pack before : List ℕ) → PlacedTo found pack before 0 found.start before
unfolding flat_map
placed_start found pack before = record {
  same_length = refl;
  running = rw (nodes_start, zero-mul, add-zero);
  placed = rw (nodes_start, zero-mul);
  kept = λ j h k out. refl;
}

module _ (found : Found) (pack before : List ℕ) (i at : ℕ) (later : List ℕ) (was : PlacedTo found pack before i at later) where
  pub placed_skip : has found.held (suc i) ≡ false → PlacedTo found pack before (i + 1) at later
  placed_skip out = record {
    same_length = was.same_length;
    running = rw (add-one, nodes_skip found.held i out) was.running;
    placed = rw (add-one, nodes_skip found.held i out) was.placed;
    kept = was.kept;
  }

  module _ (held : has found.held (suc i) ≡ true) (inside : i < found.shape.n) where
    abbrev sh : Shape
    sh = found.shape

    abbrev set : ℕ
    set = found.held

    abbrev count : ℕ
    count = length (nodes_to set i)

    one_more : length (nodes_to set (suc i)) ≡ suc count
    one_more = ap length (nodes-take set i held) ∙ length-append (nodes_to set i) (suc i ∷ []) ∙ omega arith

    within : LayoutIs pack found → at + rows sh ≤ length pack
    unfolding total_of
    within is = omega (arith, was.running, is.starts, is.long, mul-le-mul_right (rows sh) few)
      where
        few : suc count ≤ length (nodes_of sh set)
        few = omega (arith, one_more, nodes_up set (suc i) sh.n inside, ap length (nodes-all sh set))

    module _ (exact : length before ≡ stripe_length sh) (room : at + rows sh ≤ length pack) (ys : List ℕ)
        (is : ys ≡ take (at + rows sh - at) (drop at pack)) where
      now : length later ≡ stripe_length sh
      now = was.same_length ∙ exact

      long : length ys ≡ rows sh
      long = ap length is ∙ part_length at (rows sh) pack room

      abbrev new : List ℕ
      new = put_mid (i * rows sh) (i * rows sh + rows sh - i * rows sh) later ys

      earlier : flat_map (column sh new) (nodes_to set i) ≡ take (count * rows sh) (drop found.start pack)
      earlier =
          flat_same (column sh new) (column sh later) (nodes_to set i) (λ a m. let (first, last, passes) = listed_to set i a m in
          column-other sh i later now inside ys long a first (omega (arith, last, inside)) (λ e. omega (arith, last, e)))
          ∙ was.placed

      here : column sh new (suc i) ≡ take (rows sh) (drop (count * rows sh) (drop found.start pack))
      here =
          column-is sh i later now inside ys long ∙ is
          ∙ ap₂ (λ (k a : ℕ). take k (drop a pack)) (add-sub_cancel_left at (rows sh)) was.running
          ∙ ap (take (rows sh)) (sym (drop-drop (count * rows sh) found.start pack))

      columns : flat_map (column sh new) (nodes_to set (suc i)) ≡ take (suc count * rows sh) (drop found.start pack)
      columns =
          ap (flat_map (column sh new)) (nodes-take set i held)
          ∙ flat_more (column sh new) (nodes_to set i) (suc i)
          ∙ ap₂ (λ (x y : List ℕ). x ++ y) earlier here
          ∙ sym (take-add (count * rows sh) (rows sh) (drop found.start pack))
          ∙ ap (λ k. take k (drop found.start pack)) (sym (suc-mul count (rows sh)))

      step : PlacedTo found pack before (i + 1) (at + rows sh) new
      step = record {
        same_length = put-exact sh i later now inside ys long ∙ sym exact;
        running = rw (add-one, one_more) (omega (arith, was.running));
        placed = rw (add-one, one_more) columns;
        kept = λ j h k out.
            column-other sh i later now inside ys long j h k (λ e. true≢false (sym held ∙ ap (has set) (sym e) ∙ out)) ∙ was.kept j h k out;
      }

    -- the same, with l as the code has it
    module _ (l : ℕ) (rows_are : l ≡ rows found.shape) where
      pub placed-within : LayoutIs pack found → at + l ≤ length pack
      placed-within is = rw rows_are (within is)

      pub placed-step : length before ≡ stripe_length found.shape → LayoutIs pack found → (ys : List ℕ) → ys ≡ take (at + l - at) (drop at pack)
          → PlacedTo found pack before (i + 1) (at + l) (put_mid (i * l) (i * l + l - i * l) later ys)
      placed-step exact is ys copied = rw rows_are (step exact (within is) ys (rw rows_are at copied))

pub placed-all : (found : Found) (pack before : List ℕ) (at : ℕ) (later : List ℕ) → LayoutIs pack found
    → PlacedTo found pack before found.shape.n at later → Placed found pack before later
unfolding columns_of total_of
placed-all found pack before at later is was = record {
  same_length = was.same_length;
  placed =
      ap (flat_map (column sh later)) all ∙ was.placed
      ∙ ap (λ (nodes : List ℕ). take (length nodes * rows sh) (drop found.start pack)) (sym all)
      ∙ take_all (length (nodes_of sh found.held) * rows sh) (drop found.start pack)
      (omega (arith, length-drop found.start pack, is.starts, is.long));
  kept = was.kept;
}
  where
    sh : Shape
    sh = found.shape

    all : nodes_of sh found.held ≡ nodes_to found.held sh.n
    all = nodes-all sh found.held

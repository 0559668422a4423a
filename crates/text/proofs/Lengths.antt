-- How long the text is at most: every text of an answer fits into the bytes lent for it, and one of them fills them. In order: the lines;
-- the text; every text; the length that is answered.
use mathlib.Core.Path.{◌≡◌, refl, sym, ap, ap₂, subst, ◌∙◌}
use mathlib.Core.List.{List, [], ◌∷◌, ◌++◌, flat_map}
use mathlib.Core.Option.{Option, none, some}
use Prim.Native.Nat.{ℕ, ◌+◌, ◌≤◌}
use native.Mathlib.Nat.{min-le_left}
use native.Mathlib.Omega.{arith}
use lib.Count.{ones, ones_in}
use Rattle.std.specs.Prelude.{Result, Ok, Err}
use lib.ListN.{length, take, drop, replicate, length-append, length-take}
use lib.Seq.{take-append_seam}
use Rattle.rules.specs.declared.refusals.Refusal.{Refusal}
use Rattle.rules.specs.declared.shapes.Shape.{Shape}
use Rattle.rules.specs.Shape.{group_size, groups, rows, accepted}
use Rattle.rules.specs.Stripe.{column, column_start}
use Rattle.rules.specs.Rising.{rising, Listed}
use Rattle.rules.specs.Lost.{is_lost, lost_count, bit_above}
use Rattle.rules.specs.Bench.{shape}
use Rattle.rules.proofs.Accepted.{Bounds, bounds}
use Rattle.rules.proofs.Pieces.{flat_most}
use Rattle.entries.specs.Pack.{nodes_of}
use Rattle.entries.proofs.Sets.{listed_held, held_count}
use Rattle.pack.specs.declared.answers.Contents.{Contents}
use Rattle.text.specs.Text.{letters, decimal, spaced, spaced_all, spaced_or_none, line, refused_line, shape_line, lost_line, column_line}
use Rattle.text.specs.Text.{read_text, contents_refusal, contents_text, printed, longest_text}
use Rattle.text.specs.Promise.{PrintMeets}
use Rattle.text.proofs.Turns.{all-spaced}
use Rattle.text.proofs.Digits.{spaced-one, spaced-most, spaced-short}
use Rattle.text.proofs.Refusals.{Taken, none→taken}

-- a line, by what follows its word
line-length : (word rest end : List ℕ) → length (word ++ rest ++ end) ≡ length word + length rest + length end
line-length word rest end = length-append (word ++ rest) end ∙ ap (λ k. k + length end) (length-append word rest)

pub refused_most : (q : ℕ) → length (refused_line q) ≤ 12
unfolding refused_line line
refused_most q = omega (arith, line-length (letters "refused") (spaced q) (letters "\n"), spaced-most q)

module _ (sh : Shape) (b : Bounds sh) where
  shape-most : length (shape_line sh) ≤ 15
  unfolding shape_line line
  shape-most =
      omega (
        arith,
        line-length (letters "shape") (spaced sh.n ++ spaced sh.r ++ spaced (rows sh)) (letters "\n"),
        line-length (spaced sh.n) (spaced sh.r) (spaced (rows sh)),
        spaced-short sh.n (omega (arith, b.n-most)),
        ap length (spaced-one sh.r (omega (arith, b.r-most))),
        spaced-most (rows sh),
      )

  some-most : (nodes : List ℕ) → length nodes ≤ 4 → ((i : ℕ) → Listed i nodes → i ≤ sh.n) → length (spaced_or_none nodes) ≤ 12
  unfolding spaced_or_none
  some-most [] few nodes-most = omega arith
  some-most (i ∷ nodes) few nodes-most =
      omega (
        arith,
        ap length (all-spaced (i ∷ nodes)),
        flat_most 3 spaced (i ∷ nodes) (λ j h. spaced-short j (omega (arith, nodes-most j h, b.n-most))),
        few,
      )

  column-length : (stripe : List ℕ) (i : ℕ) → length (column sh stripe i) ≤ 256
  unfolding column
  column-length stripe i =
      omega (arith, length-take (rows sh) (drop (column_start sh i) stripe), min-le_left (rows sh) (length (drop (column_start sh i) stripe)), b.l-most)

  column-most : (stripe : List ℕ) (i : ℕ) → i ≤ sh.n → length (column_line sh stripe i) ≤ 1034
  unfolding column_line line
  column-most stripe i h =
      omega (
        arith,
        line-length (letters "column") (spaced i ++ spaced_all (column sh stripe i)) (letters "\n"),
        length-append (spaced i) (spaced_all (column sh stripe i)),
        spaced-short i (omega (arith, h, b.n-most)),
        ap length (all-spaced (column sh stripe i)),
        flat_most 4 spaced (column sh stripe i) (λ j l. spaced-most j),
        column-length stripe i,
      )

  module _ (lost : ℕ) (few : length (nodes_of sh lost) ≤ 4) where
    lost-most : length (lost_line sh lost) ≤ 17
    unfolding lost_line line
    lost-most =
        omega (
          arith,
          line-length (letters "lost") (spaced_or_none (nodes_of sh lost)) (letters "\n"),
          some-most (nodes_of sh lost) few (λ i h. (listed_held sh lost i h).1),
        )

    columns-most : (stripe : List ℕ) → length (flat_map (column_line sh stripe) (nodes_of sh lost)) ≤ 4136
    columns-most stripe =
        omega (arith, flat_most 1034 (column_line sh stripe) (nodes_of sh lost) (λ i h. column-most stripe i (listed_held sh lost i h).1), few)

pub read-most : (contents : Contents) (stripe : List ℕ) → Taken contents → length (read_text contents.shape contents.lost stripe) ≤ longest_text
unfolding read_text
read-most contents stripe taken =
    let sh = contents.shape in
    let lost = contents.lost in
    let b : Bounds sh = bounds sh taken.shape in
    let few : length (nodes_of sh lost) ≤ 4 = omega (arith, held_count sh lost taken.none_above, taken.few, b.r-most) in
    omega (
      arith,
      line-length (shape_line sh) (lost_line sh lost) (flat_map (column_line sh stripe) (nodes_of sh lost)),
      shape-most sh b,
      lost-most sh b lost few,
      columns-most sh b lost few stripe,
    )

pub longest_text_lem : (answer : Result Contents ℕ) (stripe : List ℕ) → length (printed answer stripe) ≤ longest_text
unfolding printed
longest_text_lem (Err q) stripe = omega (arith, refused_most q)
longest_text_lem (Ok contents) stripe = go (contents_refusal contents) refl
  where
    go : (answer : Option ℕ) → contents_refusal contents ≡ answer → length (contents_text (contents_refusal contents) contents stripe) ≤ longest_text
    go none e = rw e (read-most contents stripe (none→taken contents e))
    go (some q) e = rw e (omega (arith, refused_most q))

-- and some text is as long as that: nodes 13 to 16 of 16 lost, and every byte of three digits
pub longest_text-is : length (printed (Ok record { shape = shape 16 4; lost = 61440 }) (replicate 4096 100)) ≡ longest_text
unfolding printed contents_refusal accepted rows groups group_size bit_above lost_count ones ones_in read_text shape_line lost_line column_line line spaced_or_none
    spaced_all spaced decimal nodes_of rising is_lost column column_start flat_map
longest_text-is = refl

-- the length that is answered counts bytes at the front of those lent, so that this front can be lent on
pub print-counts : (answer : Result Contents ℕ) (stripe before later : List ℕ) (result : Result ℕ Refusal) (k : ℕ) → PrintMeets answer stripe before result later
    → result ≡ Ok k → (k ≤ length later) × (k ≡ length (take k later))
print-counts answer stripe before later result k meets e = (
  omega (arith, exact, ap length is, length-append (printed answer stripe) (drop k before)),
  exact ∙ ap length (sym (take-append_seam (printed answer stripe) (drop k before)) ∙ ap₂ take (sym exact) (sym is)),
)
  where
    m : PrintMeets answer stripe before (Ok k) later
    m = subst (λ p. PrintMeets answer stripe before p later) e meets

    exact : k ≡ length (printed answer stripe)
    exact = m.1

    is : later ≡ printed answer stripe ++ drop k before
    is = m.2

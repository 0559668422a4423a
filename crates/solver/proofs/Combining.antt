-- Columns of unknowns, by constants. In order: a column after t of the columns of sums are added; all columns below j.
--   CombinedTo t size weights sums column   == the column has the sum of the first t columns of sums, each times its weight
--   WrittenTo j count rows size sums before later == the columns below j are written
use mathlib.Core.Path.{◌≡◌, sym, ap, ap₂, ◌∙◌}
use mathlib.Core.List.{List}
use Prim.Native.Nat.{ℕ, ◌+◌, ◌-◌, ◌*◌, ◌<◌, ◌≤◌}
use native.Mathlib.Numerals.{add-one}
use native.Mathlib.Omega.{arith}
use borrow.Author.Count.{below_more}
use borrow.Rule.Slice.PartMut.{put_mid}
use lib.ListN.{length, get_or, take, drop, replicate, length-replicate, get_or-replicate}
use Rattle.field.specs.Number.{add, mul}
use Rattle.rules.proofs.Ties.{sum_same}
use Rattle.columns.specs.Promise.{Multiplied}
use Rattle.columns.proofs.Kernels.{column-within}
use Rattle.columns.proofs.Parts.{part_length, part-byte, put-before, put-inside, put-length}
use Rattle.solver.specs.Solve.{columns_at}
use Rattle.systems.specs.System.{entry}
use Rattle.solver.specs.Kernel.{WeightsAre, combined, Combined}
use Rattle.systems.proofs.Sums.{sum-zero, sum-suc}

pub combined-none : (size : ℕ) (weights : ℕ → ℕ) (sums : List ℕ) (a : ℕ) → combined 0 size weights sums a ≡ 0
unfolding combined
combined-none size weights sums a = sum-zero _

pub combined_more : (t size : ℕ) (weights : ℕ → ℕ) (sums : List ℕ) (a : ℕ)
    → combined (t + 1) size weights sums a ≡ add (combined t size weights sums a) (mul (weights t) (columns_at size sums a t))
unfolding combined
combined_more t size weights sums a = rw add-one (sum-suc t _)

pub combined_ext : (count size : ℕ) (weights others : ℕ → ℕ) (sums : List ℕ) (a : ℕ) → ((t : ℕ) → t < count → weights t ≡ others t)
    → combined count size weights sums a ≡ combined count size others sums a
unfolding combined
combined_ext count size weights others sums a same = sum_same count _ _ (λ t l. ap (λ w. mul w (columns_at size sums a t)) (same t l))

pub record CombinedTo (t size : ℕ) (weights sums column : List ℕ) : Type 0 where
  pub exact : length column ≡ size
  pub bytes : (a : ℕ) → a < size → get_or column a 0 ≡ combined t size (λ u. get_or weights u 0) sums a

pub combined_start : (size : ℕ) (weights sums : List ℕ) → CombinedTo 0 size weights sums (replicate size 0)
combined_start size weights sums = record {
  exact = length-replicate size 0;
  bytes = λ a l. get_or-replicate size a 0 0 l ∙ sym (combined-none size (λ u. get_or weights u 0) sums a);
}

-- column t of the sums lies among them
pub combined-step : (t size : ℕ) (weights sums column later : List ℕ) → t * size + size ≤ length sums → CombinedTo t size weights sums column
    → Multiplied (get_or weights t 0) (take (t * size + size - t * size) (drop (t * size) sums)) column later
    → CombinedTo (t + 1) size weights sums later
combined-step t size weights sums column later fits done product = record {
  exact = product.same_length ∙ done.exact;
  bytes = λ a l.
      product.bytes a (omega (arith, done.exact))
      ∙ ap₂ (λ x y. add x (mul (get_or weights t 0) y)) (done.bytes a l) (part-byte (t * size) size sums fits a l)
      ∙ sym (combined_more t size (λ u. get_or weights u 0) sums a);
}

pub record WrittenTo (j count : ℕ) (rows : List (List ℕ)) (size : ℕ) (sums before later : List ℕ) : Type 0 where
  pub same_length : length later ≡ length before
  pub bytes : (i : ℕ) → i < j → (a : ℕ) → a < size → columns_at size later a i ≡ combined count size (λ t. entry rows t i) sums a

pub written_more : (j count : ℕ) (rows : List (List ℕ)) (size : ℕ) (sums before now weights column : List ℕ) → count ≤ 4 → (fits : j * size + size ≤ length now)
    → WrittenTo j count rows size sums before now
    → WeightsAre rows j weights
    → Combined count weights sums (take (j * size + size - j * size) (drop (j * size) now)) column
    → WrittenTo (j + 1) count rows size sums before (put_mid (j * size) (j * size + size - j * size) now column)
written_more j count rows size sums before now weights column few fits done own new = record {
  same_length = put-length (j * size) size now fits column exact ∙ done.same_length;
  bytes =
      below_more _ j
      (λ i h a l.
      put-before (j * size) size now fits column exact (i * size + a) (omega (arith, column-within size h)) ∙ done.bytes i h a l)
      (λ a l.
      put-inside (j * size) size now fits column exact a l
      ∙ new.bytes a (omega (arith, part))
      ∙ ap (λ s. combined count s (λ t. get_or weights t 0) sums a) part
      ∙ combined_ext count size _ _ sums a (λ t h. own.each t (omega arith)));
}
  where
    part : length (take (j * size + size - j * size) (drop (j * size) now)) ≡ size
    part = part_length (j * size) size now fits

    exact : length column ≡ size
    exact = new.same_length ∙ part

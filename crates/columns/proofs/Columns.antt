-- Loops over columns of length l that stand end to end in a buffer; a turn may write one of them. In order: columns written from
-- the front: one more, one left as it was; each is within the buffer.
--   ColumnsTo new l i before later == the columns below i hold what `new` gives, those from i on are as they were
-- Assumes nothing.
use mathlib.Core.Path.{◌≡◌, ◌∙◌}
use mathlib.Core.List.{List}
use mathlib.Core.Logic.{◌⊎◌, inl, inr}
use Prim.Native.Nat.{ℕ, ◌+◌, ◌-◌, ◌*◌, ◌<◌, ◌≤◌}
use native.Mathlib.Nat.{eq-or-lt_of_le, le_refl}
use native.Mathlib.Omega.{arith}
use lib.ListN.{length, get_or}
use borrow.Rule.Slice.PartMut.{put_mid}
use Rattle.columns.proofs.Kernels.{column-within}
use Rattle.columns.proofs.Parts.{column-put, column-put-other, column-put-length}

pub record ColumnsTo (new : ℕ → ℕ → ℕ) (l i : ℕ) (before later : List ℕ) : Type 0 where
  pub same_length : length later ≡ length before
  pub done : (j a : ℕ) → j < i → a < l → get_or later (j * l + a) 0 ≡ new j a
  pub kept : (j a : ℕ) → i ≤ j → a < l → get_or later (j * l + a) 0 ≡ get_or before (j * l + a) 0

module _ (new : ℕ → ℕ → ℕ) (l i : ℕ) (before xs : List ℕ) (was : ColumnsTo new l i before xs) where
  -- column i is lent, and comes back as ys
  pub columns-put : i * l + l ≤ length xs → (ys : List ℕ) → length ys ≡ l → ((a : ℕ) → a < l → get_or ys a 0 ≡ new i a)
      → ColumnsTo new l (i + 1) before (put_mid (i * l) (i * l + l - i * l) xs ys)
  columns-put fits ys same bytes = record {
    same_length = column-put-length l i xs fits ys same ∙ was.same_length;
    done = λ j a hj ha. go j a ha (eq-or-lt_of_le (omega (arith, hj)));
    kept = λ j a hj ha. column-put-other l i xs fits ys same j a (λ e. omega (arith, hj, e)) ha ∙ was.kept j a (omega (arith, hj)) ha;
  }
    where
      go : (j a : ℕ) → a < l → (j ≡ i) ⊎ (j < i) → get_or (put_mid (i * l) (i * l + l - i * l) xs ys) (j * l + a) 0 ≡ new j a
      go j a ha (inl e) = rw e (column-put l i xs fits ys same a ha ∙ bytes a ha)
      go j a ha (inr h) = column-put-other l i xs fits ys same j a (λ e. omega (arith, h, e)) ha ∙ was.done j a h ha

  -- column i is left as it was
  pub columns_skip : ((a : ℕ) → a < l → get_or before (i * l + a) 0 ≡ new i a) → ColumnsTo new l (i + 1) before xs
  columns_skip bytes = record {
    same_length = was.same_length;
    done = λ j a hj ha. go j a ha (eq-or-lt_of_le (omega (arith, hj)));
    kept = λ j a hj ha. was.kept j a (omega (arith, hj)) ha;
  }
    where
      go : (j a : ℕ) → a < l → (j ≡ i) ⊎ (j < i) → get_or xs (j * l + a) 0 ≡ new j a
      go j a ha (inl e) = rw e (was.kept i a (le_refl i) ha ∙ bytes a ha)
      go j a ha (inr h) = was.done j a h ha

  pub columns-within : {n : ℕ} → i < n → length before ≡ n * l → i * l + l ≤ length xs
  columns-within h e = omega (arith, column-within l h, was.same_length, e)

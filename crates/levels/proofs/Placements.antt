-- Columns of `found` put where the nodes listed have theirs. In order: none yet; one more.
-- Assumes nothing.
use mathlib.Core.Path.{◌≡◌, refl, sym, ap, ◌∙◌}
use mathlib.Core.List.{List}
use mathlib.Core.Logic.{◌⊎◌, inl, inr}
use Prim.Native.Nat.{ℕ, ◌+◌, ◌-◌, ◌*◌, ◌<◌, ◌≤◌}
use native.Mathlib.Nat.{eq-or-lt_of_le}
use native.Mathlib.Omega.{arith}
use lib.ListN.{length, get_or, take, drop}
use borrow.Rule.Slice.PartMut.{put_mid}
use Rattle.columns.proofs.Parts.{part_length, part-byte, column-put, column-put-other, column-put-length}
use Rattle.levels.specs.Kernel.{Placed}

pub placed_start : (nodes : List ℕ) (l : ℕ) (found before : List ℕ) → Placed nodes 0 l found before before
placed_start nodes l found before =
    record { same_length = refl; each = λ j a h k. absurd (omega (arith, h)); others = λ i a away h. refl }

module _ (nodes : List ℕ) (l j : ℕ) (found before xs : List ℕ) (was : Placed nodes j l found before xs) where
  pub placed-step : ((k : ℕ) → k < j → get_or nodes k 0 ≡ get_or nodes j 0 → ⊥) → j * l + l ≤ length found → get_or nodes j 0 * l + l ≤ length xs → (ys : List ℕ)
      → ys ≡ take (j * l + l - j * l) (drop (j * l) found)
      → Placed nodes (j + 1) l found before (put_mid (get_or nodes j 0 * l) (get_or nodes j 0 * l + l - get_or nodes j 0 * l) xs ys)
  placed-step once inside fits ys is = record {
    same_length = column-put-length l (get_or nodes j 0) xs fits ys same ∙ was.same_length;
    each = λ k a hk ha. go k a ha (eq-or-lt_of_le (omega (arith, hk)));
    others = λ i a away ha.
        column-put-other l (get_or nodes j 0) xs fits ys same i a (λ e. away j (omega arith) (sym e)) ha
        ∙ was.others i a (λ k hk. away k (omega (arith, hk))) ha;
  }
    where
      same : length ys ≡ l
      same = ap length is ∙ part_length (j * l) l found inside

      go : (k a : ℕ) → a < l → (k ≡ j) ⊎ (k < j)
          → get_or (put_mid (get_or nodes j 0 * l) (get_or nodes j 0 * l + l - get_or nodes j 0 * l) xs ys) (get_or nodes k 0 * l + a) 0 ≡ get_or found (k * l + a) 0
      go k a ha (inl e) =
          rw e
          (column-put l (get_or nodes j 0) xs fits ys same a ha
          ∙ ap (λ (zs : List ℕ). get_or zs a 0) is
          ∙ part-byte (j * l) l found inside a ha)
      go k a ha (inr h) =
          column-put-other l (get_or nodes j 0) xs fits ys same (get_or nodes k 0) a
          (once k h) ha
          ∙ was.each k a h ha

-- Laws of what one node adds to the sums: its weights shared out, one t more.
--   SharedTo p l weights t before later == the sums below t have their share of the weights, the others are as they were
use mathlib.Core.Path.{◌≡◌, refl, ap₂, ◌∙◌}
use mathlib.Core.List.{List}
use mathlib.Core.Logic.{◌⊎◌, inl, inr}
use Prim.Native.Nat.{ℕ, ◌+◌, ◌-◌, ◌*◌, ◌<◌, ◌≤◌}
use native.Mathlib.Nat.{eq-or-lt_of_le}
use native.Mathlib.Omega.{arith}
use lib.ListN.{length, get_or, take, drop}
use borrow.Rule.Slice.PartMut.{put_mid}
use Rattle.field.specs.Number.{add, mul, power}
use Rattle.columns.specs.Promise.{Multiplied}
use Rattle.columns.proofs.Kernels.{entry-within}
use Rattle.columns.proofs.Parts.{part_length, part-byte, put-before, put-inside, put-after, put-length}

-- the sums below t have their share of the weights, the others are as they were
pub record SharedTo (p l : ℕ) (weights : ℕ → ℕ) (t : ℕ) (before later : List ℕ) : Type 0 where
  pub same_length : length later ≡ length before
  pub done : (j a : ℕ) → j < t → a < l → get_or later (j * l + a) 0 ≡ add (get_or before (j * l + a) 0) (mul (power p j) (weights a))
  pub kept : (k : ℕ) → t * l ≤ k → get_or later k 0 ≡ get_or before k 0

pub shared_start : (p l : ℕ) (weights : ℕ → ℕ) (before : List ℕ) → SharedTo p l weights 0 before before
shared_start p l weights before =
    record { same_length = refl; done = λ j a h k. absurd (omega (arith, h)); kept = λ k h. refl }

-- the part of the sums for t is lent, and comes back with the multiples added
module _ (p l t : ℕ) (column before xs : List ℕ) (fits : t * l + l ≤ length xs) where
  pub shared_step : (q : ℕ) (ys : List ℕ)
      → q ≡ power p t
      → SharedTo p l (λ a. get_or column a 0) t before xs
      → Multiplied q column (take (t * l + l - t * l) (drop (t * l) xs)) ys
      → SharedTo p l (λ a. get_or column a 0) (t + 1) before (put_mid (t * l) (t * l + l - t * l) xs ys)
  shared_step q ys is-power was product = record {
    same_length = put-length (t * l) l xs fits ys same ∙ was.same_length;
    done = λ j a hj ha. go j a ha (eq-or-lt_of_le (omega (arith, hj)));
    kept = λ k h. put-after (t * l) l xs fits ys same k (omega (arith, h)) ∙ was.kept k (omega (arith, h));
  }
    where
      same : length ys ≡ l
      same = product.same_length ∙ part_length (t * l) l xs fits

      go : (j a : ℕ) → a < l → (j ≡ t) ⊎ (j < t)
          → get_or (put_mid (t * l) (t * l + l - t * l) xs ys) (j * l + a) 0 ≡ add (get_or before (j * l + a) 0) (mul (power p j) (get_or column a 0))
      go j a ha (inl e) =
          rw e
          (put-inside (t * l) l xs fits ys same a ha
          ∙ product.bytes a (omega (arith, ha, part_length (t * l) l xs fits))
          ∙ ap₂ (λ x z. add x (mul z (get_or column a 0))) (part-byte (t * l) l xs fits a ha ∙ was.kept (t * l + a) (omega arith)) is-power)
      go j a ha (inr h) = put-before (t * l) l xs fits ys same (j * l + a) (entry-within h ha) ∙ was.done j a h ha

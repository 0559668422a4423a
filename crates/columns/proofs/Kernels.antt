-- Loops over bytes. In order: what holds of a list after j entries of it are written, from the front; before the first; an entry more; one left as it
-- was; the end; sizes of products, and of the index of an entry among columns that stand end to end.
--   Stored blank new j before later == below j later has the entries that `new` gives, from j on those of before; `blank` stands past the end of a list
--   Written new j before later == the same of bytes, with 0 past the end
-- Assumes nothing.
use mathlib.Core.Path.{◌≡◌, refl, ◌∙◌}
use mathlib.Core.List.{List}
use Prim.Native.Nat.{ℕ, ◌+◌, ◌*◌, ◌≤◌, ◌<◌}
use native.Mathlib.Nat.{le_refl, mul-le-mul, mul-le-mul_right}
use native.Mathlib.Omega.{arith}
use borrow.Author.Count.{below_none, below_more}
use lib.ListN.{length, get_or, set, length-set}
use lib.Seq.{get_or-set_same, get_or-set_other}

module _ {A : Type 0} where
  pub record Stored (blank : A) (new : ℕ → A) (j : ℕ) (before later : List A) : Type 0 where
    pub same_length : length later ≡ length before
    pub done : (k : ℕ) → k < j → get_or later k blank ≡ new k
    pub kept : (k : ℕ) → j ≤ k → get_or later k blank ≡ get_or before k blank

abbrev pub Written : (ℕ → ℕ) → ℕ → List ℕ → List ℕ → Type 0
Written = Stored 0

module _ {A : Type 0} {blank : A} where
  pub written_start : (new : ℕ → A) (before : List A) → Stored blank new 0 before before
  written_start new before =
      record { same_length = refl; done = below_none (λ k. get_or before k blank ≡ new k); kept = λ k h. refl }

module _ {A : Type 0} {blank : A} {new : ℕ → A} {j : ℕ} {before later : List A} (written : Stored blank new j before later) where
  pub written_below : j < length before → j < length later
  written_below h = omega (arith, written.same_length)

  -- the entry at j is still the old one
  pub written-here : get_or later j blank ≡ get_or before j blank
  written-here = written.kept j (le_refl j)

  pub written_step : (x : A) → j < length before → x ≡ new j → Stored blank new (j + 1) before (set later j x)
  written_step x h e =
      record {
        same_length = length-set later j x ∙ written.same_length;
        done =
            below_more (λ k. get_or (set later j x) k blank ≡ new k) j
            (λ k hk. get_or-set_other later j k x blank (λ q. omega arith) ∙ written.done k hk)
            (get_or-set_same later j x blank (written_below h) ∙ e);
        kept = λ k hk. get_or-set_other later j k x blank (λ q. omega arith) ∙ written.kept k (omega arith);
      }

  -- the entry at j is left as it was
  pub written_skip : get_or before j blank ≡ new j → Stored blank new (j + 1) before later
  written_skip e = record {
    same_length = written.same_length;
    done = below_more (λ k. get_or later k blank ≡ new k) j written.done (written-here ∙ e);
    kept = λ k h. written.kept k (omega (arith, h));
  }

  pub written-whole : length before ≤ j → (k : ℕ) → k < length before → get_or later k blank ≡ new k
  written-whole h k hk = written.done k (omega arith)

pub product_small : {x y : ℕ} → x ≤ 4 → y ≤ 256 → x * y ≤ 1024
product_small hx hy = mul-le-mul hx hy

-- column t of r columns of length l ends among them
pub column-within : (l : ℕ) {t r : ℕ} → t < r → t * l + l ≤ r * l
column-within l {t} h = omega (arith, mul-le-mul_right l h)

pub entry-within : {t r a l : ℕ} → t < r → a < l → t * l + a < r * l
entry-within {l = l} ht ha = omega (arith, column-within l ht)

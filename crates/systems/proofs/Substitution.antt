-- Back substitution. In order: an array with one number stored, in a sum of products; what holds while the unknowns below index i are still to be found;
-- one more found.
--   Unfinished count i rows given found == found is four bytes, 0 below i and past `count`; the rows from i on times found are the numbers given
use mathlib.Core.Path.{◌≡◌, sym, ap, ap₂, ◌∙◌}
use mathlib.Core.Logic.{◌⊎◌, inl, inr}
use mathlib.Core.List.{List}
use Prim.Native.Nat.{ℕ, suc, ◌<◌, ◌≤◌}
use native.Mathlib.Decide.{ℕ_discrete}
use native.Mathlib.Nat.{eq-or-lt_of_le}
use native.Mathlib.Omega.{arith}
use lib.ListN.{length, get_or, set, length-set}
use lib.Seq.{get_or-set_same, get_or-set_other}
use Rattle.field.specs.Number.{add, mul}
use Rattle.field.proofs.Xor.{sums, add-zero}
use Rattle.field.proofs.Product.{mul-zero, zero-mul, mul_comm}
use Rattle.systems.specs.System.{entry}
use Rattle.systems.specs.Kernel.{dotted, Triangle}
use Rattle.systems.proofs.Sums.{sum-changed}

pub dotted-set : (row : ℕ → ℕ) (found : List ℕ) (h q : ℕ) → h < 4 → length found ≡ 4 → get_or found h 0 ≡ 0
    → dotted row (λ j. get_or (set found h q) j 0) ≡ add (dotted row (λ j. get_or found j 0)) (mul (row h) q)
unfolding dotted
dotted-set row found h q l exact empty =
    sum-changed 4 h (λ j. mul (row j) (get_or (set found h q) j 0)) (λ j. mul (row j) (get_or found j 0)) l
    (ap (mul (row h)) empty ∙ mul-zero (row h))
    (λ j ne. ap (mul (row j)) (get_or-set_other found h j q 0 (λ e. omega (arith, ne))))
    ∙ ap (λ x. add _ (mul (row h) x)) (get_or-set_same found h q 0 (omega (arith, exact)))

pub record Unfinished (count i : ℕ) (rows given : List (List ℕ)) (found : List ℕ) : Type 0 where
  pub most : i ≤ count
  pub exact : length found ≡ 4
  pub bytes : (j : ℕ) → get_or found j 0 < 256
  pub before : (j : ℕ) → j < i → get_or found j 0 ≡ 0
  pub rest : (j : ℕ) → count ≤ j → get_or found j 0 ≡ 0
  pub sums : (h : ℕ) → i ≤ h → h < count → dotted (entry rows h) (λ j. get_or found j 0) ≡ entry given h 0

module _ (count i h q : ℕ) (rows given : List (List ℕ)) (found : List ℕ) (few : count ≤ 4) (triangle : Triangle count rows) (next : suc h ≡ i)
    (u : Unfinished count i rows given found) (small : q < 256)
    (value : mul q (entry rows h h) ≡ add (entry given h 0) (dotted (entry rows h) (λ j. get_or found j 0))) where
  h-few : h < 4
  h-few = omega (arith, u.most)

  stored_other : (j : ℕ) → (j ≡ h → ⊥) → get_or (set found h q) j 0 ≡ get_or found j 0
  stored_other j ne = get_or-set_other found h j q 0 (λ e. omega (arith, ne))

  stored_same : get_or (set found h q) h 0 ≡ q
  stored_same = get_or-set_same found h q 0 (omega (arith, u.exact, h-few))

  stored_bytes : (j : ℕ) → get_or (set found h q) j 0 < 256
  stored_bytes j = go (ℕ_discrete j h)
    where
      go : Dec (j ≡ h) → get_or (set found h q) j 0 < 256
      go (yes e) = rw (e, stored_same) small
      go (no ne) = rw (stored_other j ne) (u.bytes j)

  row-sum : (k : ℕ) → dotted (entry rows k) (λ j. get_or (set found h q) j 0) ≡ add (dotted (entry rows k) (λ j. get_or found j 0)) (mul (entry rows k h) q)
  row-sum k = dotted-set (entry rows k) found h q h-few u.exact (u.before h (omega arith))

  around : (x y : ℕ) → add x (add y x) ≡ y
  around x y = simp sums

  later-sums : (k : ℕ) → h ≤ k → k < count → dotted (entry rows k) (λ j. get_or (set found h q) j 0) ≡ entry given k 0
  later-sums k low high = row-sum k ∙ go (eq-or-lt_of_le low)
    where
      go : (h ≡ k) ⊎ (h < k) → add (dotted (entry rows k) (λ j. get_or found j 0)) (mul (entry rows k h) q) ≡ entry given k 0
      go (inl e) = rw (sym e) (ap (add _) (mul_comm (entry rows h h) q ∙ value) ∙ around _ (entry given h 0))
      go (inr l) =
          ap₂ add (u.sums k (omega arith) high) (ap (λ x. mul x q) (triangle.below k h high l) ∙ zero-mul q)
          ∙ add-zero (entry given k 0)

  pub unfinished_step : Unfinished count h rows given (set found h q)
  unfinished_step = record {
    most = omega (arith, u.most);
    exact = length-set found h q ∙ u.exact;
    bytes = stored_bytes;
    before = λ j l. stored_other j (λ e. omega arith) ∙ u.before j (omega arith);
    rest = λ j l. stored_other j (λ e. omega (arith, u.most)) ∙ u.rest j l;
    sums = later-sums;
  }

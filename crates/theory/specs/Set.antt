-- A set of nodes is a test on numbers.
--   one_if b      == 1 if b, else 0
--   count n L     == how many i < n are in L
--   Inside L M    == each node of L is in M
--   changed j x f == the function f, but x at j
--   without j L   == the set L less j
--   Lists n L k e == e 0, .., e (k - 1) are the members of L below n, each once
--   Grown n r L M == the set M holds L, has r members below n, and is L from n on
use Rattle.std.specs.Prelude.{ℕ, zero, suc, ◌+◌, ◌<◌, ◌≤◌, ◌≡◌, Bool, true, false, cond, eqb}

abbrev pub one_if : Bool → ℕ
one_if true = 1
one_if false = 0

unfoldable pub count : ℕ → (ℕ → Bool) → ℕ
count zero L = 0
count (suc n) L = count n L + one_if (L n)

module _ {A : Type 0} where
  unfoldable pub changed : ℕ → A → (ℕ → A) → ℕ → A
  changed j x f i = cond (eqb i j) x (f i)

abbrev pub without : ℕ → (ℕ → Bool) → ℕ → Bool
without j L = changed j false L

abbrev pub Inside : (ℕ → Bool) → (ℕ → Bool) → Type 0
Inside L M = (i : ℕ) → L i ≡ true → M i ≡ true

pub record Lists (n : ℕ) (L : ℕ → Bool) (k : ℕ) (e : ℕ → ℕ) : Type 0 where
  pub below : (j : ℕ) → j < k → e j < n
  pub inside : (j : ℕ) → j < k → L (e j) ≡ true
  pub once : (i j : ℕ) → i < k → j < k → e i ≡ e j → i ≡ j
  pub all : (i : ℕ) → i < n → L i ≡ true → (j : ℕ) × (j < k) × (e j ≡ i)

pub record Grown (n r : ℕ) (L M : ℕ → Bool) : Type 0 where
  pub holds : Inside L M
  pub exact : count n M ≡ r
  pub beyond : (i : ℕ) → n ≤ i → M i ≡ L i

-- Functions that keep sums. Two of them that agree at the powers of 2 below 2ᵏ agree at every number below 2ᵏ, so that a law of the
-- product is tested at powers of 2 alone. In order: what keeps sums; `agree`.
use mathlib.Core.Path.{◌≡◌, sym, ap, ap₂, ◌∙◌}
use mathlib.Core.Bool.{Bool}
use Prim.Native.Nat.{ℕ, zero, suc, ◌*◌, ◌/◌, ◌%◌, ◌^◌, ◌<◌}
use native.Mathlib.Nat.{mod-lt, zero-mul, one-mul}
use native.Mathlib.Nat as N
use native.Mathlib.Omega.{arith}
use lib.Arith.{lt-one}
use lib.Dec.{T, eqb}
use lib.Bits.{differ, xor_block, xor_shifted}
use lib.Pow.{pow_pos, split, shr_lt}
use native.Mathlib.Numerals.{one-add}
use Rattle.field.specs.Number.{add}
use Rattle.field.proofs.Xor.{sums, add_self, zero-add, add-zero, add_odd}
use Rattle.field.proofs.Tests.{all, all-at, all-equal}

abbrev pub Linear : (ℕ → ℕ) → Type 0
Linear f = (a b : ℕ) → f (add a b) ≡ add (f a) (f b)

pub linear_zero : (f : ℕ → ℕ) → Linear f → f 0 ≡ 0
linear_zero f l = ap f (sym (add_self 0)) ∙ l 0 0 ∙ add_self (f 0)

pub linear_add : (f g : ℕ → ℕ) → Linear f → Linear g → Linear (λ a. add (f a) (g a))
linear_add f g l m a b = rw (l a b, m a b) (simp sums)

pub linear_shift : (k : ℕ) → Linear (λ a. a * 2 ^ k)
unfolding add
linear_shift k a b =
    sym (simp (N.add-zero) at (xor_block k a b 0 0 (pow_pos k) (pow_pos k)))

scaled : (x y c : ℕ) → x < 2 → y < 2 → differ x y * c ≡ add (x * c) (y * c)
scaled zero y c h k = simp (zero-mul, zero-add)
scaled (suc zero) zero c h k = simp (zero-mul, add-zero)
scaled (suc zero) (suc zero) c h k = simp (zero-mul, add_self)
scaled (suc zero) (suc (suc y)) c h k = absurd (omega arith)
scaled (suc (suc x)) y c h k = absurd (omega arith)

-- the lowest bit, times a number
pub linear_bit : (c : ℕ) → Linear (λ a. a % 2 * c)
linear_bit c a b = ap (λ x. x * c) (add_odd a b) ∙ scaled (a % 2) (b % 2) c (omega arith) (omega arith)

pub linear_times : (q : ℕ) → q < 2 → Linear (λ a. q * a)
linear_times zero h a b = simp (zero-mul, zero-add)
linear_times (suc zero) h a b = simp one-mul
linear_times (suc (suc q)) h a b = absurd (omega arith)

-- a number is the sum of its part from bit k on and its part below bit k
pub add_parts : (n k : ℕ) → add (n / 2 ^ k * 2 ^ k) (n % 2 ^ k) ≡ n
unfolding add
add_parts n k = xor_shifted (n / 2 ^ k) k (n % 2 ^ k) (mod-lt n (pow_pos k)) ∙ split n k

module _ (f g : ℕ → ℕ) (lf : Linear f) (lg : Linear g) where
  at-digit : (q m : ℕ) → q < 2 → f m ≡ g m → f (q * m) ≡ g (q * m)
  at-digit zero m h e = rw zero-mul (linear_zero f lf ∙ sym (linear_zero g lg))
  at-digit (suc zero) m h e = rw one-mul e
  at-digit (suc (suc q)) m h e = absurd (omega arith)

  pub agree : (k : ℕ) → ((i : ℕ) → i < k → f (2 ^ i) ≡ g (2 ^ i)) → (n : ℕ) → n < 2 ^ k → f n ≡ g n
  agree zero same n h = rw (lt-one h) (linear_zero f lf ∙ sym (linear_zero g lg))
  agree (suc k) same n h =
      let q : n / 2 ^ k < 2 = shr_lt 1 k (rw one-add h) in
      ap f (sym (add_parts n k))
      ∙ lf (n / 2 ^ k * 2 ^ k) (n % 2 ^ k)
      ∙ ap₂ add (at-digit (n / 2 ^ k) (2 ^ k) q (same k (omega arith)))
      (agree k (λ i l. same i (omega arith)) (n % 2 ^ k) (mod-lt n (pow_pos k)))
      ∙ sym (lg (n / 2 ^ k * 2 ^ k) (n % 2 ^ k))
      ∙ ap g (add_parts n k)

-- the same from one test that is computed, for functions of one, two and three numbers that keep sums in each
pub record Bilinear (f : ℕ → ℕ → ℕ) : Type 0 where
  pub left : (b : ℕ) → Linear (λ a. f a b)
  pub right : (a : ℕ) → Linear (f a)

pub record Trilinear (f : ℕ → ℕ → ℕ → ℕ) : Type 0 where
  pub first : (b c : ℕ) → Linear (λ a. f a b c)
  pub rest : (a : ℕ) → Bilinear (f a)

abbrev pub equal : (f g : ℕ → ℕ) → ℕ → Bool
equal f g k = all (λ i. eqb (f (2 ^ i)) (g (2 ^ i))) k

abbrev pub equal₂ : (f g : ℕ → ℕ → ℕ) → ℕ → Bool
equal₂ f g k = all (λ i. equal (f (2 ^ i)) (g (2 ^ i)) k) k

abbrev pub equal₃ : (f g : ℕ → ℕ → ℕ → ℕ) → ℕ → Bool
equal₃ f g k = all (λ i. equal₂ (f (2 ^ i)) (g (2 ^ i)) k) k

pub agree₁ : (f g : ℕ → ℕ) → Linear f → Linear g → (k : ℕ) → T (equal f g k) → (a : ℕ) → a < 2 ^ k → f a ≡ g a
agree₁ f g lf lg k t = agree f g lf lg k (all-equal (λ i. f (2 ^ i)) (λ i. g (2 ^ i)) k t)

pub agree₂ : (f g : ℕ → ℕ → ℕ) → Bilinear f → Bilinear g → (k : ℕ) → T (equal₂ f g k) → (a b : ℕ) → a < 2 ^ k → b < 2 ^ k → f a b ≡ g a b
agree₂ f g lf lg k t a b ha hb =
    agree (λ x. f x b) (λ x. g x b) (lf.left b) (lg.left b) k
    (λ i hi.
    agree₁ (f (2 ^ i)) (g (2 ^ i)) (lf.right (2 ^ i)) (lg.right (2 ^ i)) k
    (all-at (λ x. equal (f (2 ^ x)) (g (2 ^ x)) k) k t i hi)
    b hb)
    a ha

pub agree₃ : (f g : ℕ → ℕ → ℕ → ℕ) → Trilinear f → Trilinear g → (k : ℕ) → T (equal₃ f g k)
    → (a b c : ℕ) → a < 2 ^ k → b < 2 ^ k → c < 2 ^ k → f a b c ≡ g a b c
agree₃ f g lf lg k t a b c ha hb hc =
    agree (λ x. f x b c) (λ x. g x b c) (lf.first b c) (lg.first b c) k
    (λ i hi.
    agree₂ (f (2 ^ i)) (g (2 ^ i)) (lf.rest (2 ^ i)) (lg.rest (2 ^ i)) k
    (all-at (λ x. equal₂ (f (2 ^ x)) (g (2 ^ x)) k) k t i hi)
    b c hb hc)
    a ha

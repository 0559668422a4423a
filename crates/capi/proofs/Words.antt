-- Shapes as numbers. In order: a shape there and back; a number there and back; a shape is refused as its number is; a number of more than 16 bits is
-- refused; a lost set of more than 16 bits.
use mathlib.Core.Path.{◌≡◌, sym, ap, ap₂, ◌∙◌}
use mathlib.Core.Bool.{Bool, cond, ◌||◌}
use mathlib.Core.Option.{some}
use Prim.Native.Nat.{ℕ, ◌+◌, ◌*◌, ◌/◌, ◌^◌, ◌<◌, ◌≤◌}
use native.Mathlib.Nat.{pow-le-pow_right}
use native.Mathlib.Decide.{dec_le}
use native.Mathlib.Omega.{arith}
use lib.Dec.{ltb}
use borrow.Author.Tests.{lt-ltb, le-ltb}
use Rattle.rules.specs.declared.shapes.Shape.{Shape}
use Rattle.rules.specs.Refusal.{shape_refusal}
use Rattle.rules.specs.Bench.{shape}
use Rattle.rules.proofs.Accepted.{not_bounds→refused}
use Rattle.rules.proofs.LostSets.{bits_below}
use Rattle.capi.specs.Word.{shape_of, word_of}

pub sum-shape : (n r : ℕ) → n ≤ 255 → shape_of (n + 256 * r) ≡ shape n r
sum-shape n r h = ap₂ shape (omega arith) (omega arith)

-- n and r as `word_of` tests them
pub word_is : (n r : ℕ) → n ≤ 255 → r ≤ 255 → word_of n r ≡ n + 256 * r
unfolding word_of
word_is n r h k = ap₂ (λ (b c : Bool). cond (b || c) 0 (n + 256 * r)) (le-ltb 255 n h) (le-ltb 255 r k)

pub word_large_n : (n r : ℕ) → 256 ≤ n → word_of n r ≡ 0
unfolding word_of
word_large_n n r h = ap (λ (b : Bool). cond (b || ltb 255 r) 0 (n + 256 * r)) (lt-ltb 255 n h)

pub word_large_r : (n r : ℕ) → n ≤ 255 → 256 ≤ r → word_of n r ≡ 0
unfolding word_of
word_large_r n r h k = ap₂ (λ (b c : Bool). cond (b || c) 0 (n + 256 * r)) (le-ltb 255 n h) (lt-ltb 255 r k)

pub word_shape : (n r : ℕ) → n ≤ 255 → r ≤ 255 → shape_of (word_of n r) ≡ record { n = n; r = r }
word_shape n r h k = ap shape_of (word_is n r h k) ∙ sum-shape n r h

-- a number is that of the shape that it says
pub shape-only : (x y : ℕ) → shape_of x ≡ shape_of y → x ≡ y
shape-only x y e = omega (arith, ap (λ (sh : Shape). sh.n) e, ap (λ (sh : Shape). sh.r) e)

large_refused : (n r : ℕ) → (n ≤ 255 → r ≤ 255 → ⊥) → word_of n r ≡ 0 → shape_refusal (shape_of (word_of n r)) ≡ shape_refusal (shape n r)
large_refused n r h e =
    ap (λ x. shape_refusal (shape_of x)) e
    ∙ not_bounds→refused (shape 0 0) (λ b. omega (arith, b.r-least))
    ∙ sym (not_bounds→refused (shape n r) (λ b. h (omega (arith, b.n-most)) (omega (arith, b.r-most))))

-- of all n and r: a bad shape is never made into an accepted one
pub word_refusal : (n r : ℕ) → shape_refusal (shape_of (word_of n r)) ≡ shape_refusal (record { n = n; r = r })
word_refusal n r = go (dec_le n 255) (dec_le r 255)
  where
    go : Dec (n ≤ 255) → Dec (r ≤ 255) → shape_refusal (shape_of (word_of n r)) ≡ shape_refusal (shape n r)
    go (yes h) (yes k) = ap shape_refusal (word_shape n r h k)
    go (yes h) (no k) = large_refused n r (λ a b. k b) (word_large_r n r h (omega arith))
    go (no h) d = large_refused n r (λ a b. h a) (word_large_n n r (omega arith))

pub higher_bits-refused : (x : ℕ) → 65536 ≤ x → shape_refusal (shape_of x) ≡ some 1
higher_bits-refused x h = not_bounds→refused (shape_of x) (λ b. omega (arith, b.r-most))

-- a number of more than 16 bits has one that is above every n
pub bits_above : (n lost : ℕ) → n ≤ 16 → 65535 < lost → lost / 2 ^ n ≡ 0 → ⊥
bits_above n lost h k e = let most : 2 ^ n ≤ 65536 = pow-le-pow_right {n = 2} (omega arith) h in omega (arith, bits_below n lost e, most)

-- What each function promises settles its result: two results that one promise allows are equal. And for each, two wrong answers that the promise rules out.
-- In order: `byte_at`, `lesser`, `add_multiple`, `clear`, `copy`.
use mathlib.Core.Path.{◌≡◌, sym, ap, ◌∙◌}
use mathlib.Core.List.{List, [], ◌∷◌}
use Prim.Native.Nat.{ℕ}
use native.Mathlib.Omega.{arith}
use lib.ListN.{get_or}
use lib.Seq.{ext_get_or}
use Rattle.field.specs.Number.{modulus, add, double, by_bits, mul}
use Rattle.columns.specs.Promise.{ByteIs, LesserIs, Multiplied, Cleared, CopiedOver}

pub byte-at_settled : (list : List ℕ) (j x y : ℕ) → ByteIs list j x → ByteIs list j y → x ≡ y
byte-at_settled list j x y p q = p.value ∙ sym q.value

-- past the end it is 0, and not the last byte
pub byte-at-last : ByteIs (7 ∷ []) 1 7 → ⊥
byte-at-last p = let e : ◌≡◌ {A = ℕ} 7 0 = p.value in omega arith

pub byte-at-zero : ByteIs (7 ∷ []) 0 0 → ⊥
byte-at-zero p = let e : ◌≡◌ {A = ℕ} 0 7 = p.value in omega arith

pub lesser_settled : (a b x y : ℕ) → LesserIs a b x → LesserIs a b y → x ≡ y
lesser_settled a b x y p q = p.value ∙ sym q.value

pub lesser_greater : LesserIs 2 3 3 → ⊥
lesser_greater p = let e : ◌≡◌ {A = ℕ} 3 2 = p.value in omega arith

pub lesser-first : LesserIs 3 2 3 → ⊥
lesser-first p = let e : ◌≡◌ {A = ℕ} 3 2 = p.value in omega arith

pub add_multiple_settled : (c : ℕ) (from before xs ys : List ℕ) → Multiplied c from before xs → Multiplied c from before ys → xs ≡ ys
add_multiple_settled c from before xs ys p q =
    ext_get_or 0 xs ys (p.same_length ∙ sym q.same_length) (λ j h. p.bytes j (omega (arith, p.same_length)) ∙ sym (q.bytes j (omega (arith, p.same_length))))

-- 3 + 2 × 142 is 2: nothing is left out, and the product is added
pub add_multiple_keeps : Multiplied 2 (142 ∷ []) (3 ∷ []) (3 ∷ []) → ⊥
unfolding mul by_bits double add modulus
add_multiple_keeps p = let e : ◌≡◌ {A = ℕ} 3 2 = p.bytes 0 (omega arith) in omega arith

pub add_multiple_stores : Multiplied 2 (142 ∷ []) (3 ∷ []) (1 ∷ []) → ⊥
unfolding mul by_bits double add modulus
add_multiple_stores p = let e : ◌≡◌ {A = ℕ} 1 2 = p.bytes 0 (omega arith) in omega arith

-- where `from` is short, the rest is kept
pub add_multiple_clears : Multiplied 2 [] (3 ∷ []) (0 ∷ []) → ⊥
unfolding mul by_bits double add modulus
add_multiple_clears p = let e : ◌≡◌ {A = ℕ} 0 3 = p.bytes 0 (omega arith) in omega arith

pub clear_settled : (before xs ys : List ℕ) → Cleared before xs → Cleared before ys → xs ≡ ys
clear_settled before xs ys p q =
    ext_get_or 0 xs ys (p.same_length ∙ sym q.same_length) (λ j h. p.bytes j (omega (arith, p.same_length)) ∙ sym (q.bytes j (omega (arith, p.same_length))))

pub clear_keeps : Cleared (7 ∷ []) (7 ∷ []) → ⊥
clear_keeps p = let e : ◌≡◌ {A = ℕ} 7 0 = p.bytes 0 (omega arith) in omega arith

pub clear_shortens : Cleared (7 ∷ []) [] → ⊥
clear_shortens p = let e : ◌≡◌ {A = ℕ} 0 1 = p.same_length in omega arith

pub copy_settled : (from before xs ys : List ℕ) → CopiedOver from before xs → CopiedOver from before ys → xs ≡ ys
copy_settled from before xs ys p q = p.bytes ∙ sym q.bytes

pub copy_keeps : CopiedOver (5 ∷ []) (7 ∷ 8 ∷ []) (7 ∷ 8 ∷ []) → ⊥
copy_keeps p = let e : ◌≡◌ {A = ℕ} 7 5 = ap (λ list. get_or list 0 0) p.bytes in omega arith

-- where `from` is short, the rest is kept
pub copy_clears : CopiedOver (5 ∷ []) (7 ∷ 8 ∷ []) (5 ∷ 0 ∷ []) → ⊥
copy_clears p = let e : ◌≡◌ {A = ℕ} 0 8 = ap (λ list. get_or list 1 0) p.bytes in omega arith

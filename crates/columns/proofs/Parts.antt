-- A part of a buffer, lent on and given back: `s[a..e]` with e = a + l, byte by byte. In order: the part; the buffer with other bytes ys in its place: the
-- part, before it, inside and after it; the same where the part is a column of length l; an array of zeros, and its front; a front with the rest after it;
-- bytes copied over the front of a list.
use mathlib.Core.Path.{◌≡◌, refl, sym, ap, ◌∙◌}
use mathlib.Core.List.{List, ◌++◌}
use Prim.Native.Nat.{ℕ, zero, suc, ◌+◌, ◌-◌, ◌*◌, ◌<◌, ◌≤◌, compare, Ordering}
use native.Mathlib.Nat.{add-sub_cancel_left}
use native.Mathlib.Omega.{arith}
use Rattle.std.proofs.lemmas.List.{take_all}
use lib.ListN.{length, get_or, take, drop, replicate, length-append, length-drop, length-replicate, get_or-replicate, get_or-append}
use lib.Seq.{length-take-le, take_at, drop_at, get_or-take, get_or-drop, get_or-append-add, drop-drop, take-length}
use borrow.Rule.Slice.PartMut.{put_mid}
use Rattle.theory.specs.Pair.{Compared}
use Rattle.theory.proofs.Mates.{compare_says}
use Rattle.columns.specs.Promise.{CopiedOver}
use Rattle.columns.proofs.Kernels.{column-within, entry-within}

module _ (a l : ℕ) (xs : List ℕ) (fits : a + l ≤ length xs) where
  pub part_length : length (take (a + l - a) (drop a xs)) ≡ l
  part_length = rw add-sub_cancel_left (length-take-le l (drop a xs) (omega (arith, length-drop a xs)))

  pub part-byte : (j : ℕ) → j < l → get_or (take (a + l - a) (drop a xs)) j 0 ≡ get_or xs (a + j) 0
  part-byte j h = rw add-sub_cancel_left (get_or-take l (drop a xs) j 0 h ∙ get_or-drop a xs j 0)

  pub put-parts : (ys : List ℕ) → put_mid a (a + l - a) xs ys ≡ take a xs ++ (ys ++ drop (a + l) xs)
  put-parts ys = ap (λ zs. take a xs ++ (ys ++ zs)) (rw add-sub_cancel_left (drop-drop l a xs))

  module _ (ys : List ℕ) (same : length ys ≡ l) where
    front : length (take a xs) ≡ a
    front = length-take-le a xs (omega (arith, fits))

    pub put-part : take (a + l - a) (drop a (put_mid a (a + l - a) xs ys)) ≡ ys
    put-part =
        ap (λ k. take k (drop a (put_mid a (a + l - a) xs ys))) (add-sub_cancel_left a l)
        ∙ ap (take l) (drop_at (take a xs) _ a front)
        ∙ take_at ys _ l same

    pub put-before : (k : ℕ) → k < a → get_or (put_mid a (a + l - a) xs ys) k 0 ≡ get_or xs k 0
    put-before k h =
        rw (put-parts ys)
        (get_or-append (take a xs) (ys ++ drop (a + l) xs) 0 k (omega (arith, front)) ∙ get_or-take a xs k 0 h)

    past : (j : ℕ) → get_or (put_mid a (a + l - a) xs ys) (a + j) 0 ≡ get_or (ys ++ drop (a + l) xs) j 0
    past j =
        rw (put-parts ys)
        (ap (λ k. get_or (take a xs ++ (ys ++ drop (a + l) xs)) (k + j) 0) (sym front) ∙ get_or-append-add (take a xs) (ys ++ drop (a + l) xs) j 0)

    pub put-inside : (j : ℕ) → j < l → get_or (put_mid a (a + l - a) xs ys) (a + j) 0 ≡ get_or ys j 0
    put-inside j h = past j ∙ get_or-append ys (drop (a + l) xs) 0 j (omega (arith, same))

    pub put-after : (k : ℕ) → a + l ≤ k → get_or (put_mid a (a + l - a) xs ys) k 0 ≡ get_or xs k 0
    put-after k h =
        ap (λ i. get_or (put_mid a (a + l - a) xs ys) i 0) (omega arith)
        ∙ past (l + (k - (a + l)))
        ∙ ap (λ i. get_or (ys ++ drop (a + l) xs) (i + (k - (a + l))) 0) (sym same)
        ∙ get_or-append-add ys (drop (a + l) xs) (k - (a + l)) 0
        ∙ get_or-drop (a + l) xs (k - (a + l)) 0
        ∙ ap (λ i. get_or xs i 0) (omega arith)

    pub put-length : length (put_mid a (a + l - a) xs ys) ≡ length xs
    put-length =
        rw (put-parts ys)
        (length-append (take a xs) (ys ++ drop (a + l) xs)
        ∙ omega (arith, front, same, length-append ys (drop (a + l) xs), length-drop (a + l) xs, fits))

-- two parts of the length l are equally long
pub parts_as_long : (l p q : ℕ) (xs ys : List ℕ) → p + l ≤ length xs → q + l ≤ length ys
    → length (take (p + l - p) (drop p xs)) ≡ length (take (q + l - q) (drop q ys))
parts_as_long l p q xs ys h k = part_length p l xs h ∙ sym (part_length q l ys k)

module _ (l p : ℕ) (xs : List ℕ) (fits : p * l + l ≤ length xs) (ys : List ℕ) (same : length ys ≡ l) where
  pub column-put : (a : ℕ) → a < l → get_or (put_mid (p * l) (p * l + l - p * l) xs ys) (p * l + a) 0 ≡ get_or ys a 0
  column-put a h = put-inside (p * l) l xs fits ys same a h

  pub column-put-other : (i a : ℕ) → (i ≡ p → ⊥) → a < l → get_or (put_mid (p * l) (p * l + l - p * l) xs ys) (i * l + a) 0 ≡ get_or xs (i * l + a) 0
  column-put-other i a ne h = go (compare i p) (compare_says i p)
    where
      go : (o : Ordering) → Compared o i p → get_or (put_mid (p * l) (p * l + l - p * l) xs ys) (i * l + a) 0 ≡ get_or xs (i * l + a) 0
      go Ordering.lt k = put-before (p * l) l xs fits ys same (i * l + a) (entry-within k h)
      go Ordering.eq e = absurd (ne e)
      go Ordering.gt k = put-after (p * l) l xs fits ys same (i * l + a) (omega (arith, column-within l k))

  pub column-put-length : length (put_mid (p * l) (p * l + l - p * l) xs ys) ≡ length xs
  column-put-length = put-length (p * l) l xs fits ys same

-- a row of zeros has 0 everywhere, past its end too
pub zeros-at : (k j : ℕ) → get_or (replicate {A = ℕ} k 0) j 0 ≡ 0
zeros-at zero j = refl
zeros-at (suc k) zero = refl
zeros-at (suc k) (suc j) = zeros-at k j

-- as many zeros as are asked of a longer row of them
module _ (n k : ℕ) (few : n ≤ k) where
  pub zeros-length : length (take n (replicate {A = ℕ} k 0)) ≡ n
  zeros-length = length-take-le n (replicate {A = ℕ} k 0) (omega (arith, few, length-replicate {A = ℕ} k 0))

  pub zeros-byte : (j : ℕ) → j < n → get_or (take n (replicate {A = ℕ} k 0)) j 0 ≡ 0
  zeros-byte j h = get_or-take n (replicate {A = ℕ} k 0) j 0 h ∙ get_or-replicate k j 0 0 (omega (arith, few, h))

-- what is written to the front of an array, with the rest after it
module _ (xs rest : List ℕ) (n : ℕ) (exact : length xs ≡ n) where
  pub front_fits : n ≤ length (xs ++ rest)
  front_fits = omega (arith, exact, length-append xs rest)

  pub front_length : length (take n (xs ++ rest)) ≡ n
  front_length = ap length (take_at xs rest n exact) ∙ exact

-- all that is copied stands at the front, with the rest of a longer list after it
pub copied-over : {from before later : List ℕ} → length from ≤ length before → CopiedOver from before later
    → later ≡ take (length from) from ++ drop (length from) before
copied-over {from} {before} fits copied =
    copied.bytes ∙ ap (λ xs. xs ++ drop (length from) before) (take_all (length before) from fits ∙ sym (take-length from))

-- Laws of lists of numbers in rising order. In order: clauses; what is listed; tests that agree, that nothing passes; a list cut in two;
-- the length is the count; where a number stands in its list.
use mathlib.Core.Path.{◌≡◌, refl, sym, ap, ap₂, ◌∙◌}
use mathlib.Core.Bool.{Bool, true, false, cond}
use mathlib.Core.List.{List, [], ◌∷◌, ◌++◌, map, append-nil, append_assoc, map-append}
use mathlib.Core.Logic.{◌⊎◌, inl, inr}
use Prim.Native.Nat.{ℕ, zero, suc, ◌+◌, ◌-◌, ◌<◌}
use native.Mathlib.Nat.{add-zero, add-suc, add-sub_of_le, eq-or-lt_of_le, le_of_suc-le-suc, not-suc-le-zero}
use native.Mathlib.Omega.{arith}
use lib.ListN.{length, get_or, length-append}
use lib.Seq.{get_or-append_seam}
use Rattle.theory.specs.Set.{one_if, count}
use Rattle.theory.proofs.Counts.{count-zero, count-suc}
use Rattle.rules.specs.Rising.{rising, Listed}

pub rising-zero : (L : ℕ → Bool) → rising 0 L ≡ []
unfolding rising
rising-zero L = refl

pub rising-suc : (n : ℕ) (L : ℕ → Bool) → rising (suc n) L ≡ rising n L ++ cond (L n) (n ∷ []) []
unfolding rising
rising-suc n L = refl

pub rising-take : (n : ℕ) (L : ℕ → Bool) → L n ≡ true → rising (suc n) L ≡ rising n L ++ (n ∷ [])
rising-take n L e = rising-suc n L ∙ ap (λ b. rising n L ++ cond b (n ∷ []) []) e

pub rising_skip : (n : ℕ) (L : ℕ → Bool) → L n ≡ false → rising (suc n) L ≡ rising n L
rising_skip n L e = rising-suc n L ∙ ap (λ b. rising n L ++ cond b (n ∷ []) []) e ∙ append-nil (rising n L)

pub listed-left : (a : ℕ) (l k : List ℕ) → Listed a l → Listed a (l ++ k)
listed-left a [] k h = absurd h
listed-left a (b ∷ l) k (inl e) = inl e
listed-left a (b ∷ l) k (inr h) = inr (listed-left a l k h)

pub listed-right : (a : ℕ) (l k : List ℕ) → Listed a k → Listed a (l ++ k)
listed-right a [] k h = h
listed-right a (b ∷ l) k h = inr (listed-right a l k h)

pub listed-append : (a : ℕ) (l k : List ℕ) → Listed a (l ++ k) → Listed a l ⊎ Listed a k
listed-append a [] k h = inr h
listed-append a (b ∷ l) k (inl e) = inl (inl e)
listed-append a (b ∷ l) k (inr h) = go (listed-append a l k h)
  where
    go : Listed a l ⊎ Listed a k → Listed a (b ∷ l) ⊎ Listed a k
    go (inl m) = inl (inr m)
    go (inr m) = inr m

pub rising→listed : (n : ℕ) (L : ℕ → Bool) (a : ℕ) → a < n → L a ≡ true → Listed a (rising n L)
rising→listed zero L a h e = absurd (not-suc-le-zero h)
rising→listed (suc n) L a h e = go (eq-or-lt_of_le (le_of_suc-le-suc h)) (λ l. rising→listed n L a l e)
  where
    go : (a ≡ n) ⊎ (a < n) → (a < n → Listed a (rising n L)) → Listed a (rising (suc n) L)
    go (inl q) ih = rw (rising-take n L (ap L (sym q) ∙ e)) (listed-right a (rising n L) (n ∷ []) (inl q))
    go (inr l) ih = rw rising-suc (listed-left a (rising n L) (cond (L n) (n ∷ []) []) (ih l))

listed-one : (a n : ℕ) (b : Bool) → Listed a (cond b (n ∷ []) []) → (a ≡ n) × (b ≡ true)
listed-one a n true (inl e) = (e, refl)
listed-one a n true (inr h) = absurd h
listed-one a n false h = absurd h

pub listed→rising : (n : ℕ) (L : ℕ → Bool) (a : ℕ) → Listed a (rising n L) → (a < n) × (L a ≡ true)
listed→rising zero L a h = absurd (rw rising-zero at h)
listed→rising (suc n) L a h = go (listed-append a (rising n L) (cond (L n) (n ∷ []) []) (rw rising-suc at h)) (listed→rising n L a)
  where
    go : Listed a (rising n L) ⊎ Listed a (cond (L n) (n ∷ []) []) → (Listed a (rising n L) → (a < n) × (L a ≡ true)) → (a < suc n) × (L a ≡ true)
    go (inl l) ih = let r = ih l in (omega arith, r.1)
    go (inr l) ih = let r = listed-one a n (L n) l in (omega arith, ap L r.0 ∙ r.1)

pub rising_ext : (n : ℕ) (L M : ℕ → Bool) → ((a : ℕ) → a < n → L a ≡ M a) → rising n L ≡ rising n M
rising_ext zero L M h = rising-zero L ∙ sym (rising-zero M)
rising_ext (suc n) L M h =
    rising-suc n L
    ∙ ap₂ (λ (l : List ℕ) (b : Bool). l ++ cond b (n ∷ []) []) (rising_ext n L M (λ a l. h a (omega arith))) (h n (omega arith))
    ∙ sym (rising-suc n M)

pub rising_none : (n : ℕ) (L : ℕ → Bool) → ((a : ℕ) → a < n → L a ≡ false) → rising n L ≡ []
rising_none zero L h = rising-zero L
rising_none (suc n) L h = rising_skip n L (h n (omega arith)) ∙ rising_none n L (λ a l. h a (omega arith))

map_one_if : (n k : ℕ) (b : Bool) → map (λ j. n + j) (cond b (k ∷ []) []) ≡ cond b ((n + k) ∷ []) []
map_one_if n k true = refl
map_one_if n k false = refl

pub rising-add : (n k : ℕ) (L : ℕ → Bool) → rising (n + k) L ≡ rising n L ++ map (λ j. n + j) (rising k (λ j. L (n + j)))
rising-add n zero L = simp (add-zero, rising-zero, append-nil)
rising-add n (suc k) L = simp (add-suc, rising-suc, rising-add n k L, map-append, map_one_if, append_assoc)

pub length-rising : (n : ℕ) (L : ℕ → Bool) → length (rising n L) ≡ count n L
length-rising zero L = simp (rising-zero, count-zero)
length-rising (suc n) L = simp (rising-suc, length-append, count-suc, length-rising n L, one (L n))
  where
    one : (b : Bool) → length (cond b (n ∷ []) []) ≡ one_if b
    one true = refl
    one false = refl

-- a number that passes stands behind those below it that pass
pub get_or_rising : (n : ℕ) (L : ℕ → Bool) (a : ℕ) → a < n → L a ≡ true → get_or (rising n L) (count a L) 0 ≡ a
get_or_rising n L a h e =
    ap₂ (λ (l : List ℕ) (j : ℕ). get_or l j 0) (split (add-sub_of_le h)) (sym (length-rising a L))
    ∙ get_or-append_seam (rising a L) a rest 0
  where
    rest : List ℕ
    rest = map (λ j. suc a + j) (rising (n - suc a) (λ j. L (suc a + j)))

    split : suc a + (n - suc a) ≡ n → rising n L ≡ rising a L ++ a ∷ rest
    split q =
        ap (λ k. rising k L) (sym q) ∙ rising-add (suc a) (n - suc a) L
        ∙ ap (λ (l : List ℕ). l ++ rest) (rising-take a L e)
        ∙ append_assoc (rising a L) (a ∷ []) rest

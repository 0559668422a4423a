-- Laws of counting. In order: clauses; a function changed at one place, a set less one; equal and nested sets, none and all; two sets that differ at
-- one place; a set cut in two; a member and a number outside; lists; a wider bound; a set made bigger.
use mathlib.Core.Path.{◌≡◌, refl, sym, ap, ◌∙◌}
use mathlib.Core.Logic.{◌⊎◌, inl, inr}
use mathlib.Core.Bool.{Bool, true, false, cond, not, ◌&&◌, true≢false, false≢true}
use Prim.Native.Nat.{ℕ, zero, suc, ◌+◌, ◌-◌, ◌≤◌, ◌<◌}
use native.Mathlib.Nat.{add-sub_of_le, add-suc, add-zero, eq-or-lt_of_le, le_of_suc-le-suc, lt_of_not-le}
use native.Mathlib.Numerals.{add-one}
use native.Mathlib.Omega.{arith}
use native.Mathlib.Decide.{ℕ_discrete}
use lib.Arith.{lt_of_le-ne}
use borrow.Author.Tests.{eq-eqb, ne_eqb, not-true}
use Rattle.theory.specs.Set.{one_if, count, changed, without, Lists, Grown}

pub count-zero : (L : ℕ → Bool) → count 0 L ≡ 0
unfolding count
count-zero L = refl

pub count-suc : (n : ℕ) (L : ℕ → Bool) → count (suc n) L ≡ count n L + one_if (L n)
unfolding count
count-suc n L = refl

module _ {A : Type 0} where
  pub changed-same : (j : ℕ) (x : A) (f : ℕ → A) → changed j x f j ≡ x
  unfolding changed
  changed-same j x f = ap (λ b. cond b x (f j)) (eq-eqb j j refl)

  pub changed-other : (j : ℕ) (x : A) (f : ℕ → A) (i : ℕ) → (i ≡ j → ⊥) → changed j x f i ≡ f i
  unfolding changed
  changed-other j x f i ne = ap (λ b. cond b x (f i)) (ne_eqb i j ne)

  -- what holds of x, if i is j, and of f i, if it is not, holds of the changed function at i
  pub changed_case : (P : A → Type 0) (j : ℕ) (x : A) (f : ℕ → A) (i : ℕ) → (i ≡ j → P x) → ((i ≡ j → ⊥) → P (f i)) → P (changed j x f i)
  changed_case P j x f i h k = go (ℕ_discrete i j)
    where
      go : Dec (i ≡ j) → P (changed j x f i)
      go (yes e) = rw (e, changed-same) (h e)
      go (no ne) = rw (changed-other j x f i ne) (k ne)

pub without-member : (j : ℕ) (L : ℕ → Bool) (i : ℕ) → without j L i ≡ true → (i ≡ j → ⊥) × (L i ≡ true)
without-member j L i =
    changed_case (λ b. b ≡ true → (i ≡ j → ⊥) × (L i ≡ true)) j false L i (λ q r. absurd (false≢true r)) (λ ne r. (ne, r))

pub one_if_le : (b : Bool) → one_if b ≤ 1
one_if_le true = omega arith
one_if_le false = omega arith

one_if_mono : (b c : Bool) → (b ≡ true → c ≡ true) → one_if b ≤ one_if c
one_if_mono false c h = omega arith
one_if_mono true c h = rw (h refl) (omega arith)

pub count_ext : (n : ℕ) (L M : ℕ → Bool) → ((i : ℕ) → i < n → L i ≡ M i) → count n L ≡ count n M
count_ext zero L M h = simp count-zero
count_ext (suc n) L M h = simp (count-suc, count_ext n L M (λ i l. h i (omega arith)), h n (omega arith))

pub count_le : (n : ℕ) (L : ℕ → Bool) → count n L ≤ n
count_le zero L = simp count-zero (omega arith)
count_le (suc n) L = simp count-suc (omega (arith, count_le n L, one_if_le (L n)))

pub count_mono : (n : ℕ) (L M : ℕ → Bool) → ((i : ℕ) → i < n → L i ≡ true → M i ≡ true) → count n L ≤ count n M
count_mono zero L M h = simp count-zero (omega arith)
count_mono (suc n) L M h = simp count-suc (omega (arith, count_mono n L M (λ i l. h i (omega arith)), one_if_mono (L n) (M n) (h n (omega arith))))

pub count_none : (n : ℕ) (L : ℕ → Bool) → ((i : ℕ) → i < n → L i ≡ false) → count n L ≡ 0
count_none zero L h = count-zero L
count_none (suc n) L h = simp (count-suc, count_none n L (λ i l. h i (omega arith)), h n (omega arith))

pub count-all : (n : ℕ) (L : ℕ → Bool) → ((i : ℕ) → i < n → L i ≡ true) → count n L ≡ n
count-all zero L h = count-zero L
count-all (suc n) L h = simp (count-suc, count-all n L (λ i l. h i (omega arith)), h n (omega arith)) (omega arith)

-- two sets that agree but at j
pub count_change : (n j : ℕ) (P Q : ℕ → Bool) → j < n → ((i : ℕ) → i < n → (i ≡ j → ⊥) → P i ≡ Q i)
    → count n P + one_if (Q j) ≡ count n Q + one_if (P j)
count_change zero j P Q l h = absurd (omega arith)
count_change (suc n) j P Q l h = go (eq-or-lt_of_le (le_of_suc-le-suc l)) (λ k. count_change n j P Q k (λ i m ne. h i (omega arith) ne))
  where
    go : (j ≡ n) ⊎ (j < n) → (j < n → count n P + one_if (Q j) ≡ count n Q + one_if (P j))
        → count (suc n) P + one_if (Q j) ≡ count (suc n) Q + one_if (P j)
    go (inl e) ih = simp (count-suc, e) (omega (arith, count_ext n P Q (λ i m. h i (omega arith) (omega arith))))
    go (inr k) ih = simp (count-suc, h n (omega arith) (omega arith)) (omega (arith, ih k))

pub count_with : (n j : ℕ) (L : ℕ → Bool) → j < n → L j ≡ false → count n (changed j true L) ≡ suc (count n L)
count_with n j L l h =
    omega (arith, simp (changed-same, h) at (count_change n j (changed j true L) L l (λ i m ne. changed-other j true L i ne)))

pub count_remove : (n j : ℕ) (L : ℕ → Bool) → j < n → L j ≡ true → count n L ≡ suc (count n (without j L))
count_remove n j L l h =
    omega (arith, simp (changed-same, h) at (count_change n j (without j L) L l (λ i m ne. changed-other j false L i ne)))

pub count-split : (a b : ℕ) (L : ℕ → Bool) → count (a + b) L ≡ count a L + count b (λ i. L (a + i))
count-split a zero L = simp (add-zero, count-zero)
count-split a (suc b) L = simp (add-suc, count-suc, count-split a b L) (omega arith)

pub count_add : (n : ℕ) (L M : ℕ → Bool) → count n L ≡ count n (λ i. L i && M i) + count n (λ i. L i && not (M i))
count_add zero L M = simp (count-zero, add-zero)
count_add (suc n) L M = simp count-suc (omega (arith, count_add n L M, one (L n) (M n)))
  where
    one : (b c : Bool) → one_if b ≡ one_if (b && c) + one_if (b && not c)
    one true true = refl
    one true false = refl
    one false c = refl

pub count_pos : (n : ℕ) (L : ℕ → Bool) → 0 < count n L → (i : ℕ) × (i < n) × (L i ≡ true)
count_pos zero L h = absurd (omega (arith, count-zero L))
count_pos (suc n) L h = go (L n) refl (count_pos n L)
  where
    go : (b : Bool) → L n ≡ b → (0 < count n L → (i : ℕ) × (i < n) × (L i ≡ true)) → (i : ℕ) × (i < suc n) × (L i ≡ true)
    go true e ih = (n, omega arith, e)
    go false e ih = let r = ih (omega (arith, simp (count-suc, e) at h)) in (r.0, omega arith, r.2)

-- a set that is not all has a number outside it
pub count_room : (n : ℕ) (L : ℕ → Bool) → count n L < n → (i : ℕ) × (i < n) × (L i ≡ false)
count_room n L h = (free.0, free.1, not-true (L free.0) free.2)
  where
    free : (i : ℕ) × (i < n) × (not (L i) ≡ true)
    free = count_pos n (λ i. not (L i)) (omega (arith, count_add n (λ i. true) L, count-all n (λ i. true) (λ i l. refl)))

pub lists-less : (n : ℕ) (L : ℕ → Bool) (k : ℕ) (e : ℕ → ℕ) → Lists n L (suc k) e → Lists n (without (e k) L) k e
lists-less n L k e l = record {
  below = λ j m. l.below j (omega arith);
  inside = λ j m. changed-other (e k) false L (e j) (λ q. absurd (omega (arith, l.once j k (omega arith) (omega arith) q))) ∙ l.inside j (omega arith);
  once = λ i j a b. l.once i j (omega arith) (omega arith);
  all = λ i m q. go i (without-member (e k) L i q) m;
}
  where
    go : (i : ℕ) → (i ≡ e k → ⊥) × (L i ≡ true) → i < n → (j : ℕ) × (j < k) × (e j ≡ i)
    go i w m = let x = l.all i m w.1 in (x.0, lt_of_le-ne (omega arith) (λ p. w.0 (sym x.2 ∙ ap e p)), x.2)

pub lists-count : (n : ℕ) (L : ℕ → Bool) (k : ℕ) (e : ℕ → ℕ) → Lists n L k e → count n L ≡ k
lists-count n L zero e l = count_none n L (λ i h. go i h (L i) refl)
  where
    go : (i : ℕ) → i < n → (b : Bool) → L i ≡ b → b ≡ false
    go i h false q = refl
    go i h true q = let x = l.all i h q in absurd (omega arith)
lists-count n L (suc k) e l =
    count_remove n (e k) L (l.below k (omega arith)) (l.inside k (omega arith)) ∙ ap suc (lists-count n (without (e k) L) k e (lists-less n L k e l))

-- one more number n, out of the set or in it
pub lists_skip : (n : ℕ) (L : ℕ → Bool) (k : ℕ) (e : ℕ → ℕ) → L n ≡ false → Lists n L k e → Lists (suc n) L k e
lists_skip n L k e h l = record {
  below = λ j m. omega (arith, l.below j m);
  inside = l.inside;
  once = l.once;
  all = λ i m q. l.all i (lt_of_le-ne (omega arith) (λ p. true≢false (sym q ∙ ap L p ∙ h))) q;
}

pub lists_more : (n : ℕ) (L : ℕ → Bool) (k : ℕ) (e : ℕ → ℕ) → L n ≡ true → Lists n L k e → Lists (suc n) L (suc k) (changed k n e)
lists_more n L k e h l = record {
  below = λ j m. changed_case (λ y. y < suc n) k n e j (λ q. omega arith) (λ ne. omega (arith, l.below j (omega arith)));
  inside = λ j m. changed_case (λ y. L y ≡ true) k n e j (λ q. h) (λ ne. l.inside j (omega arith));
  once = λ i j a b.
      changed_case (λ y. y ≡ changed k n e j → i ≡ j) k n e i
      (λ p. changed_case (λ z. n ≡ z → i ≡ j) k n e j (λ q r. omega arith) (λ ne r. absurd (omega (arith, l.below j (omega arith)))))
      (λ p. changed_case (λ z. e i ≡ z → i ≡ j) k n e j (λ q r. absurd (omega (arith, l.below i (omega arith)))) (λ ne r. l.once i j (omega arith) (omega arith) r));
  all = λ i m q. go i q (eq-or-lt_of_le (le_of_suc-le-suc m));
}
  where
    go : (i : ℕ) → L i ≡ true → (i ≡ n) ⊎ (i < n) → (j : ℕ) × (j < suc k) × (changed k n e j ≡ i)
    go i q (inl p) = (k, omega arith, changed-same k n e ∙ sym p)
    go i q (inr m) = let x = l.all i m q in (x.0, omega arith, changed-other k n e x.0 (omega arith) ∙ x.2)

pub lists : (n : ℕ) (L : ℕ → Bool) → (e : ℕ → ℕ) × Lists n L (count n L) e
lists zero L = (
  λ j. j,
  rw count-zero (record {
    below = λ j m. m;
    inside = λ j m. absurd (omega arith);
    once = λ i j a b q. q;
    all = λ i m q. absurd (omega arith);
  }),
)
lists (suc n) L = go (L n) refl (lists n L)
  where
    go : (b : Bool) → L n ≡ b → (e : ℕ → ℕ) × Lists n L (count n L) e → (e : ℕ → ℕ) × Lists (suc n) L (count (suc n) L) e
    go true h l = (changed (count n L) n l.0, rw (count-suc, h, add-one) (lists_more n L (count n L) l.0 h l.1))
    go false h l = (l.0, rw (count-suc, h, add-zero) (lists_skip n L (count n L) l.0 h l.1))

-- cut in two at n
count_cut : (n k : ℕ) (L : ℕ → Bool) → n ≤ k → count k L ≡ count n L + count (k - n) (λ i. L (n + i))
count_cut n k L l = ap (λ j. count j L) (sym (add-sub_of_le l)) ∙ count-split n (k - n) L

pub count_up : (n k : ℕ) (L : ℕ → Bool) → n ≤ k → count n L ≤ count k L
count_up n k L l = omega (arith, count_cut n k L l)

-- a set that has nothing from n on
pub count-beyond : (n k : ℕ) (L : ℕ → Bool) → ((i : ℕ) → n ≤ i → L i ≡ false) → n ≤ k → count k L ≡ count n L
count-beyond n k L h l =
    omega (arith, count_cut n k L l, count_none (k - n) (λ i. L (n + i)) (λ i m. h (n + i) (omega arith)))

-- such a set's list serves for every wider bound
pub lists-wider : (n n' : ℕ) (L : ℕ → Bool) (k : ℕ) (e : ℕ → ℕ) → ((i : ℕ) → n ≤ i → L i ≡ false) → n ≤ n' → Lists n L k e → Lists n' L k e
lists-wider n n' L k e h w l = record {
  below = λ j m. omega (arith, l.below j m);
  inside = l.inside;
  once = l.once;
  all = λ i m q. l.all i (lt_of_not-le (λ p. true≢false (sym q ∙ h i p))) q;
}

-- a set made bigger, by one number at a time
grow-one : (n r j : ℕ) (L M : ℕ → Bool) → j < n → Grown n r (changed j true L) M → Grown n r L M
grow-one n r j L M h g = record {
  holds = λ i m. g.holds i (changed_case (λ b. b ≡ true) j true L i (λ q. refl) (λ ne. m));
  exact = g.exact;
  beyond = λ i m. g.beyond i m ∙ changed-other j true L i (omega arith);
}

grow_by : (d n r : ℕ) (L : ℕ → Bool) → count n L + d ≡ r → r ≤ n → (M : ℕ → Bool) × Grown n r L M
grow_by zero n r L h k = (L, record { holds = λ i m. m; exact = omega arith; beyond = λ i m. refl })
grow_by (suc d) n r L h k =
    let (j, l, out) = count_room n L (omega arith) in
    let (M, g) = grow_by d n r (changed j true L) (omega (arith, count_with n j L l out)) k in
    (M, grow-one n r j L M l g)

pub grow : (n r : ℕ) (L : ℕ → Bool) → count n L ≤ r → r ≤ n → (M : ℕ → Bool) × Grown n r L M
grow n r L h k = grow_by (r - count n L) n r L (omega arith) k

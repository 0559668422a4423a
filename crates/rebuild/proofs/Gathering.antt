-- Laws of the running sums. In order: an equation of a sum of symbols; the symbols gathered so far, one helper more, the failed node, all; the sums of them;
-- where fractions stand.
use mathlib.Core.Path.{◌≡◌, refl, sym, ap, ap₂, ◌∙◌, fun_ext}
use mathlib.Core.Bool.{Bool, true, false, cond, not}
use mathlib.Core.List.{List, []}
use mathlib.Core.Logic.{◌⊎◌, inl, inr}
use Prim.Native.Nat.{ℕ, suc, ◌+◌, ◌-◌, ◌*◌, ◌<◌, ◌≤◌}
use native.Mathlib.Decide.{ℕ_discrete}
use native.Mathlib.Nat.{mul-le-mul, mul-le-mul_right}
use native.Mathlib.Omega.{arith}
use lib.Dec.{eqb, ltb}
use lib.ListN.{length, get_or, take, replicate}
use borrow.Author.Tests.{eq-eqb, ne_eqb, lt-ltb, le-ltb, ltb-true, ltb-false}
use Rattle.theory.specs.Code.{plus}
use Rattle.theory.proofs.Linearity.{equation_ext, equation-add}
use Rattle.field.specs.Number.{add}
use Rattle.field.proofs.Xor.{zero-add, add-zero, add_self, add-below}
use Rattle.field.proofs.Numbers.{numbers, number, number-add, number_injective}
use Rattle.rules.specs.declared.shapes.Shape.{Shape}
use Rattle.rules.specs.Rising.{rising}
use Rattle.rules.specs.declared.shapes.Sizes.{Sizes}
use Rattle.rules.specs.Shape.{group_size, phantom}
use Rattle.rules.specs.Stripe.{Symbols}
use Rattle.rules.specs.Equation.{equation}
use Rattle.rules.specs.Fraction.{is_read, rows_read, fraction_length, helper_before, fraction_of, arrived, alone}
use Rattle.rules.proofs.Accepted.{Bounds, bounds}
use Rattle.rules.proofs.RowsRead.{fraction-times}
use Rattle.rules.proofs.House.{code, stripe}
use Rattle.rules.proofs.Ties.{equation_tie, equation-below}
use Rattle.columns.proofs.Kernels.{entry-within}
use Rattle.columns.proofs.Parts.{zeros-length, zeros-byte}
use Rattle.fractions.specs.Promise.{Added}
use Rattle.fractions.proofs.Alone.{alone-other}
use Rattle.fractions.proofs.Positions.{lt_or_gt}
use Rattle.rebuild.specs.Kernel.{gathered, SumsAre}

module _ (sh : Shape) (b : Bounds sh) where
  -- what nodes hold counts, and they count from 1
  equation-plus : (C D E : Symbols) (a t : ℕ) → ((k c : ℕ) → E (suc k) c ≡ add (C (suc k) c) (D (suc k) c))
      → equation sh E a t ≡ add (equation sh C a t) (equation sh D a t)
  equation-plus C D E a t h =
      number_injective _ _ (equation-below sh E a t) (add-below 8 _ _ (equation-below sh C a t) (equation-below sh D a t))
      (equation_tie sh b E a t
      ∙ equation_ext (code sh) (stripe sh E) (plus (code sh) (stripe sh C) (stripe sh D)) a t (λ i l. same i a) (λ i l. same _ _)
      ∙ equation-add (code sh) (stripe sh C) (stripe sh D) a t
      ∙ sym (number-add _ _ ∙ ap₂ numbers.add (equation_tie sh b C a t) (equation_tie sh b D a t)))
    where
      same : (i c : ℕ) → stripe sh E i c ≡ numbers.add (stripe sh C i c) (stripe sh D i c)
      same i c = ap number (h i c) ∙ number-add _ _

  -- zeros are twice themselves
  equation-none : (C : Symbols) (a t : ℕ) → ((k c : ℕ) → C (suc k) c ≡ 0) → equation sh C a t ≡ 0
  equation-none C a t h =
      equation-plus C C C a t (λ k c. h k c ∙ sym (ap₂ add (h k c) (h k c) ∙ zero-add 0)) ∙ add_self (equation sh C a t)

-- a helper's symbols are its fraction alone
arrived_helper : (sh : Shape) (f : ℕ) (fractions col : List ℕ) (i a : ℕ) → (i ≡ f → ⊥) → i ≤ sh.n
    → arrived sh f fractions col i a ≡ alone sh f i (fraction_of sh f fractions i) i a
unfolding arrived alone phantom
arrived_helper sh f fractions col i a ne h = rw (ne_eqb i f ne, le-ltb sh.n i h, eq-eqb i i refl) (go (is_read sh f a))
  where
    go : (r : Bool) → cond (not r) 0 (get_or (fraction_of sh f fractions i) (length (rising a (is_read sh f))) 0)
        ≡ cond r (get_or (fraction_of sh f fractions i) (length (rising a (is_read sh f))) 0) 0
    go true = refl
    go false = refl

arrived-failed : (sh : Shape) (f : ℕ) (fractions : List ℕ) (a : ℕ) → arrived sh f fractions [] f a ≡ 0
unfolding arrived
arrived-failed sh f fractions a = rw (eq-eqb f f refl)

arrived-phantom : (sh : Shape) (f : ℕ) (fractions : List ℕ) (k a : ℕ) → sh.n < k → arrived sh f fractions [] k a ≡ 0
unfolding arrived phantom
arrived-phantom sh f fractions k a h = rw (lt-ltb sh.n k h) (go (eqb k f))
  where
    go : (e : Bool) → cond {A = ℕ} e 0 0 ≡ 0
    go true = refl
    go false = refl

module _ (sh : Shape) (f : ℕ) (fractions : List ℕ) where
  gathered_in : (i k a : ℕ) → k < i → gathered sh f fractions i k a ≡ arrived sh f fractions [] k a
  unfolding gathered
  gathered_in i k a h = rw (lt-ltb k i h)

  gathered-out : (i k a : ℕ) → i ≤ k → gathered sh f fractions i k a ≡ 0
  unfolding gathered
  gathered-out i k a h = rw (le-ltb k i h)

  -- below node i, at it, above it
  cases : (i k a : ℕ) (x : ℕ) → (k ≡ i → add 0 x ≡ arrived sh f fractions [] k a) → ((k ≡ i → ⊥) → x ≡ 0)
      → gathered sh f fractions (i + 1) k a ≡ add (gathered sh f fractions i k a) x
  cases i k a x here away = go (ℕ_discrete k i)
    where
      side : (k ≡ i → ⊥) → (k < i) ⊎ (i < k) → gathered sh f fractions (i + 1) k a ≡ add (gathered sh f fractions i k a) x
      side ne (inl l) =
          gathered_in (i + 1) k a (omega (arith, l)) ∙ sym (gathered_in i k a l) ∙ sym (ap (add (gathered sh f fractions i k a)) (away ne) ∙ add-zero _)
      side ne (inr l) = gathered-out (i + 1) k a (omega (arith, l)) ∙ sym (ap₂ add (gathered-out i k a (omega (arith, l))) (away ne) ∙ zero-add 0)

      go : Dec (k ≡ i) → gathered sh f fractions (i + 1) k a ≡ add (gathered sh f fractions i k a) x
      go (yes e) =
          gathered_in (i + 1) k a (omega (arith, e)) ∙ sym (here e) ∙ sym (ap (λ y. add y x) (gathered-out i k a (omega (arith, e))))
      go (no ne) = side ne (lt_or_gt k i ne)

  gathered-step : (i k a : ℕ) → (i ≡ f → ⊥) → i ≤ sh.n
      → gathered sh f fractions (i + 1) k a ≡ add (gathered sh f fractions i k a) (alone sh f i (fraction_of sh f fractions i) k a)
  gathered-step i k a ne h =
      cases i k a _
      (λ e. rw e (zero-add _ ∙ sym (arrived_helper sh f fractions [] i a ne h)))
      (λ away. alone-other sh f i (fraction_of sh f fractions i) k a away)

  gathered_skip : (k a : ℕ) → gathered sh f fractions (f + 1) k a ≡ gathered sh f fractions f k a
  gathered_skip k a = cases f k a 0 (λ e. rw e (zero-add 0 ∙ sym (arrived-failed sh f fractions a))) (λ away. refl) ∙ add-zero _

  pub gathered-all : gathered sh f fractions (sh.n + 1) ≡ arrived sh f fractions []
  gathered-all = fun_ext (λ k. fun_ext (λ a. go k a (ltb sh.n k) refl))
    where
      go : (k a : ℕ) (e : Bool) → ltb sh.n k ≡ e → gathered sh f fractions (sh.n + 1) k a ≡ arrived sh f fractions [] k a
      go k a true e =
          let l = ltb-true sh.n k e in
          gathered-out (sh.n + 1) k a (omega (arith, l)) ∙ sym (arrived-phantom sh f fractions k a l)
      go k a false e = gathered_in (sh.n + 1) k a (omega (arith, ltb-false sh.n k e))

  module _ (b : Bounds sh) where
    -- no helper yet: zeros
    pub sums_start : (r size k : ℕ) → r ≡ sh.r → size ≡ fraction_length sh → r * size ≤ k
        → SumsAre sh f fractions 1 (take (r * size) (replicate {A = ℕ} k 0))
    sums_start r size k is-r is-size few = record {
      all = zeros-length (r * size) k few ∙ ap₂ (λ x y. x * y) is-r is-size;
      bytes = λ t j ht hj.
          zeros-byte (r * size) k few (t * fraction_length sh + j) (rw (is-r, is-size) (entry-within ht hj))
          ∙ sym (equation-none sh b (gathered sh f fractions 1) _ t (λ i c. gathered-out 1 (suc i) c (omega arith)));
    }

    -- the failed node brings nothing
    pub sums_skip : (i : ℕ) (sums : List ℕ) → i ≡ f → SumsAre sh f fractions i sums → SumsAre sh f fractions (i + 1) sums
    sums_skip i sums e was = record {
      all = was.all;
      bytes = λ t j ht hj. was.bytes t j ht hj ∙ ap (λ C. equation sh C (get_or (rows_read sh f) j 0) t) same;
    }
      where
        same : gathered sh f fractions i ≡ gathered sh f fractions (i + 1)
        same = rw e (fun_ext (λ k. fun_ext (λ a. sym (gathered_skip k a))))

    -- a helper's fraction
    pub sums-step : (i : ℕ) (before later : List ℕ) → (i ≡ f → ⊥) → i ≤ sh.n
        → SumsAre sh f fractions i before
        → Added sh f i (fraction_of sh f fractions i) before later
        → SumsAre sh f fractions (i + 1) later
    sums-step i before later ne h was added = record {
      all = added.same_length ∙ was.all;
      bytes = λ t j ht hj.
          added.bytes t j ht hj
          ∙ ap (λ x. add x (equation sh (alone sh f i (fraction_of sh f fractions i)) (get_or (rows_read sh f) j 0) t)) (was.bytes t j ht hj)
          ∙ sym
          (equation-plus sh b (gathered sh f fractions i) (alone sh f i (fraction_of sh f fractions i)) (gathered sh f fractions (i + 1)) _ t
          (λ k c. gathered-step i (suc k) c ne h));
    }

-- the fraction of a helper stands among n − 1
pub helper_most : (f i n : ℕ) → 1 ≤ f → f ≤ n → 1 ≤ i → i ≤ n → (i ≡ f → ⊥) → suc (helper_before f i) ≤ n - 1
unfolding helper_before
helper_most f i n f-first f-last first last ne = go (lt_or_gt i f ne)
  where
    go : (i < f) ⊎ (f < i) → suc (cond (ltb i f) (i - 1) (i - 2)) ≤ n - 1
    go (inl l) = rw (lt-ltb i f l) (omega arith)
    go (inr l) = rw (le-ltb i f (omega (arith, l))) (omega arith)

-- where it begins and ends
pub record Ends (n f i q size : ℕ) : Type 0 where
  pub within : q * size + size ≤ (n - 1) * size
  pub few : (n - 1) * size ≤ 2048

pub fraction_ends : (n f i q size : ℕ) → q ≡ helper_before f i → n ≤ 16 → size ≤ 128 → 1 ≤ f → f ≤ n → 1 ≤ i → i ≤ n → (i ≡ f → ⊥) → Ends n f i q size
fraction_ends n f i q size is n-most size-most f-first f-last first last ne = record {
  within = omega (arith, mul-le-mul_right {m = suc q} {n = n - 1} size (omega (arith, is, helper_most f i n f-first f-last first last ne)));
  few = mul-le-mul {n₂ = 16} {m₂ = 128} (omega (arith, n-most)) size-most;
}

-- as many sums as a column has bytes
pub sums_most : (z : Sizes) → z.shape.r * fraction_length z.shape ≤ 256
unfolding group_size
sums_most z =
    let b = bounds z.shape z.of_shape.taken in
    omega (arith, fraction-times z.shape b, b.l-most)

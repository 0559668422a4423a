-- The failed column from the sums of all helpers. In order: what the column brings to the equations of the rows read, apart from what the fractions bring; the
-- rows read by their positions; a column that brings what the fractions bring meets the equations.
use mathlib.Core.Path.{◌≡◌, refl, sym, ap, ap₂, ◌∙◌, subst}
use mathlib.Core.Bool.{true}
use mathlib.Core.List.{List, []}
use Prim.Native.Nat.{ℕ, zero, suc, ◌+◌, ◌*◌, ◌<◌, ◌≤◌}
use native.Mathlib.Decide.{ℕ_discrete}
use native.Mathlib.Omega.{arith}
use lib.ListN.{length, get_or}
use Rattle.theory.specs.Digit as digits
use Rattle.theory.specs.Power as powers
use Rattle.theory.specs.Read as reads
use Rattle.theory.specs.Set as sets
use Rattle.theory.specs.Share as shares
use Rattle.theory.proofs.Counts.{changed-same, changed-other}
use Rattle.theory.proofs.Linearity.{equation_ext}
use Rattle.theory.proofs.Powers.{moment-zero}
use Rattle.theory.proofs.Ring as ring
use Rattle.theory.proofs.Sums.{sum_ext}
use Rattle.theory.proofs.Systems.{read-equation}
use Rattle.field.specs.Number.{add}
use Rattle.field.proofs.Product.{mul-below}
use Rattle.field.proofs.Xor.{add_self, add-below}
use Rattle.field.proofs.Numbers.{numbers, number, number-zero, number-add, number-mul, number-power, number_injective}
use Rattle.rules.specs.declared.shapes.Shape.{Shape}
use Rattle.rules.specs.Rising.{rising, Listed}
use Rattle.rules.specs.Shape.{group_size, groups, rows, node, group, worth, with_digit}
use Rattle.rules.specs.Point.{point_of}
use Rattle.rules.specs.Equation.{equation}
use Rattle.rules.specs.Fraction.{is_read, rows_read, fraction_length, arrived, MeetsRead}
use Rattle.rules.proofs.Accepted.{Bounds, size-some, nodes-least}
use Rattle.rules.proofs.House.{code, stripe, house_lawful}
use Rattle.rules.proofs.Risings.{length-rising, get_or_rising}
use Rattle.rules.proofs.RowsRead.{worth-some, fraction-worth, fraction-times, position_read}
use Rattle.rules.proofs.Ties.{group_tie, node_tie, with_digit_tie, sum_tie, sum_below_lem, equation_tie, equation-below, is-read_tie, listed-read, arrived-own, arrived-other}
use Rattle.recover.specs.Promise.{spread, RowsSolved}
use Rattle.recover.proofs.Finding.{position_lt}
use Rattle.rebuild.specs.Kernel.{SumsAre}
use Rattle.rebuild.proofs.Gathering.{gathered-all}

spread-below : (sh : Shape) (f : ℕ) (col : List ℕ) (a t : ℕ) → spread sh f col a t < 256
unfolding spread
spread-below sh f col a t = sum_below_lem (group_size sh) _ (λ u l. mul-below _ _)

-- theory counts nodes from 0: the failed node is f there
module _ (sh : Shape) (b : Bounds sh) (f : ℕ) (inside : f < groups sh * group_size sh) (fractions : List ℕ) where
  -- the column as theory's numbers, and the fractions with no column
  abbrev column : List ℕ → ℕ → numbers.K
  column col a = number (get_or col a 0)

  abbrev others : ℕ → ℕ → numbers.K
  others = stripe sh (arrived sh (suc f) fractions [])

  arrived-changed : (col : List ℕ) (i a : ℕ) → stripe sh (arrived sh (suc f) fractions col) i a ≡ sets.changed f (column col) others i a
  arrived-changed col i a = go (ℕ_discrete i f)
    where
      go : Dec (i ≡ f) → stripe sh (arrived sh (suc f) fractions col) i a ≡ sets.changed f (column col) others i a
      go (yes e) =
          rw e (ap number (arrived-own sh (suc f) fractions col a) ∙ sym (ap (λ (x : ℕ → numbers.K). x a) (changed-same f (column col) others)))
      go (no ne) =
          ap number (arrived-other sh (suc f) fractions col [] (suc i) a (λ e. ne (omega (arith, e))))
          ∙ sym (ap (λ (x : ℕ → numbers.K). x a) (changed-other f (column col) others i ne))

  split : (col : List ℕ) (a t : ℕ) → is_read sh (suc f) a ≡ true
      → number (equation sh (arrived sh (suc f) fractions col) a t)
      ≡ numbers.add (shares.spread (code sh) t (digits.group (group_size sh) f) (column col) a) (reads.known (code sh) t f others a)
  split col a t read =
      equation_tie sh b (arrived sh (suc f) fractions col) a t
      ∙ equation_ext (code sh) _ (sets.changed f (column col) others) a t (λ i l. arrived-changed col i a) (λ i l. arrived-changed col _ _)
      ∙ read-equation (code sh) (house_lawful sh b) f (column col) others a t inside ((is-read_tie sh b f a).0 read)

  -- no column brings nothing
  spread_none : (a t : ℕ) → shares.spread (code sh) t (digits.group (group_size sh) f) (column []) a ≡ numbers.zero
  unfolding shares.spread
  spread_none a t = moment-zero numbers (group_size sh) _ _ t (λ i l. number-zero)

  spread_tie : (col : List ℕ) (a t : ℕ)
      → number (spread sh (suc f) col a t) ≡ shares.spread (code sh) t (digits.group (group_size sh) f) (column col) a
  unfolding spread shares.spread powers.moment
  spread_tie col a t =
      sum_tie (group_size sh) _
      ∙ sum_ext numbers (group_size sh) _ _
      (λ u l.
      number-mul _ _
      ∙ ap₂ numbers.mul
      (number-power _ t ∙ ap (λ k. powers.power numbers (number (point_of sh k)) t) (ap (λ v. node sh v u) (group_tie sh f) ∙ node_tie sh _ u))
      (ap (λ k. number (get_or col k 0)) (ap (λ v. with_digit sh a v u) (group_tie sh f) ∙ with_digit_tie sh b a _ u)))

  pub equation-column : (col : List ℕ) (a t : ℕ) → is_read sh (suc f) a ≡ true
      → equation sh (arrived sh (suc f) fractions col) a t
      ≡ add (spread sh (suc f) col a t) (equation sh (arrived sh (suc f) fractions []) a t)
  equation-column col a t read =
      number_injective _ _ (equation-below sh _ a t) (add-below 8 _ _ (spread-below sh (suc f) col a t) (equation-below sh _ a t))
      (split col a t read
      ∙ sym
      (number-add _ _
      ∙ ap₂ numbers.add (spread_tie col a t)
      (split [] a t read ∙ ap (λ x. numbers.add x (reads.known (code sh) t f others a)) (spread_none a t) ∙ ring.zero-add numbers _)))

module _ (sh : Shape) (b : Bounds sh) (f : ℕ) (first : 1 ≤ f) (last : f ≤ sh.n) where
  -- a row read by its position
  listed_at : (a : ℕ) → Listed a (rows_read sh f) → (j : ℕ) × (j < fraction_length sh) × (get_or (rows_read sh f) j 0 ≡ a)
  unfolding rows_read
  listed_at a l =
      let (al, read) = (listed-read sh f a).0 l in (
        length (rising a (is_read sh f)),
        subst (λ k. k < fraction_length sh) (sym (position_read sh b f a read))
            (position_lt (group_size sh) (worth sh (group sh f)) (fraction_length sh) a (size-some sh b) (worth-some sh b (group sh f))
            (fraction-worth sh b f first last) (omega (arith, al, fraction-times sh b))),
        ap (λ k. get_or (rows_read sh f) k 0) (length-rising a (is_read sh f)) ∙ get_or_rising (rows sh) (is_read sh f) a al read,
      )

  pub solved→meets : (fractions sums col : List ℕ) → SumsAre sh f fractions (sh.n + 1) sums → RowsSolved sh f sums col → MeetsRead sh f fractions col
  solved→meets fractions sums col are solved a l t ht = go f refl
    where
      at : (j : ℕ) × (j < fraction_length sh) × (get_or (rows_read sh f) j 0 ≡ a)
      at = listed_at a l

      same : spread sh f col a t ≡ equation sh (arrived sh f fractions []) a t
      same =
          ap (λ c. spread sh f col c t) (sym at.2)
          ∙ solved.solved t at.0 ht at.1
          ∙ are.bytes t at.0 ht at.1
          ∙ ap₂ (λ C c. equation sh C c t) (gathered-all sh f fractions) at.2

      go : (k : ℕ) → f ≡ k → equation sh (arrived sh f fractions col) a t ≡ 0
      go zero e = absurd (omega (arith, first, e))
      go (suc k) e =
          subst (λ i. equation sh (arrived sh i fractions col) a t ≡ add (spread sh i col a t) (equation sh (arrived sh i fractions []) a t)) (sym e)
          (equation-column sh b k (omega (arith, last, nodes-least sh b, e)) fractions col a t (subst (λ i. is_read sh i a ≡ true) e ((listed-read sh f a).0 l).1))
          ∙ ap (λ x. add x (equation sh (arrived sh f fractions []) a t)) same
          ∙ add_self _

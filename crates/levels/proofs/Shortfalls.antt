-- From the bytes that the level loop works with to theory's words: what a row's equations fall short by, and the corrections by it. In order: inverses in
-- bytes; a correction by its cases, and of a node at a row; a level corrected; what the calls ask for of the nodes listed; the equations that the solved
-- columns make up for; a level from what the calls leave.
--   MakesUp sh flags count level C short == at the rows of that score, `short` makes up for what the first `count` equations of the symbols C are off by
-- Assumes nothing.
use mathlib.Core.Path.{◌≡◌, refl, sym, ap, ap₂, ◌∙◌, subst}
use mathlib.Core.Bool.{Bool, true, false, cond}
use mathlib.Core.List.{List, ◌++◌}
use Prim.Native.Nat.{ℕ, suc, ◌+◌, ◌*◌, ◌/◌, ◌%◌, ◌<◌, ◌≤◌, compare, Ordering}
use native.Mathlib.Nat.{mul-le-mul_right}
use native.Mathlib.Omega.{arith}
use lib.Dec.{eqb, ltb}
use lib.ListN.{length, get_or, take}
use lib.Seq.{get_or-take, take_at, take-append-le}
use borrow.Author.Tests.{ltb-true, ltb-false, eq-eqb, ne_eqb}
use Rattle.theory.specs.Digit as digits
use Rattle.theory.specs.Weight.{side, mate_node, mate_row}
use Rattle.theory.specs.Pair.{factor, unpaired}
use Rattle.theory.specs.Level.{symbol_off, symbol_of, symbol_from}
use Rattle.theory.specs.Correction as corrections
use Rattle.theory.specs.Free.{no_group}
use Rattle.theory.specs.Power.{power, moment, moment_over}
use Rattle.theory.specs.Score.{score}
use Rattle.theory.specs.Set.{Lists}
use Rattle.theory.specs.Whole as wholes
use Rattle.theory.proofs.Powers.{moment-over-list}
use Rattle.theory.proofs.Sums.{sum_ext}
use Rattle.theory.proofs.Ring as R
use Rattle.field.specs.Number.{modulus, add, double, by_bits, mul}
use Rattle.field.proofs.Numbers.{numbers, number, number-one, number-add, number-mul, number-power, number-quotient}
use Rattle.rules.specs.declared.shapes.Shape.{Shape}
use Rattle.rules.specs.declared.shapes.Sizes.{Sizes}
use Rattle.rules.specs.Shape.{group_size, groups, rows, digit, with_digit}
use Rattle.rules.specs.Point.{point_of, γ}
use Rattle.rules.specs.Stripe.{Symbols, symbol}
use Rattle.rules.specs.Equation.{equation}
use Rattle.rules.proofs.Accepted.{Bounds, nodes-most}
use Rattle.rules.proofs.Measures.{own-sizes, sizes_of, sizes_are}
use Rattle.rules.proofs.House.{code, stripe, points-distinct}
use Rattle.rules.proofs.Stripes.{symbol-at}
use Rattle.rules.proofs.Ties.{digit_tie, with_digit_tie, symbol-phantom, sum_tie, equation_tie}
use Rattle.columns.proofs.Kernels.{entry-within}
use Rattle.distinct.specs.Promise.{Apart}
use Rattle.systems.specs.System as solves
use Rattle.solver.specs.Solve.{columns_at, Solved}
use Rattle.sums.specs.Promise.{SumsOf}
use Rattle.corrections.specs.Correction.{chosen, correction_by, correction_in, ColumnsCorrected}
use Rattle.levels.specs.Promise.{NoneFrom}
use Rattle.choices.specs.Promise.{PointsAre, ScoresAre}
use Rattle.levels.specs.Kernel.{Placed, LevelCorrected, bytes_at}
use Rattle.levels.specs.declared.level.Lost.{Lost}
use Rattle.levels.proofs.Losses.{fits, lists}

-- the number whose product with a byte is 1 is its inverse
inverse-is : (a q : ℕ) → 0 < a → a < 256 → q < 256 → mul q a ≡ 1 → numbers.inverse (number a) ≡ number q
inverse-is a q pos small below e =
    sym
    (number-quotient 1 a q small (record { divisor = pos; small = below; value = e })
    ∙ ap (λ x. numbers.mul x (numbers.inverse (number a))) number-one
    ∙ R.one-mul numbers (numbers.inverse (number a)))

-- of γ, of γ + 1 and of 1
inverse_γ : numbers.inverse (number γ) ≡ number 142
unfolding γ mul by_bits double add modulus
inverse_γ = inverse-is 2 142 (omega arith) (omega arith) (omega arith) refl

γ_more : numbers.add (number γ) numbers.one ≡ number 3
unfolding γ add
γ_more = ap (numbers.add (number 2)) (sym number-one) ∙ sym (number-add 2 1)

inverse_γ_more : numbers.inverse (numbers.add (number γ) numbers.one) ≡ number 244
unfolding mul by_bits double add modulus
inverse_γ_more = ap numbers.inverse γ_more ∙ inverse-is 3 244 (omega arith) (omega arith) (omega arith) refl

inverse-one : numbers.inverse numbers.one ≡ numbers.one
inverse-one = sym (R.one-mul numbers (numbers.inverse numbers.one)) ∙ numbers.mul-inverse numbers.one numbers.one_not_zero

-- the cases of a correction
module _ (sh : Shape) where
  by_tie : (o : Ordering) (lost : Bool) (own other : ℕ)
      → number (correction_by o lost own other) ≡ symbol_of (code sh) o lost (number own) (number other) numbers.zero
  unfolding correction_by symbol_of symbol_off unpaired factor
  by_tie Ordering.eq lost own other = refl
  by_tie Ordering.gt true own other =
      number-mul 244 (add (mul γ own) other)
      ∙ ap₂ numbers.mul (sym inverse_γ_more) (number-add (mul γ own) other ∙ ap (λ x. numbers.add x (number other)) (number-mul γ own))
  by_tie Ordering.gt false own other =
      sym
      (ap₂ numbers.mul inverse-one (numbers.add-zero (number own))
      ∙ R.one-mul numbers (number own))
  by_tie Ordering.lt true own other =
      number-mul 244 (add own other)
      ∙ ap₂ numbers.mul (sym inverse_γ_more)
      (number-add own other ∙ ap (λ x. numbers.add x (number other)) (sym (R.one-mul numbers (number own))))
  by_tie Ordering.lt false own other =
      number-mul 142 own ∙ ap₂ numbers.mul (sym inverse_γ) (sym (numbers.add-zero (number own)))

-- of node i at row a
module _ (sh : Shape) (b : Bounds sh) (flags : List Bool) (short : List ℕ) where
  side_tie : (i a : ℕ) → compare (i % group_size sh) (digit sh a (suc (i / group_size sh))) ≡ side (group_size sh) a i
  unfolding side digits.place digits.group
  side_tie i a = ap (compare (i % group_size sh)) (digit_tie sh b a (i / group_size sh))

  mate_tie : (i a : ℕ) → i / group_size sh * group_size sh + digit sh a (suc (i / group_size sh)) ≡ mate_node (group_size sh) a i
  unfolding mate_node digits.node digits.group
  mate_tie i a = ap (λ (d : ℕ). i / group_size sh * group_size sh + d) (digit_tie sh b a (i / group_size sh))

  mate_row_tie : (i a : ℕ) → with_digit sh a (suc (i / group_size sh)) (i % group_size sh) ≡ mate_row (group_size sh) a i
  unfolding mate_row digits.place digits.group
  mate_row_tie i a = with_digit_tie sh b a (i / group_size sh) (i % group_size sh)

  correction_in_lem : (i a : ℕ)
      → correction_in sh flags short i a
      ≡ correction_by (side (group_size sh) a i) (chosen flags (mate_node (group_size sh) a i))
      (get_or short (i * rows sh + a) 0)
      (get_or short (mate_node (group_size sh) a i * rows sh + mate_row (group_size sh) a i) 0)
  unfolding correction_in digit with_digit
  correction_in_lem i a =
      ap₂ (λ o k. correction_by o (chosen flags k) (get_or short (i * rows sh + a) 0) (get_or short (k * rows sh + with_digit sh a (suc (i / group_size sh)) (i % group_size sh)) 0))
      (side_tie i a) (mate_tie i a)
      ∙ ap
      (λ (q : ℕ).
      correction_by (side (group_size sh) a i) (chosen flags (mate_node (group_size sh) a i))
      (get_or short (i * rows sh + a) 0)
      (get_or short (mate_node (group_size sh) a i * rows sh + q) 0))
      (mate_row_tie i a)

  pub correction_tie : (i a : ℕ) → number (correction_in sh flags short i a) ≡ corrections.correction (code sh) (chosen flags) (bytes_at sh short) a i
  unfolding corrections.correction symbol_from
  correction_tie i a = ap number (correction_in_lem i a) ∙ by_tie sh (side (group_size sh) a i) (chosen flags (mate_node (group_size sh) a i)) _ _

abbrev pub MakesUp : Shape → List Bool → ℕ → ℕ → Symbols → List ℕ → Type 0
MakesUp sh flags count level C short = (a : ℕ) → a < rows sh → score (group_size sh) (groups sh) no_group (chosen flags) a ≡ level → (t : ℕ) → t < count
    → moment_over numbers (groups sh * group_size sh) (chosen flags) (code sh).point (λ i. bytes_at sh short i a) t
    ≡ wholes.equation (code sh) (stripe sh C) a t

-- A level corrected.
module _ (sh : Shape) (b : Bounds sh) (flags : List Bool) (scores : List ℕ) (level : ℕ) (short before later : List ℕ)
    (done : ColumnsCorrected sh flags scores level short before later) (beyond : NoneFrom sh.n flags) where
  -- a symbol x with the correction z added where it is due
  abbrev symbol_with : ℕ → ℕ → ℕ → ℕ → ℕ
  symbol_with i a x z = cond (chosen flags i) (cond (eqb (get_or scores a 0) level) (add x z) x) x

  symbol-later : (i a : ℕ) → a < rows sh
      → symbol sh later (suc i) a ≡ symbol_with i a (symbol sh before (suc i) a) (correction_in sh flags short i a)
  symbol-later i a ha = go (ltb i sh.n) refl
    where
      go : (t : Bool) → ltb i sh.n ≡ t → symbol sh later (suc i) a ≡ symbol_with i a (symbol sh before (suc i) a) (correction_in sh flags short i a)
      go true e =
          let h = ltb-true i sh.n e in
          symbol-at sh later i a h
          ∙ done.bytes i a h ha
          ∙ ap (λ x. symbol_with i a x (correction_in sh flags short i a)) (sym (symbol-at sh before i a h))
      go false e =
          let h = ltb-false i sh.n e in
          symbol-phantom sh later (suc i) a (omega (arith, h))
          ∙ sym (symbol-phantom sh before (suc i) a (omega (arith, h)))
          ∙ ap
          (λ t.
          cond t (cond (eqb (get_or scores a 0) level) (add (symbol sh before (suc i) a) (correction_in sh flags short i a)) (symbol sh before (suc i) a))
          (symbol sh before (suc i) a))
          (sym (beyond i h))

  module _ (i a : ℕ) (ha : a < rows sh) where
    symbol-kept : chosen flags i ≡ false → symbol sh later (suc i) a ≡ symbol sh before (suc i) a
    symbol-kept out = symbol-later i a ha ∙ rw out refl

    symbol_elsewhere : (get_or scores a 0 ≡ level → ⊥) → symbol sh later (suc i) a ≡ symbol sh before (suc i) a
    symbol_elsewhere off = go (chosen flags i) refl
      where
        go : (t : Bool) → chosen flags i ≡ t → symbol sh later (suc i) a ≡ symbol sh before (suc i) a
        go true into = symbol-later i a ha ∙ rw (into, ne_eqb (get_or scores a 0) level off) refl
        go false out = symbol-kept out

    symbol-corrected : chosen flags i ≡ true → get_or scores a 0 ≡ level
        → symbol sh later (suc i) a ≡ add (symbol sh before (suc i) a) (correction_in sh flags short i a)
    symbol-corrected into at = symbol-later i a ha ∙ rw (into, eq-eqb (get_or scores a 0) level at) refl

  pub corrected_tie : (count : ℕ) → ScoresAre (group_size sh) (groups sh) (rows sh) flags scores → MakesUp sh flags count level (symbol sh before) short
      → corrections.Corrected (code sh) count (chosen flags) level (stripe sh (symbol sh before)) (bytes_at sh short) (stripe sh (symbol sh later))
  unfolding rows
  corrected_tie count scored solves = record {
    solved = solves;
    stored = λ i a hi ha into at.
        ap number (symbol-corrected i a ha into (scored.each a ha ∙ at))
        ∙ number-add (symbol sh before (suc i) a) (correction_in sh flags short i a)
        ∙ ap (numbers.add (number (symbol sh before (suc i) a))) (correction_tie sh b flags short i a);
    other-rows = λ i a hi ha off. ap number (symbol_elsewhere i a ha (λ e. off (sym (scored.each a ha) ∙ e)));
    survivors = λ i a hi ha out. ap number (symbol-kept i a ha out);
  }

  pub level_tie : (count : ℕ) → ScoresAre (group_size sh) (groups sh) (rows sh) flags scores → MakesUp sh flags count level (symbol sh before) short
      → LevelCorrected sh flags count level before later
  level_tie count scored solves = record { same_length = done.same_length; short = short; corrected = corrected_tie count scored solves }

-- The points of the nodes listed differ.
module _ (sh : Shape) (b : Bounds sh) (flags : List Bool) (nodes : List ℕ) (count : ℕ)
    (lists : Lists (groups sh * group_size sh) (chosen flags) count (λ j. get_or nodes j 0)) where
  pub listed-apart : (points : List ℕ) → PointsAre sh nodes points → count ≤ 4 → Apart count points
  listed-apart points are few i j hi hj e =
      lists.once i j hi hj
      (omega (
        arith,
        points-distinct sh (suc (get_or nodes i 0)) (suc (get_or nodes j 0)) (omega arith) (omega (arith, lists.below i hi, nodes-most sh b)) (omega arith)
            (omega (arith, lists.below j hj, nodes-most sh b))
            (sym (point i hi) ∙ e ∙ point j hj),
      ))
    where
      point : (j : ℕ) → j < count → get_or points j 0 ≡ point_of sh (suc (get_or nodes j 0))
      point j h = are.inside j (omega (arith, h, few)) (omega (arith, lists.below j h, nodes-most sh b))

-- The columns of unknowns that solve the sums, each put at its node, make up for the equations: at every row, whatever its score.
module _ (sh : Shape) (b : Bounds sh) (flags : List Bool) (nodes points : List ℕ) (C : Symbols) (count : ℕ) (sums found before short : List ℕ)
    (few : count ≤ sh.r)
    (lists : Lists (groups sh * group_size sh) (chosen flags) count (λ j. get_or nodes j 0))
    (are : PointsAre sh nodes points)
    (summed : SumsOf sh C sums)
    (solved : Solved count points (rows sh) (take (count * rows sh) sums) found)
    (placed : Placed nodes count (rows sh) found before short) where
  -- the sum that is solved, term by term
  solved_terms : (a t : ℕ) → a < rows sh
      → moment numbers count (λ j. (code sh).point (get_or nodes j 0)) (λ j. bytes_at sh short (get_or nodes j 0) a) t
      ≡ number (solves.moment count points (columns_at (rows sh) found a) t)
  unfolding moment solves.moment
  solved_terms a t ha =
      sum_ext numbers count _ _
      (λ j h.
      ap₂ (λ p x. numbers.mul (power numbers (number p) t) (number x)) (sym (are.inside j (omega (arith, h, few, b.r-most)) (omega (arith, lists.below j h, nodes-most sh b)))) (placed.each j a h ha)
      ∙ ap (λ q. numbers.mul q (number (get_or found (j * rows sh + a) 0))) (sym (number-power (get_or points j 0) t))
      ∙ sym (number-mul _ _))
      ∙ sym (sum_tie count _)

  sum-taken : (a t : ℕ) → a < rows sh → t < count → get_or (take (count * rows sh) sums) (t * rows sh + a) 0 ≡ equation sh C a t
  sum-taken a t ha ht =
      get_or-take (count * rows sh) sums (t * rows sh + a) 0 (entry-within ht ha) ∙ summed.bytes t a (omega (arith, ht, few)) ha

  pub solved_tie : (a : ℕ) → a < rows sh → (t : ℕ) → t < count
      → moment_over numbers (groups sh * group_size sh) (chosen flags) (code sh).point (λ i. bytes_at sh short i a) t
      ≡ wholes.equation (code sh) (stripe sh C) a t
  solved_tie a ha t ht =
      moment-over-list numbers (groups sh * group_size sh) (chosen flags) count (λ j. get_or nodes j 0) (code sh).point (λ i. bytes_at sh short i a) t lists
      ∙ solved_terms a t ha
      ∙ ap number (solved a t ha ht ∙ sum-taken a t ha ht)
      ∙ equation_tie sh b C a t

  pub makes_up : (level : ℕ) → MakesUp sh flags count level C short
  makes_up level a ha at t ht = solved_tie a ha t ht

-- A level corrected, from what the four calls leave: sums, unknowns and columns stand at the front of longer arrays, and z has the sizes.
abbrev LevelFrom : Shape → List Bool → List ℕ → List ℕ → List ℕ → ℕ → ℕ → List ℕ → List ℕ → Sizes → Type 0
LevelFrom sh flags nodes points scores count level before later z = (sums sums-rest found found-rest start short short-rest : List ℕ)
    → SumsOf sh (symbol sh before) sums
    → length found ≡ count * z.l
    → Solved count points z.l (take (count * z.l) (sums ++ sums-rest)) found
    → length short ≡ z.m * z.s * z.l
    → Placed nodes count z.l (take (count * z.l) (found ++ found-rest)) start short
    → ColumnsCorrected sh flags scores level (take (z.m * z.s * z.l) (short ++ short-rest)) before later
    → LevelCorrected sh flags count level before later

module _ (sh : Shape) (flags : List Bool) (nodes points scores : List ℕ) (count level : ℕ) (before later : List ℕ)
    (few : count ≤ sh.r)
    (lists : Lists (groups sh * group_size sh) (chosen flags) count (λ j. get_or nodes j 0))
    (are : PointsAre sh nodes points)
    (scored : ScoresAre (group_size sh) (groups sh) (rows sh) flags scores)
    (beyond : NoneFrom sh.n flags) where
  level_from_at : (b : Bounds sh) → LevelFrom sh flags nodes points scores count level before later (sizes_of sh b)
  level_from_at b sums sums-rest found found-rest start short short-rest summed found-exact solved short-exact placed corrected =
      level_tie sh b flags scores level short before later
      (subst (λ xs. ColumnsCorrected sh flags scores level xs before later) (take_at short short-rest _ short-exact) corrected) beyond count scored
      (makes_up sh b flags nodes points (symbol sh before) count sums found start short few lists are summed
      (subst (λ xs. Solved count points (rows sh) xs found) (take-append-le (count * rows sh) sums sums-rest within) solved)
      (subst (λ xs. Placed nodes count (rows sh) xs start short) (take_at found found-rest _ found-exact) placed) level)
    where
      within : count * rows sh ≤ length sums
      within = omega (arith, summed.all, mul-le-mul_right {m = count} {n = sh.r} (rows sh) few)

module _ (lost : Lost) (level : ℕ) (before later : List ℕ) where
  pub level_from : LevelFrom lost.z.shape lost.flags lost.nodes lost.points lost.scores lost.count level before later lost.z
  level_from =
      subst (LevelFrom lost.z.shape lost.flags lost.nodes lost.points lost.scores lost.count level before later)
      (sym (sizes_are lost.z.shape lost.z (own-sizes lost.z) (fits lost)))
      (level_from_at lost.z.shape lost.flags lost.nodes lost.points lost.scores lost.count level before later
      lost.few (lists lost) lost.points_are lost.scores_are lost.none_above (fits lost))

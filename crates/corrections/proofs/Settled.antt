-- What `correct_columns` promises settles its answer and every byte that it leaves: two results that the promise allows are equal. And wrong answers that the
-- promise rules out. In order: what can be corrected is corrected; both results; wrong answers, with sevens to correct.
--   both, short == the chosen columns, and what the weights fall short by
--   Sevens      == what is promised then
use mathlib.Core.Path.{◌≡◌, refl, sym, ap, ◌∙◌}
use mathlib.Core.Bool.{Bool, true, false, cond}
use mathlib.Core.List.{List, [], ◌∷◌}
use Prim.Native.Nat.{ℕ, ◌+◌, ◌*◌, ◌<◌}
use native.Mathlib.Omega.{arith}
use lib.Dec.{eqb}
use lib.ListN.{get_or, replicate}
use Rattle.field.specs.Number.{modulus, add, double, by_bits, mul}
use Rattle.std.specs.Prelude.{Result, Ok, Err}
use Rattle.rules.specs.declared.refusals.Misfit.{Misfit}
use Rattle.rules.specs.declared.shapes.Shape.{Shape}
use Rattle.rules.specs.Shape.{group_size, groups, rows, worth}
use Rattle.rules.specs.Point.{γ}
use Rattle.rules.specs.Bench.{shape}
use Rattle.rules.proofs.Benches.{bench-shape}
use Rattle.rules.proofs.Stripes.{by_columns}
use Rattle.corrections.specs.Correction.{chosen, correction_by, correction_in, ColumnsCorrected}
use Rattle.corrections.specs.Promise.{Correctable, CorrectionsAre}

module _ (sh : Shape) (flags : List Bool) (scores : List ℕ) (level : ℕ) (short before : List ℕ) where
  -- what can be corrected is corrected
  pub corrections_ok : (answer : Result (Unit {0}) Misfit) (later : List ℕ) → CorrectionsAre sh flags scores level short before answer later
      → Correctable sh scores short before → answer ≡ Ok tt
  corrections_ok (Ok x) later p way = refl
  corrections_ok (Err e) later p way = absurd (p.cannot way)

  columns-only : Correctable sh scores short before → (x y : List ℕ) → ColumnsCorrected sh flags scores level short before x
      → ColumnsCorrected sh flags scores level short before y → x ≡ y
  columns-only way x y p q =
      by_columns sh.n (rows sh) x y (p.same_length ∙ way.exact) (q.same_length ∙ way.exact) (λ i a hi ha. p.bytes i a hi ha ∙ sym (q.bytes i a hi ha))

  pub corrections_settled : (a b : Result (Unit {0}) Misfit) (x y : List ℕ) → CorrectionsAre sh flags scores level short before a x
      → CorrectionsAre sh flags scores level short before b y → (a ≡ b) × (x ≡ y)
  corrections_settled (Ok _) (Ok _) x y p q = (refl, columns-only p.can x y p.corrected q.corrected)
  corrections_settled (Ok _) (Err _) x y p q = absurd (q.cannot p.can)
  corrections_settled (Err _) (Ok _) x y p q = absurd (p.cannot q.can)
  corrections_settled (Err _) (Err _) x y p q = (refl, p.kept ∙ sym q.kept)

-- n = 3, r = 2, so columns of 4 bytes. Columns 1 and 2 are chosen, which are mates; row 0 has the score asked for. The weights at row 0 fall short by 5 and 1,
-- and by 3 that of node 1 at the row of its mate. So 5 is added to byte 0 of column 1, and (2 × 1 + 3) / (2 + 1) = 244 to byte 0 of column 2.
abbrev both : List Bool
both = true ∷ true ∷ replicate 14 false

abbrev short : List ℕ
short = 5 ∷ 3 ∷ 0 ∷ 0 ∷ 1 ∷ replicate 11 0

-- what is promised of sevens
abbrev Sevens : Result (Unit {0}) Misfit → List ℕ → Type 0
Sevens answer later = CorrectionsAre (shape 3 2) both (1 ∷ 0 ∷ 0 ∷ 0 ∷ []) 1 short (replicate 12 7) answer later

correctable : Correctable (shape 3 2) (1 ∷ 0 ∷ 0 ∷ 0 ∷ []) short (replicate 12 7)
unfolding rows groups group_size
correctable = record { taken = bench-shape.0; scores_enough = omega arith; short-exact = refl; exact = refl }

-- what stands at row a of column i + 1 then
at : (later : List ℕ) → Sevens (Ok tt) later → (i a : ℕ) → i < 3 → a < 4
    → get_or later (i * 4 + a) 0
    ≡ cond (chosen both i) (cond (eqb (get_or (1 ∷ 0 ∷ 0 ∷ 0 ∷ []) a 0) 1) (add (get_or (replicate 12 7) (i * 4 + a) 0) (correction_in (shape 3 2) both short i a)) (get_or (replicate 12 7) (i * 4 + a) 0))
    (get_or (replicate 12 7) (i * 4 + a) 0)
unfolding rows groups group_size
at later p i a hi ha = p.corrected.bytes i a hi ha

-- a misfit where it can be corrected
pub corrections_refuses : (later : List ℕ) → Sevens (Err (record {})) later → ⊥
corrections_refuses later p = p.cannot correctable

pub corrections_writes_nothing : Sevens (Ok tt) (replicate 12 7) → ⊥
unfolding correction_in correction_by worth rows groups group_size add
corrections_writes_nothing p = let e : ◌≡◌ {A = ℕ} 7 2 = at _ p 0 0 (omega arith) (omega arith) in omega arith

-- the mate taken for a survivor: 1 is added, and not 244
pub corrections_alone : Sevens (Ok tt) (2 ∷ 7 ∷ 7 ∷ 7 ∷ 6 ∷ replicate 7 7) → ⊥
unfolding correction_in correction_by worth rows groups group_size add mul by_bits double modulus γ
corrections_alone p = let e : ◌≡◌ {A = ℕ} 6 243 = at _ p 1 0 (omega arith) (omega arith) in omega arith

-- a row of another score is changed, and so is a column that isn't chosen
pub corrections_other-row : Sevens (Ok tt) (2 ∷ 4 ∷ 7 ∷ 7 ∷ 243 ∷ replicate 7 7) → ⊥
corrections_other-row p = let e : ◌≡◌ {A = ℕ} 4 7 = at _ p 0 1 (omega arith) (omega arith) in omega arith

pub corrections_survivor : Sevens (Ok tt) (2 ∷ 7 ∷ 7 ∷ 7 ∷ 243 ∷ 7 ∷ 7 ∷ 7 ∷ 0 ∷ 7 ∷ 7 ∷ 7 ∷ []) → ⊥
corrections_survivor p = let e : ◌≡◌ {A = ℕ} 0 7 = at _ p 2 0 (omega arith) (omega arith) in omega arith

-- a stripe of 2 bytes taken; and bytes written with a refusal
pub corrections_takes_short : (later : List ℕ) → CorrectionsAre (shape 3 2) both (1 ∷ 0 ∷ 0 ∷ 0 ∷ []) 1 short (7 ∷ 7 ∷ []) (Ok tt) later → ⊥
unfolding rows groups group_size
corrections_takes_short later p = let e : ◌≡◌ {A = ℕ} 2 12 = p.can.exact in omega arith

pub corrections_refused_writes : CorrectionsAre (shape 3 2) both [] 1 [] (7 ∷ 7 ∷ []) (Err (record {})) (0 ∷ 7 ∷ []) → ⊥
corrections_refused_writes p = let e : ◌≡◌ {A = ℕ} 0 7 = ap (λ (xs : List ℕ). get_or xs 0 0) p.kept in omega arith

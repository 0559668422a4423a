-- What `fill_levels` promises settles its answer and every byte that it leaves: two results that the promise allows are equal. And wrong answers that the
-- promise rules out, at bench stripe C with columns 1 and 2 chosen; n = 3, r = 2. In order: what can be filled is filled; both results; what fills by r
-- equations is allowed; the wrong answers.
--   both, three == columns 1 and 2 chosen; columns 1, 2 and 3 chosen
--   given_c     == bench stripe C with sevens in columns 1 and 2
--   FilledC     == what is promised of these
use mathlib.Core.Path.{◌≡◌, refl, sym, ap, subst, ◌∙◌}
use mathlib.Core.Bool.{Bool, true, false, true≢false}
use mathlib.Core.List.{List, [], ◌∷◌}
use Prim.Native.Nat.{ℕ, zero, suc, ◌-◌, ◌≤◌}
use native.Mathlib.Omega.{arith}
use lib.ListN.{length, get_or, replicate}
use Rattle.theory.specs.Set.{count}
use Rattle.theory.specs.Code.{nodes}
use Rattle.theory.specs.Whole.{Fills}
use Rattle.theory.proofs.Counts.{count-beyond}
use Rattle.theory.proofs.Filling.{fills-only}
use Rattle.std.specs.Prelude.{Result, Ok, Err}
use Rattle.rules.specs.declared.refusals.Misfit.{Misfit}
use Rattle.rules.specs.declared.shapes.Shape.{Shape}
use Rattle.rules.specs.Shape.{group_size, groups, rows}
use Rattle.rules.specs.Stripe.{IsBytes, stripe_length, symbol, column_start, column}
use Rattle.rules.specs.Lost.{Filled}
use Rattle.rules.specs.Bench.{shape, stripe_c}
use Rattle.rules.proofs.Accepted.{bounds, nodes-least}
use Rattle.rules.proofs.House.{code, stripe, house_lawful}
use Rattle.rules.proofs.LostSets.{real}
use Rattle.rules.proofs.Stripes.{same-stripes}
use Rattle.rules.proofs.Fillings.{filled→fills}
use Rattle.rules.proofs.Benches.{parity-c, bench-shape}
use Rattle.corrections.specs.Correction.{chosen}
use Rattle.levels.specs.Promise.{NoneFrom, LevelsCorrected, Fillable, LevelsAre}
use Rattle.levels.proofs.Nodes.{real-chosen}

module _ (sh : Shape) (flags : List Bool) (before : List ℕ) where
  -- what can be filled is filled
  pub levels-ok : (answer : Result (Unit {0}) Misfit) (later : List ℕ) → LevelsAre sh flags before answer later → Fillable sh flags before → answer ≡ Ok tt
  levels-ok (Ok _) later p way = refl
  levels-ok (Err _) later p way = absurd (p.cannot way)

  levels-only : Fillable sh flags before → (x y : List ℕ) → IsBytes (stripe_length sh) x → IsBytes (stripe_length sh) y
      → LevelsCorrected sh flags (count sh.n (chosen flags)) before x
      → LevelsCorrected sh flags (count sh.n (chosen flags)) before y
      → x ≡ y
  levels-only way x y bx by p q =
      let b = bounds sh way.taken in
      same-stripes sh b x y bx by
      (fills-only (code sh) (house_lawful sh b) (count sh.n (chosen flags)) (chosen flags) (stripe sh (symbol sh before)) (stripe sh (symbol sh x))
      (stripe sh (symbol sh y)) (omega (arith, count-beyond sh.n (nodes (code sh)) (chosen flags) way.none_above (nodes-least sh b))) p.fills q.fills)

  pub levels_settled : (a b : Result (Unit {0}) Misfit) (x y : List ℕ) → LevelsAre sh flags before a x → LevelsAre sh flags before b y → (a ≡ b) × (x ≡ y)
  levels_settled (Ok _) (Ok _) x y p q = (refl, levels-only p.can x y p.bytes q.bytes p.filled q.filled)
  levels_settled (Ok _) (Err _) x y p q = absurd (q.cannot p.can)
  levels_settled (Err _) (Ok _) x y p q = absurd (p.cannot q.can)
  levels_settled (Err _) (Err _) x y p q = (refl, p.kept ∙ sym q.kept)

  -- with r nodes chosen, what fills by all equations is the one result
  filled_allowed : Fillable sh flags before → count sh.n (chosen flags) ≡ sh.r → (later : List ℕ) → Filled sh (λ i. chosen flags (i - 1)) before later
      → LevelsAre sh flags before (Ok tt) later
  filled_allowed way exact later f = record {
    can = way;
    bytes = f.bytes;
    filled = record {
      same_length = f.bytes.exact ∙ sym way.exact;
      fills = subst (λ k. Fills (code sh) k (chosen flags) (stripe sh (symbol sh before)) (stripe sh (symbol sh later))) (sym exact) (record {
        whole = fills.whole;
        kept = λ i a il al out. fills.kept i a il al (real-chosen sh flags way.none_above i ∙ out);
      });
    };
    cannot = tt;
    kept = tt;
  }
    where
      fills : Fills (code sh) sh.r (real sh (λ i. chosen flags (i - 1))) (stripe sh (symbol sh before)) (stripe sh (symbol sh later))
      fills = filled→fills sh (bounds sh way.taken) (λ i. chosen flags (i - 1)) before later f

abbrev both : List Bool
both = true ∷ true ∷ replicate 14 false

abbrev three : List Bool
three = true ∷ true ∷ true ∷ replicate 13 false

abbrev given_c : List ℕ
given_c = 7 ∷ 7 ∷ 7 ∷ 7 ∷ 7 ∷ 7 ∷ 7 ∷ 7 ∷ 2 ∷ 12 ∷ 0 ∷ 5 ∷ []

abbrev FilledC : Result (Unit {0}) Misfit → List ℕ → Type 0
FilledC answer later = LevelsAre (shape 3 2) both given_c answer later

none-set : (n i : ℕ) → get_or (replicate n false) i false ≡ false
none-set zero i = refl
none-set (suc n) zero = refl
none-set (suc n) (suc i) = none-set n i

none_else : NoneFrom 3 both
none_else zero h = absurd (omega arith)
none_else (suc zero) h = absurd (omega arith)
none_else (suc (suc i)) h = none-set 14 i

two_chosen : count 3 (chosen both) ≡ 2
unfolding count
two_chosen = refl

three-chosen : count 3 (chosen three) ≡ 3
unfolding count
three-chosen = refl

length-c : length given_c ≡ stripe_length (shape 3 2)
unfolding rows groups group_size stripe_length
length-c = refl

fillable_c : Fillable (shape 3 2) both given_c
fillable_c = record { taken = bench-shape.0; exact = length-c; none_above = none_else; few = omega (arith, two_chosen) }

third-kept : column (shape 3 2) stripe_c 3 ≡ column (shape 3 2) given_c 3
unfolding column column_start rows groups group_size
third-kept = refl

survivors-c : (i : ℕ) → 1 ≤ i → i ≤ 3 → chosen both (i - 1) ≡ false → column (shape 3 2) stripe_c i ≡ column (shape 3 2) given_c i
survivors-c zero h k out = absurd (omega arith)
survivors-c (suc zero) h k out = absurd (true≢false out)
survivors-c (suc (suc zero)) h k out = absurd (true≢false out)
survivors-c (suc (suc (suc zero))) h k out = third-kept
survivors-c (suc (suc (suc (suc i)))) h k out = absurd (omega arith)

filled-c : FilledC (Ok tt) stripe_c
filled-c =
    filled_allowed (shape 3 2) both given_c fillable_c two_chosen stripe_c (record { bytes = parity-c.1; survivors = survivors-c; whole = parity-c.2 })

-- what the stripe holds then, at index j
at-c : (answer : Result (Unit {0}) Misfit) (later : List ℕ) → FilledC answer later → (j : ℕ) → get_or later j 0 ≡ get_or stripe_c j 0
at-c answer later p j = ap (λ (l : List ℕ). get_or l j 0) (levels_settled (shape 3 2) both given_c answer (Ok tt) later stripe_c p filled-c).1

-- a misfit where it can be filled
pub levels_refuses : (later : List ℕ) → FilledC (Err (record {})) later → ⊥
levels_refuses later p = p.cannot fillable_c

pub levels_writes_nothing : FilledC (Ok tt) given_c → ⊥
levels_writes_nothing p = let e : ◌≡◌ {A = ℕ} 7 4 = at-c (Ok tt) _ p 0 in omega arith

-- one byte of a chosen column is wrong
pub levels_wrong_byte : FilledC (Ok tt) (4 ∷ 0 ∷ 0 ∷ 13 ∷ 6 ∷ 15 ∷ 12 ∷ 30 ∷ 2 ∷ 12 ∷ 0 ∷ 5 ∷ []) → ⊥
levels_wrong_byte p = let e : ◌≡◌ {A = ℕ} 13 12 = at-c (Ok tt) _ p 3 in omega arith

-- a survivor is changed: bench stripe B is whole
pub levels_survivor_changed : FilledC (Ok tt) (0 ∷ 0 ∷ 0 ∷ 12 ∷ 0 ∷ 10 ∷ 12 ∷ 30 ∷ 0 ∷ 15 ∷ 0 ∷ 5 ∷ []) → ⊥
levels_survivor_changed p = let e : ◌≡◌ {A = ℕ} 0 2 = at-c (Ok tt) _ p 8 in omega arith

-- more than r chosen, and taken
pub levels_takes_three : (later : List ℕ) → LevelsAre (shape 3 2) three stripe_c (Ok tt) later → ⊥
levels_takes_three later p = omega (arith, p.can.few, three-chosen)

-- a wrong length, and a byte is written
pub levels-refused_writes : LevelsAre (shape 3 2) both (4 ∷ 0 ∷ []) (Err (record {})) (0 ∷ 0 ∷ []) → ⊥
levels-refused_writes p = let e : ◌≡◌ {A = ℕ} 0 4 = ap (λ (l : List ℕ). get_or l 0 0) p.kept in omega arith

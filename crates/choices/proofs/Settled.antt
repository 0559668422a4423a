-- What each public function promises settles its result: two results that one promise allows are equal. And for each, wrong answers that the promise rules
-- out. In order: `count_of`, `listed`, `points_of`, `scores_of`, `any_at`.
--   outer, five == nodes 0 and 2 chosen; nodes 0 to 4 chosen
use mathlib.Core.Path.{◌≡◌, refl, sym, ap, ◌∙◌}
use mathlib.Core.Bool.{Bool, true, false}
use mathlib.Core.List.{List, [], ◌∷◌}
use mathlib.Core.Logic.{◌⊎◌, inl, inr}
use mathlib.Core.Option.{none, some}
use Prim.Native.Nat.{ℕ, suc, ◌<◌, ◌≤◌}
use native.Mathlib.Omega.{arith}
use native.Mathlib.Decide.{dec_le}
use lib.ListN.{get_or, replicate}
use lib.Seq.{ext_get_or}
use Rattle.theory.specs.Digit.{digit, node}
use Rattle.theory.specs.Score.{score}
use Rattle.theory.specs.Set.{count}
use Rattle.field.specs.Number.{power}
use Rattle.rules.specs.declared.shapes.Shape.{Shape}
use Rattle.rules.specs.Shape.{group_size, groups, rows, accepted}
use Rattle.rules.specs.Point.{point_of}
use Rattle.rules.specs.Refusal.{shape_refusal}
use Rattle.rules.specs.Bench.{shape}
use Rattle.rules.proofs.Accepted.{refusal-cases}
use Rattle.rules.proofs.Benches.{bench-shape}
use Rattle.corrections.specs.Correction.{chosen}
use Rattle.choices.proofs.Listing.{same-member}
use Rattle.choices.specs.Promise.{CountIs, ListedAre, ListIs, PointsAre, ScoresAre, ScoresMeet, AnyIs}

abbrev outer : List Bool
outer = true ∷ false ∷ true ∷ replicate 13 false

abbrev five : List Bool
five = true ∷ true ∷ true ∷ true ∷ true ∷ replicate 11 false

pub count_settled : (n : ℕ) (flags : List Bool) (x y : ℕ) → CountIs n flags x → CountIs n flags y → x ≡ y
count_settled n flags x y p q = p.value ∙ sym q.value

-- node 2 isn't one of the first two nodes
pub count_past : CountIs 2 outer 2 → ⊥
unfolding count
count_past p = let e : ◌≡◌ {A = ℕ} 2 1 = p.value in omega arith

pub count_none : CountIs 3 outer 0 → ⊥
unfolding count
count_none p = let e : ◌≡◌ {A = ℕ} 0 2 = p.value in omega arith

listed-only : (n : ℕ) (flags : List Bool) (x y : List ℕ) → ListedAre n flags x → ListedAre n flags y → x ≡ y
listed-only n flags x y p q = ext_get_or 0 x y (p.all ∙ sym q.all) (λ j h. go j (dec_le (suc j) (count n (chosen flags))))
  where
    go : (j : ℕ) → Dec (suc j ≤ count n (chosen flags)) → get_or x j 0 ≡ get_or y j 0
    go j (yes h) = same-member (chosen flags) (get_or x j 0) (get_or y j 0) (p.lists.inside j h) (q.lists.inside j h) (p.rises j h ∙ sym (q.rises j h))
    go j (no h) = p.rest j (omega arith) ∙ sym (q.rest j (omega arith))

pub list_settled : (n : ℕ) (flags : List Bool) (x y : List ℕ) → ListIs n flags x → ListIs n flags y → x ≡ y
list_settled n flags x y p q = go (dec_le (count n (chosen flags)) 4)
  where
    go : Dec (count n (chosen flags) ≤ 4) → x ≡ y
    go (yes h) = listed-only n flags x y (p.few h) (q.few h)
    go (no h) = p.many (omega arith) ∙ sym (q.many (omega arith))

two_chosen : count 3 (chosen outer) ≡ 2
unfolding count
two_chosen = refl

-- the last first; and one left out
pub list_falling : ListIs 3 outer (2 ∷ 0 ∷ 0 ∷ 0 ∷ []) → ⊥
unfolding count
list_falling p = let e : ◌≡◌ {A = ℕ} 1 0 = (p.few (omega (arith, two_chosen))).rises 0 (omega (arith, two_chosen)) in omega arith

pub list_leaves_out : ListIs 3 outer (0 ∷ 0 ∷ 0 ∷ 0 ∷ []) → ⊥
unfolding count
list_leaves_out p = let e : ◌≡◌ {A = ℕ} 0 1 = (p.few (omega (arith, two_chosen))).rises 1 (omega (arith, two_chosen)) in omega arith

-- five chosen, and the first four listed
pub list-cut : ListIs 5 five (0 ∷ 1 ∷ 2 ∷ 3 ∷ []) → ⊥
unfolding count
list-cut p = let e : ◌≡◌ {A = ℕ} 1 0 = ap (λ (xs : List ℕ). get_or xs 1 0) (p.many (omega arith)) in omega arith

pub points_settled : (sh : Shape) (nodes x y : List ℕ) → PointsAre sh nodes x → PointsAre sh nodes y → x ≡ y
points_settled sh nodes x y p q = ext_get_or 0 x y (p.all ∙ sym q.all) (λ j h. go j (omega (arith, h, p.all)) (dec_le 16 (get_or nodes j 0)))
  where
    go : (j : ℕ) → j < 4 → Dec (16 ≤ get_or nodes j 0) → get_or x j 0 ≡ get_or y j 0
    go j h (yes k) = p.outside j h k ∙ sym (q.outside j h k)
    go j h (no k) = p.inside j h (omega arith) ∙ sym (q.inside j h (omega arith))

-- nodes counted from 1: the points of nodes 0 and 1 are 1 and 2
pub points_shifted : PointsAre (shape 3 2) (0 ∷ 1 ∷ 2 ∷ 3 ∷ []) (2 ∷ 4 ∷ 8 ∷ 16 ∷ []) → ⊥
unfolding point_of power
points_shifted p = let e : ◌≡◌ {A = ℕ} 2 1 = p.inside 0 (omega arith) (omega arith) in omega arith

-- there is no node 16
pub points_wrap : PointsAre (shape 3 2) (16 ∷ 1 ∷ 2 ∷ 3 ∷ []) (1 ∷ 2 ∷ 4 ∷ 8 ∷ []) → ⊥
points_wrap p = let e : ◌≡◌ {A = ℕ} 1 0 = p.outside 0 (omega arith) (omega arith) in omega arith

scores-only : (s m l : ℕ) (flags : List Bool) (x y : List ℕ) → ScoresAre s m l flags x → ScoresAre s m l flags y → x ≡ y
scores-only s m l flags x y p q = ext_get_or 0 x y (p.all ∙ sym q.all) (λ a h. go a (dec_le l a))
  where
    go : (a : ℕ) → Dec (l ≤ a) → get_or x a 0 ≡ get_or y a 0
    go a (yes h) = p.rest a h ∙ sym (q.rest a h)
    go a (no h) = p.each a (omega arith) ∙ sym (q.each a (omega arith))

pub scores_settled : (sh : Shape) (flags : List Bool) (x y : List ℕ) → ScoresMeet sh flags x → ScoresMeet sh flags y → x ≡ y
scores_settled sh flags x y p q = go (refusal-cases sh)
  where
    go : ((accepted sh ≡ true) × (shape_refusal sh ≡ none)) ⊎ ((accepted sh ≡ false) × (shape_refusal sh ≡ some 1)) → x ≡ y
    go (inl e) = scores-only _ _ _ flags x y (p.inside e.1) (q.inside e.1)
    go (inr e) = p.outside e.1 ∙ sym (q.outside e.1)

-- n = 3, r = 2: with node 0 chosen, rows 0 and 2 score 1, whose lowest digit is 0
abbrev first : List Bool
first = true ∷ replicate 15 false

at : (scores : List ℕ) → ScoresMeet (shape 3 2) first scores → (a : ℕ) → a < 4 → get_or scores a 0 ≡ score 2 2 (λ v. false) (chosen first) a
unfolding rows groups group_size
at scores p a h = (p.inside bench-shape.0).each a h

pub scores-zero : ScoresMeet (shape 3 2) first (replicate 256 0) → ⊥
unfolding score count node digit
scores-zero p = let e : ◌≡◌ {A = ℕ} 0 1 = at _ p 0 (omega arith) in omega arith

-- the highest digit first
pub scores_highest_first : (rest : List ℕ) → ScoresMeet (shape 3 2) first (1 ∷ 1 ∷ 0 ∷ 0 ∷ rest) → ⊥
unfolding score count node digit
scores_highest_first rest p = let e : ◌≡◌ {A = ℕ} 1 0 = at _ p 1 (omega arith) in omega arith

-- n = 16, r = 3 isn't accepted
pub scores_of_refused : (rest : List ℕ) → ScoresMeet (shape 16 3) first (1 ∷ rest) → ⊥
unfolding shape_refusal accepted rows groups group_size
scores_of_refused rest p = let e : ◌≡◌ {A = ℕ} 1 0 = ap (λ (xs : List ℕ). get_or xs 0 0) (p.outside refl) in omega arith

pub any_settled : (scores : List ℕ) (level : ℕ) (x y : Bool) → AnyIs scores level x → AnyIs scores level y → x ≡ y
any_settled scores level true true p q = refl
any_settled scores level true false p q = let (a, h, e) = p.is refl in absurd (q.isnt refl a h e)
any_settled scores level false true p q = let (a, h, e) = q.is refl in absurd (p.isnt refl a h e)
any_settled scores level false false p q = refl

-- the last row left out
pub any_before-last : AnyIs (1 ∷ 2 ∷ []) 2 false → ⊥
any_before-last p = p.isnt refl 1 (omega arith) refl

-- past the last row there is no score, and not 0
pub any_past : AnyIs [] 0 true → ⊥
any_past p = let (a, h, e) = p.is refl in omega (arith, h)

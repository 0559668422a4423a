-- What each function promises settles its answer: two answers that one promise allows are equal. And for each, two wrong answers that it rules out, at a pack
-- with n = 3, r = 2 and one column, and at that pack with another number. In order: `wrong_total`, `first_wrong_offset`, `wrong_length`.
--   one total offset == of that pack, the header with this total, the entry with this offset, and a column of four bytes
use mathlib.Core.Path.{◌≡◌, refl, sym, ◌∙◌}
use mathlib.Core.Logic.{◌⊎◌, inl, inr}
use mathlib.Core.Bool.{Bool, true, false, true≢false}
use mathlib.Core.List.{List, [], ◌∷◌}
use Prim.Native.Nat.{ℕ}
use native.Mathlib.Omega.{arith}
use Rattle.std.specs.Prelude.{Option, None, Some}
use Rattle.std.proofs.lemmas.Option.{none-some}
use Rattle.entries.specs.Pack.{columns_at, entry_at}
use Rattle.entries.specs.Parts.{number_at, total_in, offset_in}
use Rattle.entries.specs.Refusal.{first_from, wrong_length}
use Rattle.entries.specs.Promise.{is_shorter}
use Rattle.offsets.specs.Promise.{Placeable, wrong_total_by, wrong_offset_by, WrongTotalIs, FirstWrongIs, WrongLengthIs}
use Rattle.offsets.proofs.Placing.{placeable_or}

pub wrong_total_settled : (pack : List ℕ) (start l : ℕ) (a b : Bool) → WrongTotalIs pack start l a → WrongTotalIs pack start l b → a ≡ b
wrong_total_settled pack start l a b p q = go (placeable_or pack start l)
  where
    go : Placeable pack start l ⊎ (Placeable pack start l → ⊥) → a ≡ b
    go (inl way) = p.placed way ∙ sym (q.placed way)
    go (inr out) = p.unplaced out ∙ sym (q.unplaced out)

pub first_wrong_offset_settled : (pack : List ℕ) (start l : ℕ) (x y : Option ℕ) → FirstWrongIs pack start l x → FirstWrongIs pack start l y → x ≡ y
first_wrong_offset_settled pack start l x y p q = go (placeable_or pack start l)
  where
    go : Placeable pack start l ⊎ (Placeable pack start l → ⊥) → x ≡ y
    go (inl way) = p.placed way ∙ sym (q.placed way)
    go (inr out) = p.unplaced out ∙ sym (q.unplaced out)

pub wrong_length_settled : (pack : List ℕ) (a b : Bool) → WrongLengthIs pack a → WrongLengthIs pack b → a ≡ b
wrong_length_settled pack a b p q = go (is_shorter pack) refl
  where
    go : (c : Bool) → is_shorter pack ≡ c → a ≡ b
    go true h = p.short h ∙ sym (q.short h)
    go false h = p.there h ∙ sym (q.there h)

abbrev one : ℕ → ℕ → List ℕ
one total offset = 3 ∷ 2 ∷ 1 ∷ 0 ∷ total ∷ 0 ∷ 0 ∷ 0 ∷ 2 ∷ 0 ∷ 0 ∷ 0 ∷ offset ∷ 0 ∷ 0 ∷ 0 ∷ 6 ∷ 15 ∷ 12 ∷ 30 ∷ []

one-there : (total offset : ℕ) → is_shorter (one total offset) ≡ false
unfolding is_shorter columns_at entry_at
one-there total offset = refl

one_placed : (total offset : ℕ) → Placeable (one total offset) 16 4
one_placed total offset = record { there = one-there total offset; near = omega arith; short = omega arith }

-- the total 20 refused, and 21 taken
pub wrong_total_refuses : WrongTotalIs (one 20 16) 16 4 true → ⊥
unfolding wrong_total_by total_in number_at
wrong_total_refuses p = true≢false (p.placed (one_placed 20 16))

pub wrong_total_takes : WrongTotalIs (one 21 16) 16 4 false → ⊥
unfolding wrong_total_by total_in number_at
wrong_total_takes p = true≢false (sym (p.placed (one_placed 21 16)))

-- the offset 16 refused, and 17 taken
pub first_wrong_offset_refuses : FirstWrongIs (one 20 16) 16 4 (Some 1) → ⊥
unfolding first_from wrong_offset_by offset_in number_at entry_at
first_wrong_offset_refuses p = none-some 1 (sym (p.placed (one_placed 20 16)))

pub first_wrong_offset_takes : FirstWrongIs (one 20 17) 16 4 None → ⊥
unfolding first_from wrong_offset_by offset_in number_at entry_at
first_wrong_offset_takes p = none-some 1 (p.placed (one_placed 20 17))

-- 20 bytes refused, and taken where the total is 19: an excess of one byte
pub wrong_length_refuses : WrongLengthIs (one 20 16) true → ⊥
unfolding wrong_length total_in number_at
wrong_length_refuses p = true≢false (p.there (one-there 20 16))

pub wrong_length_takes : WrongLengthIs (one 19 16) false → ⊥
unfolding wrong_length total_in number_at
wrong_length_takes p = true≢false (sym (p.there (one-there 19 16)))

-- Where columns are to stand. In order: a wrong offset; columns can be placed, or they can't; what is promised, in the words of the refusals.
use mathlib.Core.Path.{◌≡◌, refl, sym, ap₂, ◌∙◌}
use mathlib.Core.Logic.{◌⊎◌, inl, inr}
use mathlib.Core.Bool.{Bool, true, false, not, true≢false}
use mathlib.Core.List.{List}
use Prim.Native.Nat.{ℕ, ◌+◌, ◌*◌}
use native.Mathlib.Omega.{arith}
use lib.Dec.{ltb, eqb}
use borrow.Author.Tests.{ltb-true, ltb-false, ne_eqb}
use Rattle.rules.specs.Shape.{rows}
use Rattle.entries.specs.Pack.{columns_at, offset_of, total_of}
use Rattle.entries.specs.Parts.{shape_in, count_in, total_in, offset_in}
use Rattle.entries.specs.Refusal.{first_from, wrong_total, wrong_offset, first_wrong_offset}
use Rattle.entries.specs.Promise.{is_shorter}
use Rattle.entries.proofs.Good.{from_same}
use Rattle.offsets.specs.Promise.{Placeable, wrong_total_by, wrong_offset_by}

module _ (pack : List ℕ) (start l : ℕ) where
  pub offset_wrong : (e : ℕ) → (offset_in pack e ≡ start + e * l → ⊥) → wrong_offset_by pack start l e ≡ true
  unfolding wrong_offset_by
  offset_wrong e h = simp (ne_eqb (offset_in pack e) (start + e * l) h)

  pub placeable_or : Placeable pack start l ⊎ (Placeable pack start l → ⊥)
  placeable_or = go (is_shorter pack) (ltb 2048 start) (ltb 256 l) refl refl refl
    where
      go : (b d e : Bool) → is_shorter pack ≡ b → ltb 2048 start ≡ d → ltb 256 l ≡ e → Placeable pack start l ⊎ (Placeable pack start l → ⊥)
      go true d e q h k = inr (λ way. true≢false (sym q ∙ way.there))
      go false true e q h k = inr (λ way. omega (arith, way.near, ltb-true 2048 start h))
      go false false true q h k = inr (λ way. omega (arith, way.short, ltb-true 256 l k))
      go false false false q h k = inl (record { there = q; near = ltb-false 2048 start h; short = ltb-false 256 l k })

-- the columns as the rules place them
module _ (pack : List ℕ) (start l : ℕ) (begins : start ≡ columns_at (count_in pack)) (long : l ≡ rows (shape_in pack)) where
  pub total_by : wrong_total_by pack start l ≡ wrong_total pack
  unfolding wrong_total_by wrong_total total_of
  total_by = ap₂ (λ (s x : ℕ). not (eqb (total_in pack) (s + count_in pack * x))) begins long

  offset_by : (e : ℕ) → wrong_offset_by pack start l e ≡ wrong_offset pack e
  unfolding wrong_offset_by wrong_offset offset_of
  offset_by e = ap₂ (λ (s x : ℕ). not (eqb (offset_in pack e) (s + e * x))) begins long

  pub offsets_by : first_from (wrong_offset_by pack start l) 0 (count_in pack) ≡ first_wrong_offset pack
  unfolding first_wrong_offset
  offsets_by = from_same (wrong_offset_by pack start l) (wrong_offset pack) 0 (count_in pack) (λ e h k. offset_by e)

-- `systems::powers` meets its contract: each row is the one above it times the points.
use Rattle.field.specs.Number.{mul, power}
use Rattle.field.proofs.Product.{one-mul}
use Rattle.systems.specs.System.{entry}
use Rattle.distinct.proofs.Indices.{four}
use Rattle.systems.proofs.Arrays.{array_byte}
use mathlib.Core.Path.{◌≡◌, refl, sym, ap, ◌∙◌}
use mathlib.Core.List.{List, [], ◌∷◌}
use Prim.Native.Nat.{ℕ}
use lib.ListN.{get_or}
use Rattle.systems.proofs.rows.powers.Goals as goal

ones : List ℕ
ones = 1 ∷ 1 ∷ 1 ∷ 1 ∷ []

pub returns : goal.returns
unfolding power ones
returns c =
    let points = c.args.points in
    record {
      each = λ t j ht hj.
          let p = get_or points j 0 in
          let first : p ≡ power p 1 = sym (one-mul p (array_byte 4 points _ c.well_formed.0 j)) in
          let second = c.products-squares.ensures.each j hj ∙ ap (λ x. mul x p) first in
          four (λ t. entry (ones ∷ points ∷ c.products-squares.result ∷ c.products-cubes.result ∷ []) t j ≡ power p t)
          (four (λ j. get_or ones j 0 ≡ 1) refl refl refl refl j hj)
          first
          second
          (c.products-cubes.ensures.each j hj ∙ ap (λ x. mul x p) second)
          t ht;
    }

-- Columns end to end, in rising node order. In order: two stripes with the same column at each node of the set have the same columns
-- end to end; how long that is; and the other way round.
use mathlib.Core.Path.{◌≡◌, sym, ◌∙◌}
use mathlib.Core.Bool.{true}
use mathlib.Core.List.{List}
use Prim.Native.Nat.{ℕ, ◌*◌, ◌≤◌}
use lib.ListN.{length}
use Rattle.rules.specs.declared.shapes.Shape.{Shape}
use Rattle.rules.specs.Shape.{rows}
use Rattle.rules.specs.Stripe.{stripe_length, column}
use Rattle.rules.specs.Rising.{Listed}
use Rattle.rules.proofs.Pieces.{flat_same, flat_each, flat_length}
use Rattle.rules.proofs.Layouts.{column-length}
use Rattle.entries.specs.Pack.{has, nodes_of, columns_of}
use Rattle.entries.proofs.Sets.{listed_held, held_listed}

module _ (sh : Shape) (set : ℕ) where
  pub columns-same : (x y : List ℕ) → ((i : ℕ) → 1 ≤ i → i ≤ sh.n → has set i ≡ true → column sh x i ≡ column sh y i)
      → columns_of sh set x ≡ columns_of sh set y
  unfolding columns_of
  columns-same x y h = flat_same (column sh x) (column sh y) (nodes_of sh set) (λ i m. let (p, q, e) = listed_held sh set i m in h i p q e)

  module _ (x : List ℕ) (ex : length x ≡ stripe_length sh) where
    long : (i : ℕ) → Listed i (nodes_of sh set) → length (column sh x i) ≡ rows sh
    long i m = let (p, q, e) = listed_held sh set i m in column-length sh x i ex p q

    pub columns-length : length (columns_of sh set x) ≡ length (nodes_of sh set) * rows sh
    unfolding columns_of
    columns-length = flat_length (rows sh) (column sh x) (nodes_of sh set) long

  pub columns-each : (x y : List ℕ) → length x ≡ stripe_length sh → length y ≡ stripe_length sh → columns_of sh set x ≡ columns_of sh set y
      → (i : ℕ) → 1 ≤ i → i ≤ sh.n → has set i ≡ true → column sh x i ≡ column sh y i
  unfolding columns_of
  columns-each x y ex ey e i h k held =
      flat_each (column sh x) (column sh y) (nodes_of sh set) (λ a m. long x ex a m ∙ sym (long y ey a m)) e i (held_listed sh set i h k held)

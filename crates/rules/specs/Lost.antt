-- The lost set, and what filling means: document 01, "Filling lost columns".
--   is_lost lost i   == node i, which is 1 or more, is lost: bit i − 1 of the 16-bit number is a one
--   lost_count lost  == how many are lost: the count of its ones
--   bit_above sh lost == a lost bit is above n
--   is_parity sh i   == node i, of the nodes 1 to n, is a parity node: one of k + 1 to n (above n it isn't asked)
--   Filled sh L stripe later == `later` is n × l bytes, has the columns of the stripe outside the set L, which are its survivors, and is whole
use Rattle.std.specs.Prelude.{◌≡◌, Bool, false, not, List, ℕ, ◌-◌, ◌/◌, ◌%◌, ◌^◌, ◌≤◌, eqb, ltb}
use Rattle.std.specs.Int.Count.{ones}
use Rattle.rules.specs.declared.shapes.Shape.{Shape}
use Rattle.rules.specs.Shape.{data_nodes}
use Rattle.rules.specs.Stripe.{IsBytes, stripe_length, column}
use Rattle.rules.specs.Equation.{Whole}

unfoldable pub is_lost : ℕ → ℕ → Bool
is_lost lost i = eqb (lost / 2 ^ (i - 1) % 2) 1

unfoldable pub lost_count : ℕ → ℕ
lost_count lost = ones lost

unfoldable pub bit_above : Shape → ℕ → Bool
bit_above sh lost = not (eqb (lost / 2 ^ sh.n) 0)

unfoldable pub is_parity : Shape → ℕ → Bool
is_parity sh i = ltb (data_nodes sh) i

pub record Filled (sh : Shape) (L : ℕ → Bool) (stripe later : List ℕ) : Type 0 where
  pub bytes : IsBytes (stripe_length sh) later
  pub survivors : (i : ℕ) → 1 ≤ i → i ≤ sh.n → L i ≡ false → column sh later i ≡ column sh stripe i
  pub whole : Whole sh later

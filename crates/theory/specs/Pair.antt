-- The coupled pair: a node and its mate, each at its own row, whose weights hold both symbols.
--   Compared o x y    == what the answer o of comparing x with y says of them
--   flipped o         == the comparison from the other side
--   factor c o        == what a weight takes of the own symbol, beside the mate's; at the row's digit 0, since the mate is the node itself
--   unpaired c o w w' == the own symbol, from the own weight w and the mate's weight w'
use Rattle.std.specs.Prelude.{◌≡◌}
use Prim.Native.Nat.{ℕ, ◌<◌, Ordering}
use Rattle.theory.specs.Code.{Code}

abbrev pub Compared : Ordering → ℕ → ℕ → Type 0
Compared Ordering.lt x y = x < y
Compared Ordering.eq x y = x ≡ y
Compared Ordering.gt x y = y < x

abbrev pub flipped : Ordering → Ordering
flipped Ordering.lt = Ordering.gt
flipped Ordering.eq = Ordering.eq
flipped Ordering.gt = Ordering.lt

unfoldable pub factor : (c : Code) → Ordering → c.field.K
factor c Ordering.lt = c.γ
factor c Ordering.eq = c.field.zero
factor c Ordering.gt = c.field.one

unfoldable pub unpaired : (c : Code) → Ordering → c.field.K → c.field.K → c.field.K
unpaired c o w w' =
    c.field.mul (c.field.inverse (c.field.add c.γ c.field.one)) (c.field.add (c.field.mul (factor c (flipped o)) w) w')

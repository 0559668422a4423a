-- Filling level by level: the rows of score n are settled once those of a lower score are.
--   Level c k free L B n E  == E has B's symbols outside L, and the rows of a score below n meet their equations
--   symbol_off, symbol_of   == the symbol of a lost node off the row's digit, and of any; w and w' are its and its mate's weight, y the mate's symbol
--   symbol_from c free L E x a i == the symbol of the lost node i at row a, from the weights x of lost nodes and the kept symbols of E
--   Stepped c k free L n E x E' == x solves the rows of score n, and E' is E with the symbols so found stored at those rows
use Rattle.std.specs.Prelude.{◌≡◌, Bool, true, false, cond, not}
use Prim.Native.Nat.{ℕ, ◌<◌, Ordering}
use Rattle.theory.specs.Code.{Code, Stripe, nodes, rows}
use Rattle.theory.specs.Digit.{group}
use Rattle.theory.specs.Free.{weight_free, MeetsFree}
use Rattle.theory.specs.Pair.{factor, unpaired}
use Rattle.theory.specs.Power.{moment_over}
use Rattle.theory.specs.Score.{score}
use Rattle.theory.specs.Weight.{side, mate_node, mate_row}

pub record Level (c : Code) (k : ℕ) (free L : ℕ → Bool) (B : Stripe c) (n : ℕ) (E : Stripe c) : Type 0 where
  pub kept : (i a : ℕ) → i < nodes c → a < rows c → L i ≡ false → E i a ≡ B i a
  pub meets : (a : ℕ) → a < rows c → score c.s c.m free L a < n → MeetsFree c k free E a

-- off the row's digit: from the pair's two weights where the mate is lost too, and from the weight and the mate's symbol where it is kept
unfoldable pub symbol_off : (c : Code) → Ordering → Bool → c.field.K → c.field.K → c.field.K → c.field.K
symbol_off c o lost w w' y = cond lost (unpaired c o w w') (c.field.mul (c.field.inverse (factor c o)) (c.field.add w y))

unfoldable pub symbol_of : (c : Code) → Ordering → Bool → c.field.K → c.field.K → c.field.K → c.field.K
symbol_of c Ordering.lt lost w w' y = symbol_off c Ordering.lt lost w w' y
symbol_of c Ordering.eq lost w w' y = w
symbol_of c Ordering.gt lost w w' y = symbol_off c Ordering.gt lost w w' y

unfoldable pub symbol_from : (c : Code) → (ℕ → Bool) → (ℕ → Bool) → Stripe c → (ℕ → ℕ → c.field.K) → ℕ → ℕ → c.field.K
symbol_from c free L E x a i =
    cond (free (group c.s i)) (x a i)
    (symbol_of c (side c.s a i) (L (mate_node c.s a i)) (x a i) (x (mate_row c.s a i) (mate_node c.s a i))
    (E (mate_node c.s a i) (mate_row c.s a i)))

pub record Stepped (c : Code) (k : ℕ) (free L : ℕ → Bool) (n : ℕ) (E : Stripe c) (x : ℕ → ℕ → c.field.K) (E' : Stripe c) : Type 0 where
  pub solved : (a : ℕ) → a < rows c → score c.s c.m free L a ≡ n → (t : ℕ) → t < k
      → moment_over c.field (nodes c) L c.point (x a) t ≡ moment_over c.field (nodes c) (λ i. not (L i)) c.point (weight_free c free E a) t
  pub stored : (i a : ℕ) → i < nodes c → a < rows c → L i ≡ true → score c.s c.m free L a ≡ n → E' i a ≡ symbol_from c free L E x a i
  pub other-rows : (i a : ℕ) → i < nodes c → a < rows c → (score c.s c.m free L a ≡ n → ⊥) → E' i a ≡ E i a
  pub survivors : (i a : ℕ) → i < nodes c → a < rows c → L i ≡ false → E' i a ≡ E i a

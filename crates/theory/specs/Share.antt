-- What one column adds to one equation: row a of source 000's matrix A(t, i), equation (4), times the column.
--   spread c t v x a == the sum over w < s of the point at place w of group v to the power t, times x at row a with digit v set to w
--   shared c o ..    == the three cases, o being how i's place compares with the row's digit
--   share c t i x a  == the share of column x of node i in equation t of row a
use Prim.Native.Nat.{ℕ, Ordering}
use Rattle.theory.specs.Code.{Code}
use Rattle.theory.specs.Digit.{with_digit, group, node}
use Rattle.theory.specs.Weight.{side}
use Rattle.theory.specs.Power.{power, moment}

unfoldable pub spread : (c : Code) → ℕ → ℕ → (ℕ → c.field.K) → ℕ → c.field.K
spread c t v x a = moment c.field c.s (λ w. c.point (node c.s v w)) (λ w. x (with_digit c.s a v w)) t

unfoldable pub shared : (c : Code) → Ordering → ℕ → ℕ → (ℕ → c.field.K) → ℕ → c.field.K
shared c Ordering.lt t i x a = c.field.mul (c.field.mul c.γ (power c.field (c.point i) t)) (x a)
shared c Ordering.eq t i x a = spread c t (group c.s i) x a
shared c Ordering.gt t i x a = c.field.mul (power c.field (c.point i) t) (x a)

unfoldable pub share : (c : Code) → ℕ → ℕ → (ℕ → c.field.K) → ℕ → c.field.K
share c t i x a = shared c (side c.s a i) t i x a

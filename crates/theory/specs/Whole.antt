-- The equations: document 01, "The equations", with the number of equations a row as an argument.
--   equation c C a t  == the sum over all m * s nodes of point to the power t times weight, at row a
--   MeetsRow c k C a  == row a meets its first k equations
--   Whole c r C       == every row meets its r equations
--   Same c C D        == two stripes have the same symbols
--   AgreeOff c L C D  == two stripes have the same symbols outside the set L
--   AgreeBetween c L L' C D == they have the same symbols on L' without L
--   Fills c r L C D   == D is whole and has C's symbols outside L
use Rattle.std.specs.Prelude.{ℕ, ◌<◌, ◌≡◌, Bool, true, false}
use Rattle.theory.specs.Code.{Code, Stripe, nodes, rows}
use Rattle.theory.specs.Power.{moment}
use Rattle.theory.specs.Weight.{weight}

unfoldable pub equation : (c : Code) → Stripe c → ℕ → ℕ → c.field.K
equation c C a t = moment c.field (nodes c) c.point (weight c C a) t

abbrev pub MeetsRow : (c : Code) → ℕ → Stripe c → ℕ → Type 0
MeetsRow c k C a = (t : ℕ) → t < k → equation c C a t ≡ c.field.zero

abbrev pub Whole : (c : Code) → ℕ → Stripe c → Type 0
Whole c r C = (a : ℕ) → a < rows c → MeetsRow c r C a

abbrev pub Same : (c : Code) → Stripe c → Stripe c → Type 0
Same c C D = (i a : ℕ) → i < nodes c → a < rows c → C i a ≡ D i a

abbrev pub AgreeOff : (c : Code) → (ℕ → Bool) → Stripe c → Stripe c → Type 0
AgreeOff c L C D = (i a : ℕ) → i < nodes c → a < rows c → L i ≡ false → C i a ≡ D i a

abbrev pub AgreeBetween : (c : Code) → (ℕ → Bool) → (ℕ → Bool) → Stripe c → Stripe c → Type 0
AgreeBetween c L L' C D = (i a : ℕ) → i < nodes c → a < rows c → L i ≡ false → L' i ≡ true → C i a ≡ D i a

pub record Fills (c : Code) (r : ℕ) (L : ℕ → Bool) (C D : Stripe c) : Type 0 where
  pub whole : Whole c r D
  pub kept : AgreeOff c L C D

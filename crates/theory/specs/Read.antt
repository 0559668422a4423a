-- Rebuilding node f: document 01, "Fractions and rebuilding". The fractions are a stripe of which only the rows read count, and of those not f's.
--   IsRead s f a         == row a is read for the failed node f: its digit at f's group is f's place
--   MeetsRead c r f G x  == the column x at node f, with the fractions G elsewhere, meets the r equations of every row read
--   known c t f G a      == the shares of all columns but f's in equation t of row a
--   in_group_of s f i    == node i is in f's group
--   HoldsGroup c f U     == the lost set U holds f's group
--   Helps s f U i        == node i is asked for its fraction: it is not f, and is in f's group or outside the lost set U
--   Rebuilds c r f U G D == D has the fractions G of the nodes asked, and meets the r equations of every row read
use Rattle.std.specs.Prelude.{◌≡◌, Bool, true, false, not, ◌⊎◌, ℕ, ◌<◌, eqb}
use Rattle.theory.specs.Code.{Code, Stripe, nodes, rows}
use Rattle.theory.specs.Digit.{digit, group, place}
use Rattle.theory.specs.Set.{changed}
use Rattle.theory.specs.Share.{share}
use Rattle.theory.specs.Sum.{sum_over}
use Rattle.theory.specs.Whole.{MeetsRow}

abbrev pub IsRead : ℕ → ℕ → ℕ → Type 0
IsRead s f a = digit s a (group s f) ≡ place s f

abbrev pub MeetsRead : (c : Code) → ℕ → ℕ → Stripe c → (ℕ → c.field.K) → Type 0
MeetsRead c r f G x = (a : ℕ) → a < rows c → IsRead c.s f a → MeetsRow c r (changed f x G) a

unfoldable pub known : (c : Code) → ℕ → ℕ → Stripe c → ℕ → c.field.K
known c t f G a = sum_over c.field (nodes c) (λ i. not (eqb i f)) (λ i. share c t i (G i) a)

abbrev pub in_group_of : ℕ → ℕ → ℕ → Bool
in_group_of s f i = eqb (group s i) (group s f)

abbrev pub HoldsGroup : (c : Code) → ℕ → (ℕ → Bool) → Type 0
HoldsGroup c f U = (i : ℕ) → i < nodes c → group c.s i ≡ group c.s f → U i ≡ true

abbrev pub Helps : ℕ → ℕ → (ℕ → Bool) → ℕ → Type 0
Helps s f U i = (i ≡ f → ⊥) × ((group s i ≡ group s f) ⊎ (U i ≡ false))

pub record Rebuilds (c : Code) (r f : ℕ) (U : ℕ → Bool) (G D : Stripe c) : Type 0 where
  pub given : (i a : ℕ) → i < nodes c → a < rows c → IsRead c.s f a → Helps c.s f U i → D i a ≡ G i a
  pub meets : (a : ℕ) → a < rows c → IsRead c.s f a → MeetsRow c r D a

-- The parameters of a code, once and for all, and what is assumed of them. The number r of equations a row is no part of them: what needs it
-- takes it, so that s and r are apart and fewer equations than r can be spoken of.
--   field  == the numbers
--   s      == the base of the digits and the size of a group
--   m      == the number of groups; so the nodes are m * s, phantoms included, and the rows s ^ m
--   point  == the point of a node
--   γ      == the factor of the weight's third case
--   Stripe c == the symbol of a node at a row; plus and scaled are the sum of two and a multiple of one
--   Lawful == there is a place, the points of all m * s nodes differ, and γ is neither 0 nor 1
use Rattle.std.specs.Prelude.{ℕ, ◌*◌, ◌^◌, ◌<◌, ◌≡◌}
use Rattle.theory.specs.Field.{Field}
use Rattle.theory.specs.System.{Distinct}

pub record Code : Type 1 where
  pub field : Field
  pub s : ℕ
  pub m : ℕ
  pub point : ℕ → field.K
  pub γ : field.K

abbrev pub nodes : Code → ℕ
nodes c = c.m * c.s

abbrev pub rows : Code → ℕ
rows c = c.s ^ c.m

abbrev pub Stripe : Code → Type 0
Stripe c = ℕ → ℕ → c.field.K

abbrev pub plus : (c : Code) → Stripe c → Stripe c → Stripe c
plus c C D i a = c.field.add (C i a) (D i a)

abbrev pub scaled : (c : Code) → c.field.K → Stripe c → Stripe c
scaled c z C i a = c.field.mul z (C i a)

pub record Lawful (c : Code) : Type 0 where
  pub some-place : 0 < c.s
  pub distinct : Distinct c.field c.point (nodes c)
  pub γ_not_zero : c.γ ≡ c.field.zero → ⊥
  pub γ_not_one : c.γ ≡ c.field.one → ⊥

-- What each public function but `mul` promises of its result, for every input. (`mul` promises `ProductIs` of crate `field`, as `times` does.)
--   PowerIs a t r    == `power`: r is a to the power t
--   Barred b n       == a refusal with number n is due: b is 0, and n is 9
--   QuotientIs a b r == `divide`: r is the number whose product with b is a, or, where b is 0, refusal 9
-- Document 01, "Refusals in order": 9, field division by 0, and none otherwise.
use Rattle.std.specs.Prelude.{◌≡◌, ℕ, Result, Ok, Err}
use Rattle.field.specs.Number.{power, Divided}
use Rattle.rules.specs.declared.refusals.Refusal.{Refusal}
use Rattle.rules.specs.Refusal.{number_of}

pub record PowerIs (a t r : ℕ) : Type 0 where
  pub value : r ≡ power a t

pub record Barred (b n : ℕ) : Type 0 where
  pub divisor : b ≡ 0
  pub number : n ≡ 9

-- what each case of the answer means
abbrev pub QuotientIs : ℕ → ℕ → Result ℕ Refusal → Type 0
QuotientIs a b (Ok q) = Divided a b q
QuotientIs a b (Err n) = Barred b (number_of n)

-- Shapes and answers as numbers.
--   shape_of shape == the shape that a number says: its n is the lowest byte, its r the rest. A number of more than 16 bits says an r above 255, which isn't
--                     accepted
--   word_of n r    == the number of a shape: n + 256 × r, or 0, which says no accepted shape, where n or r is above 255
--                     (`word_shape`, `word_refusal` of crates/capi/proofs/Words.antt: it says that shape, and is refused as that shape is)
--   code_of answer == the number returned for an answer: 0, or the refusal's
--   refused_of code == the refusal that a returned number says: none is 0
--   Told promise code == the number returned is that of an answer which the promise allows
use Rattle.std.specs.Prelude.{◌≡◌, Result, Ok, Err, cond, ◌||◌, ℕ, ◌+◌, ◌*◌, ◌/◌, ◌%◌, eqb, ltb}
use Rattle.std.proofs.Math.Option.{Option, none, some}
use Rattle.rules.specs.declared.shapes.Shape.{Shape}
use Rattle.rules.specs.declared.refusals.Refusal.{Refusal}
use Rattle.rules.specs.Refusal.{number_of}

abbrev pub shape_of : ℕ → Shape
shape_of shape = record { n = shape % 256; r = shape / 256 }

unfoldable pub word_of : ℕ → ℕ → ℕ
word_of n r = cond (ltb 255 n || ltb 255 r) 0 (n + 256 * r)

abbrev pub code_of : {T : Type 0} → Result T Refusal → ℕ
code_of (Ok x) = 0
code_of (Err q) = number_of q

unfoldable pub refused_of : ℕ → Option ℕ
refused_of code = cond (eqb code 0) none (some code)

pub record Told (promise : Result (Unit {0}) Refusal → Type 0) (code : ℕ) : Type 0 where
  pub answer : Result (Unit {0}) Refusal
  pub said : code ≡ code_of answer
  pub meets : promise answer

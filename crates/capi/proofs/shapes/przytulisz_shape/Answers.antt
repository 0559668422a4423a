use mathlib.Core.Path.{sym}
use native.Mathlib.Omega.{arith}
use Rattle.capi.proofs.Words.{word_is, word_large_n, word_large_r}
use Rattle.capi.proofs.shapes.przytulisz_shape.Goals.{then-n-gt255-via-then-n-gt255, then-n-gt255-via-else-n-gt255+then-r-gt255}
use Rattle.capi.proofs.shapes.przytulisz_shape.Goals as goal

pub returns-then-n-gt255 : goal.returns-then-n-gt255
returns-then-n-gt255 c = elim c.then-n-gt255.branch [
  | then-n-gt255-via-then-n-gt255 w ↦ record { value = sym (word_large_n _ _ w.if-n-gt255.true) }
  | then-n-gt255-via-else-n-gt255+then-r-gt255 w ↦ record { value = sym (word_large_r _ _ (omega (arith, w.if-n-gt255.false)) w.if-r-gt255.true) }
]

pub returns : goal.returns
returns c = record { value = sym (word_is _ _ (omega (arith, c.if-n-gt255.false)) (omega (arith, c.if-r-gt255.false))) }

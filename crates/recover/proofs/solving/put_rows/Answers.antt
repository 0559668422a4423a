-- `recover::put_rows` meets its contract: each row is written from the column of its digit, at its position. The digit, and what stands above and below it, make
-- up the row, so they are what divisions would find.
use mathlib.Core.Path.{◌≡◌, sym, ap, ap₂, ◌∙◌}
use Prim.Native.Nat.{ℕ, ◌<◌, ◌+◌, ◌*◌, ◌/◌, ◌%◌}
use native.Mathlib.Nat.{div-div-eq-div-mul}
use native.Mathlib.Omega.{arith}
use lib.Arith.{digits_div, digits_mod}
use lib.ListN.{length, get_or}
use Rattle.columns.proofs.Kernels.{written_step, entry-within}
use Rattle.recover.specs.Kernel.{position_of}
use Rattle.recover.proofs.Finding.{position_lt}
use Rattle.recover.proofs.solving.put_rows.Goals as goal
use Rattle.recover.proofs.solving.put_rows.Goals.{then-j-w+then-d-s, then-j-w+else-d-s, else-j-w}
use Rattle.recover.proofs.solving.put_rows.Invariants.{Split}

module _ {s w a above d j : ℕ} (split : Split s w a above d j) where
  over-w : a / w ≡ above * s + d
  over-w = ap (λ x. x / w) split.whole ∙ digits_div (above * s + d) split.below-small

  digit-is : d ≡ a / w % s
  digit-is = sym (ap (λ x. x % s) over-w ∙ digits_mod above split.digit-small)

  above-is : above ≡ a / (w * s)
  above-is = sym (sym (div-div-eq-div-mul a w s) ∙ ap (λ x. x / s) over-w ∙ digits_div above split.digit-small)

  below-is : j ≡ a % w
  below-is = sym (ap (λ x. x % w) split.whole ∙ digits_mod (above * s + d) split.below-small)

  position_is : above * w + j ≡ position_of s w a
  position_is = ap₂ (λ x y. x * w + y) above-is below-is

  index_is : (size : ℕ) → d * size + (above * w + j) ≡ a / w % s * size + position_of s w a
  index_is size = ap₂ (λ x y. x * size + y) digit-is position_is

  -- the next row: only what stands below the digit changes, or the digit too, or all three
  split-within : (j + 1 ≡ w → ⊥) → {above' d' j' : ℕ} → above' ≡ above → d' ≡ d → j' ≡ j + 1 → Split s w (a + 1) above' d' j'
  split-within ne p q r = rw (p, q, r) (record {
    whole = omega (arith, split.whole);
    digit-small = split.digit-small;
    below-small = omega (arith, split.below-small, ne);
  })

  split-over : j + 1 ≡ w → (d + 1 ≡ s → ⊥) → {above' d' j' : ℕ} → above' ≡ above → d' ≡ d + 1 → j' ≡ 0 → Split s w (a + 1) above' d' j'
  split-over e ne p q r = rw (p, q, r) (record {
    whole = omega (arith, split.whole, e);
    digit-small = omega (arith, split.digit-small, ne);
    below-small = omega (arith, e);
  })

  split_around : j + 1 ≡ w → d + 1 ≡ s → {above' d' j' : ℕ} → above' ≡ above + 1 → d' ≡ 0 → j' ≡ 0 → Split s w (a + 1) above' d' j'
  split_around e f p q r = rw (p, q, r) (record {
    whole = omega (arith, split.whole, e, ap (λ x. x * w) f);
    digit-small = omega (arith, f);
    below-small = omega (arith, e);
  })

-- what is read is among what is found
pub bounds-found-d : goal.bounds-found-d
bounds-found-d c =
    let x = c.loop-byte in
    let here : x.byte-index < c.args.s * c.args.size = omega arith in
    let place : x.above * c.args.w + x.j < c.args.size =
    omega (arith, position_is x.invariant.1, position_lt c.args.s c.args.w c.args.size x.byte-index c.requires.w_nonzero.1 c.requires.w_nonzero.0 c.requires.s_bound.1 here)
    in
    omega (arith, entry-within x.invariant.1.digit-small place, c.requires.found_len.0)

pub loop-byte-preserved : goal.loop-byte-preserved
loop-byte-preserved c =
    let x = c.loop-byte in
    let here : x.byte-index < length c.args.column.now = omega arith in (
      written_step x.invariant.0 _ here (ap (λ i. get_or c.args.found.now i 0) (index_is x.invariant.1 c.args.size)),
      elim c.if-j-w.branch [
        | then-j-w+then-d-s w ↦ split_around x.invariant.1 w.if-j-w.true w.if-d-s.true w.above-is w.d-is w.j-is
        | then-j-w+else-d-s w ↦ split-over x.invariant.1 w.if-j-w.true w.if-d-s.false w.above-is w.d-is w.j-is
        | else-j-w w ↦ split-within x.invariant.1 w.if-j-w.false w.above-is w.d-is w.j-is
      ],
    )

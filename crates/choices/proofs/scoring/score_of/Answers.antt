-- `score_of` meets its contract: the groups below v are counted, and `rest` is the row without their digits. What a quotient leaves is the remainder.
use mathlib.Core.Path.{◌≡◌, sym, ap, ap₂, ◌∙◌}
use mathlib.Core.List.{List}
use mathlib.Core.Bool.{Bool, true, false}
use Prim.Native.Nat.{ℕ, ◌<◌, ◌+◌, ◌-◌, ◌*◌, ◌/◌, ◌%◌, ◌^◌}
use native.Mathlib.Nat.{pow-zero, pow-suc, div-one, div-div-eq-div-mul, div-add-mod', add-zero, le-mul_of_pos_right}
use native.Mathlib.Omega.{arith}
use native.Mathlib.Numerals.{add-one}
use Rattle.theory.specs.Set.{count, one_if}
use Rattle.theory.specs.Digit.{node}
use Rattle.theory.specs.Free.{no_group}
use Rattle.theory.specs.Score.{scored, score}
use Rattle.theory.proofs.Counts.{count-zero, count-suc, count_le}
use Rattle.theory.proofs.Digits.{digit_closed}
use Rattle.corrections.specs.Correction.{chosen}
use Rattle.choices.proofs.scoring.score_of.Goals as goal
use Rattle.choices.proofs.scoring.score_of.Goals.{then-flags-v, else-flags-v}

pub loop-v-init : goal.loop-v-init
loop-v-init c = record { counted = sym (count-zero _); digits = sym (ap (λ w. c.args.a / w) (pow-zero c.args.z.s) ∙ div-one c.args.a) }

pub overflow_add-sum : goal.overflow_add-sum
overflow_add-sum c =
    let some : 0 < c.args.z.s = omega arith in
    record { fits = omega (arith, count_le c.loop-v.v (scored c.args.z.s no_group (chosen c.args.flags) c.args.a), le-mul_of_pos_right c.args.z.m some) }

module _ (s : ℕ) (flags : List Bool) (a v : ℕ) {rest left : ℕ} (some : 0 < s) (digits : rest ≡ a / s ^ v) (is : left ≡ rest / s) where
  -- the code's flag is that of the node that the digit names
  flag_here : scored s no_group (chosen flags) a v ≡ chosen flags (v * s + (rest - left * s))
  unfolding node
  flag_here =
      let e : rest - left * s ≡ rest % s = omega (arith, ap (λ q. q * s) is, div-add-mod' rest s) in
      ap (λ d. chosen flags (v * s + d)) (digit_closed s some a v ∙ ap (λ q. q % s) (sym digits) ∙ sym e)

  counts-here : (b : Bool) {sum after : ℕ} → chosen flags (v * s + (rest - left * s)) ≡ b → sum ≡ count v (scored s no_group (chosen flags) a)
      → after ≡ sum + one_if b → after ≡ count (v + 1) (scored s no_group (chosen flags) a)
  counts-here b h counted e =
      e
      ∙ ap₂ ◌+◌ counted (ap one_if (sym (flag_here ∙ h)))
      ∙ sym (count-suc v (scored s no_group (chosen flags) a))
      ∙ ap (λ k. count k (scored s no_group (chosen flags) a)) (sym (add-one v))

  digits_next : left ≡ a / s ^ (v + 1)
  digits_next =
      is ∙ ap (λ q. q / s) digits ∙ div-div-eq-div-mul a (s ^ v) s ∙ ap (λ w. a / w) (sym (pow-suc s v)) ∙ ap (λ k. a / s ^ k) (sym (add-one v))

pub loop-v-preserved : goal.loop-v-preserved
loop-v-preserved c =
    let now = c.loop-v in
    let some : 0 < c.args.z.s = omega arith in
    record {
      counted = elim c.if-flags-v.branch [
        | then-flags-v w ↦ counts-here c.args.z.s c.args.flags c.args.a now.v some now.invariant.digits c.over-left.ensures true w.if-flags-v.true now.invariant.counted w.sum-is
        | else-flags-v w ↦ counts-here c.args.z.s c.args.flags c.args.a now.v some now.invariant.digits c.over-left.ensures false w.if-flags-v.false now.invariant.counted
            (w.sum-is ∙ sym (add-zero _))
      ];
      digits = digits_next c.args.z.s c.args.flags c.args.a now.v some now.invariant.digits c.over-left.ensures;
    }

pub returns : goal.returns
unfolding score
returns c =
    let e : c.loop-v.v ≡ c.args.z.m = omega arith in
    c.loop-v.invariant.counted ∙ ap (λ k. count k (scored c.args.z.s no_group (chosen c.args.flags) c.args.a)) e

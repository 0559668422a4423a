-- `weights::weigh` meets its contract: the bytes below row a are weights, and d is the digit of row a.
use Rattle.std.proofs.Common.{◌≡◌, ◌≢◌, ℕ, ◌+◌, ◌-◌, ◌*◌, ◌/◌, ◌%◌, ◌<◌, List, length, get_or, arith, ap, ap₂, ◌∙◌, below_more, get_or-set_other, get_or-set_same, slice_set}
use Prim.Native.Nat.{compare}
use Rattle.rules.specs.Equation.{weighed}
use Rattle.weights.specs.Promise.{weight_at}
use Rattle.columns.proofs.Carrying.{carried-within, carried-over, carried-around, carried_as}
use Rattle.weights.proofs.weighing.weigh.Goals as goal
use Rattle.weights.proofs.weighing.weigh.Goals.{then-j-w, else-j-w+then-d-s, else-j-w+else-d-s}

-- the code's byte, from those that it reads, is the weight
next-byte : (s w l : ℕ) (group : List ℕ) (u a d : ℕ) {own other x : ℕ} → d ≡ a / w % s → own ≡ get_or group (u * l + a) 0
    → other ≡ get_or group (d * l + (a - d * w + u * w)) 0 → x ≡ weighed (compare u d) own other
    → x ≡ weight_at s w l group u a
unfolding weight_at
next-byte s w l group u a d is e f g =
    g
    ∙ ap₂ (weighed (compare u d)) e f
    ∙ ap (λ q. weighed (compare u q) (get_or group (u * l + a) 0) (get_or group (q * l + (a - q * w + u * w)) 0)) is

-- one weight more
done_more : (new : ℕ → ℕ) (weights : List ℕ) (a x : ℕ) → a < length weights → x ≡ new a → ((k : ℕ) → k < a → get_or weights k 0 ≡ new k)
    → (k : ℕ) → k < a + 1 → get_or (slice_set weights a x) k 0 ≡ new k
done_more new weights a x inside e done =
    below_more _ _ (λ k h. let ne : k ≢ a = omega arith in rw get_or-set_other (done k h)) (rw get_or-set_same e)

pub loop-a-preserved : goal.loop-a-preserved
loop-a-preserved c =
    let was = c.loop-a.invariant.carried in
    let inside : c.loop-a.a < length c.loop-a.weights = omega arith in
    let byte =
    next-byte c.args.s c.args.w (length c.args.weights.now) c.args.group.now c.args.u c.loop-a.a c.loop-a.d
    was.digit c.byte_at-own.ensures.value c.byte_at-other.ensures.value c.coupled.ensures in
    let done = done_more _ c.loop-a.weights c.loop-a.a c.coupled.result inside byte c.loop-a.invariant.done in
    elim c.if-j-w.branch [
      | then-j-w w ↦ record {
        done = done;
        carried = carried_as w.d-is w.j-is (carried-within was (omega arith) (omega arith));
        digit_small = omega arith;
        past-small = omega arith;
      }
      | else-j-w+then-d-s w ↦ record {
        done = done;
        carried = carried_as w.d-is w.j-is (carried-over was (omega arith) (omega arith) (omega arith));
        digit_small = omega arith;
        past-small = omega arith;
      }
      | else-j-w+else-d-s w ↦ record {
        done = done;
        carried = carried_as w.d-is w.j-is (carried-around was (omega arith) (omega arith));
        digit_small = omega arith;
        past-small = omega arith;
      }
    ]

-- `Group::correct_column` meets its contract: the bytes below row a are as they are to be, those from a on the old ones, and the digit is carried along.
use mathlib.Core.Path.{◌≡◌, sym, ap, ap₂, ◌∙◌, subst}
use mathlib.Core.Bool.{Bool, cond}
use mathlib.Core.List.{List}
use Prim.Native.Nat.{ℕ, ◌+◌, ◌-◌, ◌*◌, ◌/◌, ◌%◌, compare}
use native.Mathlib.Omega.{arith}
use lib.Bits.{bit_xor}
use lib.ListN.{length, get_or}
use borrow.Author.Tests.{eq-eqb, ne_eqb}
use Rattle.field.specs.Number.{add}
use Rattle.columns.proofs.Kernels.{Written, written-here, written_step}
use Rattle.columns.proofs.Carrying.{carried_as, carried-within, carried-over, carried-around}
use Rattle.corrections.specs.Correction.{chosen, correction_by}
use Rattle.corrections.specs.Kernel.{correction_at}
use Rattle.corrections.proofs.correcting.Group.correct_column.Goals as goal
use Rattle.corrections.proofs.correcting.Group.correct_column.Goals.{then-j-self+then-d-self, then-j-self+else-d-self, else-j-self, then-asked-a, else-asked-a}
use Rattle.corrections.proofs.correcting.Group.correct_column.Invariants.{byte_at, corrected_at}

-- the code's correction, from the bytes that it reads
next-correction : (s w l m : ℕ) (group : List ℕ) (first : ℕ) (flags : List Bool) (u a : ℕ) {d own other x : ℕ} → d ≡ a / w % s → l ≡ m
    → own ≡ get_or group (u * l + a) 0
    → other ≡ get_or group (d * l + (a - d * w + u * w)) 0
    → x ≡ correction_by (compare u d) (chosen flags (first + d)) own other
    → x ≡ correction_at s w m group first flags u a
unfolding correction_at
next-correction s w l m group first flags u a {d} digit long e f g =
    g
    ∙ ap₂ (correction_by (compare u d) (chosen flags (first + d))) e f
    ∙ ap₂
    (λ (k m : ℕ).
    correction_by (compare u k) (chosen flags (first + k)) (get_or group (u * m + a) 0) (get_or group (k * m + (a - k * w + u * w)) 0))
    digit long

-- at the score asked for it is added to the old byte, elsewhere the old byte stays
added : (scores : List ℕ) (level : ℕ) (before : List ℕ) (a : ℕ) {old x z : ℕ} → get_or scores a 0 ≡ level → old ≡ get_or before a 0 → x ≡ z
    → bit_xor old x ≡ byte_at scores level before a z
unfolding add
added scores level before a {z = z} at e f =
    ap₂ bit_xor e f ∙ ap (λ b. cond b (bit_xor (get_or before a 0) z) (get_or before a 0)) (sym (eq-eqb (get_or scores a 0) level at))

stays : (scores : List ℕ) (level : ℕ) (before : List ℕ) (a z : ℕ) → (get_or scores a 0 ≡ level → ⊥) → get_or before a 0 ≡ byte_at scores level before a z
stays scores level before a z off = ap (λ b. cond b (add (get_or before a 0) z) (get_or before a 0)) (sym (ne_eqb (get_or scores a 0) level off))

pub loop-a-preserved : goal.loop-a-preserved
loop-a-preserved c =
    let x = c.loop-a in
    let group = c.args.self.now in
    let asked = c.args.asked.now in
    let before = c.args.column.now in
    let new = corrected_at group.z.s group.w group.short.now group.first asked.flags c.args.u asked.scores.now asked.level before in
    record {
      written = elim c.if-asked-a.branch [
        | then-asked-a w ↦ subst (Written new (x.a + 1) before) (sym w.column-is)
            (written_step x.invariant.written _ c.loop-a-test.true
            (added asked.scores.now asked.level before x.a w.if-asked-a.true (written-here x.invariant.written)
            (next-correction group.z.s group.w group.z.l (length before) group.short.now group.first asked.flags c.args.u x.a x.invariant.carried.digit
            (sym c.requires.rows.0) w.short_at-own.ensures.value w.short_at-other.ensures.value w.correction.ensures)))
        | else-asked-a w ↦ subst (Written new (x.a + 1) before) (sym w.column-is)
            (written_step x.invariant.written _ c.loop-a-test.true
            (written-here x.invariant.written ∙ stays asked.scores.now asked.level before x.a _ w.if-asked-a.false))
      ];
      carried = elim c.if-j-self.branch [
        | then-j-self+then-d-self w ↦ carried_as w.d-is w.j-is (carried-around x.invariant.carried w.if-j-self.true w.if-d-self.true)
        | then-j-self+else-d-self w ↦ carried_as w.d-is w.j-is (carried-over x.invariant.carried (omega (arith, c.requires.place)) w.if-j-self.true w.if-d-self.false)
        | else-j-self w ↦ carried_as w.d-is w.j-is (carried-within x.invariant.carried (omega arith) w.if-j-self.false)
      ];
    }

-- `rebuilt` is safe: the helpers are nodes, and no cut is refused.
use Rattle.std.proofs.Common.{◌≡◌, ℕ, ◌+◌, ◌-◌, ◌*◌, ◌<◌, ◌≤◌, Result, Ok, Err, IsOk, arith, refl, sym, ◌∙◌}
use mathlib.Core.Option.{none, some-ne-none}
use Rattle.rules.specs.declared.refusals.Refusal.{Refusal}
use Rattle.rules.specs.declared.shapes.Sizes.{Sizes}
use Rattle.rules.specs.Refusal.{refusal_of, number_of}
use Rattle.columns.proofs.Kernels.{column-within}
use Rattle.columns.proofs.Parts.{part_length}
use Rattle.yebarg.proofs.Refusals.{a-node, cut-accepted}
use Rattle.allshapes.specs.Promise.{helper_at}
use Rattle.allshapes.proofs.Rules.{helper_in, helper_other}
use Rattle.allshapes.proofs.shapes.Trial.rebuilt.Goals as goal

done : (answer : Result (Unit {0}) Refusal) → refusal_of answer ≡ none → IsOk answer
done (Ok _) e = refl
done (Err q) e = absurd (some-ne-none (number_of q) e)

-- a helper's fraction ends within the room of all
fraction_ends : (z : Sizes) (j size : ℕ) → j < z.shape.n - 1 → size ≤ 128 → j * size + size ≤ 1920
fraction_ends z j size more most = omega (arith, column-within size {t = j} {r = 15} (omega (arith, more, z.of_shape.n-most)), most)

pub column-requires : goal.column-requires
column-requires g c = rw c.helper_at-helper.ensures (helper_in _ _ _ c.requires.1 c.loop-j-test.true)

pub unwrap-requires : goal.unwrap-requires
unwrap-requires g c =
    let z = c.args.self.now.z in
    let node = helper_in c.args.failed c.loop-j.j z.shape.n c.requires.1 c.loop-j-test.true in
    let size = c.fraction_len-size.result in
    let inside = fraction_ends z c.loop-j.j size c.loop-j-test.true c.fraction_len-size.ensures.most in
    done c.cut.result
    (c.cut.ensures.answered
    ∙ cut-accepted z.shape _ c.args.failed _ _ z.of_shape.taken c.column.ensures
    (part_length (c.loop-j.j * size) size c.loop-j.fractions (omega (arith, inside, c.helper_at-helper.array_long)) ∙ c.fraction_len-size.ensures.is)
    (rw c.helper_at-helper.ensures (a-node z.shape _ node.0 node.1)) (a-node z.shape _ c.requires.0 c.requires.1)
    (λ e. helper_other c.args.failed c.loop-j.j (sym c.helper_at-helper.ensures ∙ e)))

-- `yebarg::cut` meets its contract: past all tests the bytes taken at the rows read are the fraction.
use Rattle.std.proofs.Common.{arith, ◌≡◌, length, rules, refl, sym, ◌∙◌}
use mathlib.Core.Option.{none}
use Rattle.rules.specs.Refusal.{shape_refusal}
use Rattle.yebarg.specs.Refusal.{cut_refusal}
use Rattle.yebarg.proofs.Cuts.{Cutting, cutting, digit-fits, taken→fraction}
use Rattle.yebarg.proofs.Refusals.{accepted_writes}
use Rattle.yebarg.proofs.cutting.cut.Goals as goal
use Rattle.yebarg.proofs.cutting.cut.Goals.{After-pow-w}

way : (c : After-pow-w) → Cutting c.args.shape c.args.failed c.in-Ok.z.s c.pow-w.result (length c.args.fraction.now) (length c.args.column.now)
way c =
    cutting c.args.shape c.in-Ok.z c.in-Ok.ensures c.in_ok-check_node-2.ensures.inside.0 c.in_ok-check_node-2.ensures.inside.1 c.pow-w.ensures
    (c.in_ok-check_len-2.ensures.when.0 refl ∙ c.fraction_len.ensures.is)
    (c.in_ok-check_len.ensures.when.0 refl)

-- the digit's worth is small
pub pow-w-requires : goal.pow-w-requires
pow-w-requires c =
    let inside = c.in_ok-check_node-2.ensures.inside in
    omega (arith, digit-fits c.in-Ok.z c.args.failed inside.0 inside.1)

pub take_rows-requires : goal.take_rows-requires
take_rows-requires c =
    let h = way (goal.at.take_rows-requires c).After-pow-w in
    record { w_nonzero = (h.counts, omega (arith, c.in-Ok.z.of_shape.s-least)); column_len_bound = (h.short, h.whole); w_len = h.periods }

pub returns : goal.returns
unfolding cut_refusal shape_refusal
returns c =
    let taken : none ≡ cut_refusal c.args.shape c.args.helper c.args.failed c.args.column.now c.args.fraction.now = search rules in
    record {
      answered = taken;
      buffer_later = accepted_writes c.args.fraction.now (sym taken) (taken→fraction (way (goal.at.returns c).After-pow-w) c.take_rows.ensures);
    }

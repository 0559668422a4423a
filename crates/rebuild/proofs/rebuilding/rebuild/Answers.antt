-- `rebuild::rebuild` meets its contract: past all tests the column that `solve_rows` finds from the sums of all helpers brings to the equations of the rows
-- read what the fractions bring.
use mathlib.Core.Path.{◌≡◌, refl, sym, ap, ◌∙◌, subst}
use mathlib.Core.Option.{none, none-ne-some}
use Prim.Native.Nat.{◌*◌}
use native.Mathlib.Omega.{arith}
use Rattle.std.proofs.Common.{rules}
use Rattle.rules.specs.Refusal.{shape_refusal}
use Rattle.rules.proofs.Accepted.{bounds}
use Rattle.columns.proofs.Parts.{zeros-length}
use Rattle.recover.specs.Promise.{RowsSolved}
use Rattle.rebuild.specs.Refusal.{rebuild_refusal}
use Rattle.rebuild.specs.Promise.{Rebuilt}
use Rattle.rebuild.proofs.Gathering.{sums_start, sums_most}
use Rattle.rebuild.proofs.Finding.{solved→meets}
use Rattle.rebuild.proofs.rebuilding.rebuild.Goals as goal

pub slice_bounds-sums-end : goal.slice_bounds-sums-end
slice_bounds-sums-end c =
    sym (zeros-length (c.in-Ok.z.shape.r * c.fraction_len-2.result) 256 (omega (arith, ap (λ n. c.in-Ok.z.shape.r * n) c.fraction_len-2.ensures.is, sums_most c.in-Ok.z)))

pub add_all-requires : goal.add_all-requires
add_all-requires c =
    let z = c.in-Ok.z in
    sums_start z.shape c.args.failed c.args.fractions.now (bounds z.shape z.of_shape.taken) z.shape.r c.fraction_len-2.result 256 refl c.fraction_len-2.ensures.is
    (omega (arith, ap (λ n. z.shape.r * n) c.fraction_len-2.ensures.is, sums_most z))

pub returns : goal.returns
unfolding rebuild_refusal shape_refusal
returns c =
    let z = c.in-Ok.z in
    let f = c.in_ok-check_node.ensures.inside in
    let taken : none ≡ rebuild_refusal c.args.shape c.args.failed c.args.fractions.now c.args.column.now = search rules in
    let solved : RowsSolved z.shape c.args.failed c.add_all.new.sums c.solve_rows.new.column = rw c.unwrap.ensures at c.solve_rows.ensures.solved in
    let rebuilt : Rebuilt z.shape c.args.failed c.args.fractions.now c.solve_rows.new.column = record {
      bytes = solved.bytes;
      meets = solved→meets z.shape (bounds z.shape z.of_shape.taken) c.args.failed f.0 f.1 c.args.fractions.now c.add_all.new.sums _ c.add_all.ensures solved;
    } in record {
      answered = taken;
      rebuilt = λ h. subst (λ sh. Rebuilt sh c.args.failed c.args.fractions.now c.solve_rows.new.column) c.in-Ok.ensures rebuilt;
      kept = λ q h. absurd (none-ne-some q (taken ∙ h));
    }

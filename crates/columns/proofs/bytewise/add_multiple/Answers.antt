-- `columns::add_multiple` meets its contract: a byte is 1 times itself.
use Rattle.std.proofs.Common.{get_or, sym, ap, ◌∙◌}
use Rattle.field.specs.Number.{add, mul}
use Rattle.field.proofs.Product.{one-mul, mul_comm}
use Rattle.columns.proofs.Adding.{multiplied-by}
use Rattle.columns.proofs.bytewise.add_multiple.Goals as goal

pub returns-then-c-eq1 : goal.returns-then-c-eq1
returns-then-c-eq1 c =
    multiplied-by c.args.c
    (λ j y same.
    let sum = get_or c.args.to.now j 0 in
    let byte = get_or c.args.from.now j 0 in
    same ∙ sym (ap (add sum) (ap (λ x. mul x byte) c.if-c-eq1.true ∙ one-mul byte (c.type_inv.from j).fits)))
    c.merge.ensures

pub returns-else-c-eq1 : goal.returns-else-c-eq1
returns-else-c-eq1 c = multiplied-by c.args.c (λ j y same. same ∙ ap (add (get_or c.args.to.now j 0)) (mul_comm _ c.args.c)) c.merge-else-c-eq1.ensures

-- `tables::power` meets its contract: the logarithm times the exponent is an exponent of 2, and exponents of 2 wrap at 255.
use mathlib.Core.Path.{sym, ap, ◌∙◌}
use Rattle.field.specs.Number.{power}
use Rattle.field.proofs.Powers.{power_zero, zero-power}
use Rattle.tables.proofs.Exponents.{power_by_log}
use borrow.Author.Rules.{rules}
use Rattle.tables.proofs.raising.power.Goals as goal

pub returns-then-t-eq0 : goal.returns-then-t-eq0
returns-then-t-eq0 c = record { value = sym (ap (power c.args.a) c.if-t-eq0.true ∙ power_zero c.args.a) }

pub returns-then-a-eq0 : goal.returns-then-a-eq0
returns-then-a-eq0 c =
    let t = c.args.t in
    record { value = sym (ap (λ x. power x t) c.if-a-eq0.true ∙ zero-power t (search rules)) }

pub returns : goal.returns
returns c =
    let l = c.logarithm.result in
    let t = c.args.t in
    record { value = c.power_of_two.ensures ∙ power_by_log l t ∙ ap (λ x. power x t) c.logarithm.ensures.1 }

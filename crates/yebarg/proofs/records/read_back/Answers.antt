-- `yebarg::read_back` meets its contract: past all tests the buffer is as long as the data columns, which are copied into it.
use Rattle.std.proofs.Common.{◌≡◌, length, take, arith, rules, refl, sym, ap, ◌∙◌}
use lib.Seq.{length-take-le}
use mathlib.Core.Option.{none}
use Rattle.rules.specs.Refusal.{shape_refusal}
use Rattle.rules.specs.Stripe.{data_length, read_back}
use Rattle.yebarg.specs.Refusal.{read_back_refusal}
use Rattle.yebarg.proofs.Lists.{copied-whole}
use Rattle.yebarg.proofs.Refusals.{accepted_writes}
use Rattle.yebarg.proofs.records.read_back.Goals as goal

pub returns : goal.returns
unfolding read_back_refusal shape_refusal read_back
returns c =
    let end = c.data_len-size.result in
    let same : length c.args.buffer.now ≡ length (take end c.args.stripe.now) = omega (arith, c.in_ok-check_len-2.ensures.when.0 refl, length-take-le end c.args.stripe.now (omega (arith, c.in_ok-check_len.ensures.when.0 refl))) in
    let taken : none ≡ read_back_refusal c.args.shape c.args.stripe.now c.args.buffer.now = search rules in
    record {
      answered = taken;
      buffer_later =
          accepted_writes c.args.buffer.now (sym taken)
          (copied-whole same c.copy.ensures ∙ ap (λ n. take n c.args.stripe.now) (c.data_len-size.ensures.is ∙ ap data_length c.in-Ok.ensures));
    }

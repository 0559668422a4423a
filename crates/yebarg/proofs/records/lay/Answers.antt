-- `yebarg::lay` meets its contract: past all tests the record stands over the front of the stripe and zeros after it up to the parity columns.
use Rattle.std.proofs.Common.{◌≡◌, ◌++◌, ◌-◌, ℕ, length, length-drop, drop, replicate, arith, rules, refl, sym, ap, ap₂, ◌∙◌}
use lib.Seq.{take-length, length-take-le}
use mathlib.Core.Option.{none}
use borrow.Rule.Slice.PartMut.{put_mid}
use Rattle.rules.specs.Refusal.{shape_refusal}
use Rattle.rules.specs.Stripe.{data_length, laid}
use Rattle.columns.proofs.Parts.{copied-over}
use Rattle.yebarg.specs.Refusal.{lay_refusal}
use Rattle.yebarg.proofs.Lists.{cleared_zeros, laid-over}
use Rattle.yebarg.proofs.Refusals.{accepted_writes}
use Rattle.yebarg.proofs.records.lay.Goals as goal

pub returns : goal.returns
unfolding lay_refusal shape_refusal laid
returns c =
    let given = c.args.rec.now in
    let stripe = c.args.stripe.now in
    let end = c.data_len-end.result in
    let exact : length stripe ≡ c.stripe_len.result = c.in_ok-check_len.ensures.when.0 refl in
    let size : end ≡ data_length c.args.shape = c.data_len-end.ensures.is ∙ ap data_length c.in-Ok.ensures in
    let copied : c.copy.new.to ≡ given ++ drop (length given) stripe =
    copied-over (omega arith) c.copy.ensures ∙ ap (λ xs. xs ++ drop (length given) stripe) (take-length given) in
    let zeros : c.clear.new.column ≡ replicate (end - length given) 0 =
    cleared_zeros c.clear.ensures ∙ ap (λ k. replicate k 0) (length-take-le (end - length given) (drop (length given) c.copy.new.to) (omega (arith, length-drop {A = ℕ}))) in
    let taken : none ≡ lay_refusal c.args.shape given stripe = search rules in
    record {
      answered = taken;
      stripe-later =
          accepted_writes stripe (sym taken)
          (ap₂ (put_mid (length given) (end - length given)) copied zeros
          ∙ laid-over given stripe end (omega arith)
          ∙ ap (λ e. given ++ replicate (e - length given) 0 ++ drop e stripe) size);
    }

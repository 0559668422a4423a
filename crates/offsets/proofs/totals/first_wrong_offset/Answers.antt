-- `offsets::first_wrong_offset` meets its contract: where columns can be placed so, no entry before e has a wrong offset.
use mathlib.Core.Path.{◌≡◌, ◌∙◌}
use mathlib.Core.Bool.{true}
use Rattle.entries.specs.Pack.{entry_at}
use Rattle.entries.specs.Parts.{offset_in}
use Rattle.entries.proofs.Checking.{first_is, none_is}
use Rattle.offsets.specs.Promise.{wrong_offset_by}
use Rattle.offsets.proofs.Placing.{offset_wrong}
use Rattle.offsets.proofs.totals.first_wrong_offset.Goals as goal

pub returns-then-four_bytes-start : goal.returns-then-four_bytes-start
unfolding offset_in entry_at
returns-then-four_bytes-start c =
    let here : wrong_offset_by c.args.pack.now c.args.start c.args.l c.loop-e.e ≡ true =
    offset_wrong c.args.pack.now c.args.start c.args.l c.loop-e.e (λ q. c.if-four_bytes-start.true (c.four_bytes.ensures ∙ q))
    in
    record {
      placed = λ way. first_is _ _ c.loop-e.e _ c.from-e-end.ensures c.loop-e-test.true here c.loop-e.invariant;
      unplaced = λ out. absurd (out (c.placeable.ensures.is c.if-not-placeable.false));
    }

pub returns : goal.returns
returns c = record {
  placed = λ way. none_is _ _ _ _ c.from-e-end.ensures c.loop-e-test.false c.loop-e.invariant;
  unplaced = λ out. absurd (out (c.placeable.ensures.is c.if-not-placeable.false));
}

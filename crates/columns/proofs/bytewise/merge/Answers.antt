-- `columns::merge` meets its contract: the bytes below j are made, those from j on the old ones.
use Rattle.std.proofs.Common.{◌≢◌, ◌<◌, length, arith, below_more, get_or-set_other, get_or-set_same, sym, subst}
use Rattle.columns.proofs.bytewise.merge.Goals as goal

pub loop-j-preserved : goal.loop-j-preserved
loop-j-preserved g c =
    let inside : c.loop-j.j < length c.loop-j.to = omega arith in
    record {
      done =
          below_more _ _
          (λ k h. let ne : k ≢ c.loop-j.j = omega arith in rw get_or-set_other (c.loop-j.invariant.done k h))
          (rw (get_or-set_same, sym (c.loop-j.invariant.kept c.loop-j.j (omega arith))) c.f.ensures);
      kept = λ k h. let ne : k ≢ c.loop-j.j = omega arith in rw get_or-set_other (c.loop-j.invariant.kept k (omega arith));
    }

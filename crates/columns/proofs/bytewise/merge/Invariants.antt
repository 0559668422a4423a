use Rattle.std.proofs.Common.{◌≡◌, ℕ, ◌<◌, ◌≤◌, slice_index}
use Rattle.columns.proofs.bytewise.merge.Given as goal

abbrev pub invariant-loop-j : goal.invariant-loop-j
invariant-loop-j g l = record {
  done : (k : ℕ) → k < l.j → g.F.Fn.post l.f (slice_index l.initial.to k, (slice_index l.from k, tt)) (slice_index l.to k);
  kept : (k : ℕ) → l.j ≤ k → slice_index l.to k ≡ slice_index l.initial.to k;
}

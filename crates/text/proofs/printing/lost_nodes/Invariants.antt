use Rattle.std.proofs.Common.{◌≡◌, ◌≤◌, length}
use Rattle.entries.proofs.Sets.{nodes_to}
use Rattle.text.proofs.printing.lost_nodes.Given as goal

abbrev pub invariant-loop-i : goal.invariant-loop-i
invariant-loop-i l = record {
  few : length l.nodes.items ≤ l.i;
  are : l.nodes.items ≡ nodes_to l.lost l.i;
}

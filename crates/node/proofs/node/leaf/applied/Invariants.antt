use Rattle.std.proofs.Common.{take, [], None}
use Rattle.node.specs.Lawful.{Rises}
use Rattle.node.specs.Leaves.{Applied}
use Rattle.node.proofs.node.leaf.applied.Given as goal

abbrev pub invariant-loop-msg : goal.invariant-loop-msg
invariant-loop-msg g l = record {
  applied : Applied g.U.Update.means (take l.msg-index l.msgs) l.entries l.new.items;
  rising : Rises [] None l.new.items;
}

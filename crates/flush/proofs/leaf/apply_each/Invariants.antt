use Rattle.std.proofs.Common.{◌≡◌, [], None}
use Rattle.node.specs.Lawful.{Rises}
use Rattle.flush.specs.Merge.{IsFilled}
use Rattle.flush.proofs.leaf.apply_each.Given as goal

abbrev pub invariant-loop-msg : goal.invariant-loop-msg
invariant-loop-msg g l = record {
  counted : l.count ≡ l.msg-index;
  filled : IsFilled g.U.Update.means l.most l.msgs l.count l.initial.entries.items l.entries.items;
  rising : Rises [] None l.entries.items;
}

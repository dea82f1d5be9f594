use Rattle.std.specs.Option.{option_copied}
use Rattle.node.specs.Subtrees.{StaysSubtree}
use Rattle.jobs.proofs.flush_below.+flush_below.Given as goal

abbrev pub decreases-flush_below : goal.decreases-flush_below
decreases-flush_below g l = l.levels

abbrev pub invariant-loop-slot : goal.invariant-loop-slot
invariant-loop-slot g l = record {
  stays : StaysSubtree g.U.Update.means l.shape (option_copied l.hi) l.initial.top.value l.top.value;
}

use Rattle.std.proofs.Common.{◌++◌, [], length}
use Rattle.message.specs.Effects.{Takes}
use Rattle.pending.proofs.pending.Pending.flush_all.Given as goal

abbrev pub invariant-loop : goal.invariant-loop
invariant-loop g l = Takes g.U.Update.means (l.fn.to.0 ++ l.fn.self.0) [] (l.to.0 ++ l.self.0)

abbrev pub decreases-loop : goal.decreases-loop
decreases-loop g l = length l.self.0

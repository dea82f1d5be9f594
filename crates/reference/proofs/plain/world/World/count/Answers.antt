use Rattle.std.proofs.Common.{sym, ◌∙◌}
use Rattle.reference.proofs.PlainSnapshots.{len-snapshots_of}
use Rattle.reference.proofs.plain.world.World.count.Goals as goal

pub returns : goal.returns
returns c = c.len.ensures.len ∙ sym (len-snapshots_of c.args.self.now.snapshots c.len.ensures.ordered)

use Rattle.volume.specs.Volumes.{live_of}
use Rattle.volume.proofs.Holding.{built_held}
use Rattle.volume.proofs.volume.Volume.finish.Goals as goal

pub install-requires : goal.install-requires
install-requires c = (built_held c.args.job c.in_ok-done.done (live_of c.args.self.now) c.in_ok-done.ensures.ok c.requires).1

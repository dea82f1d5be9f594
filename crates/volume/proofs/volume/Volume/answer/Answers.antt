use Rattle.volume.specs.Volumes.{live_of}
use Rattle.volume.proofs.Holding.{all_still_held}
use Rattle.volume.proofs.volume.Volume.answer.Goals as goal

pub returns-in-Call-clause-held : goal.returns-in-Call-clause-held
returns-in-Call-clause-held c = all_still_held c.args.held.now.items (live_of c.args.self.now) (live_of c.call.new.self) c.call.ensures.kept c.requires.held

pub returns-in-Restore-clause-held : goal.returns-in-Restore-clause-held
returns-in-Restore-clause-held c = all_still_held c.args.held.now.items (live_of c.args.self.now) (live_of c.restore.new.self) c.restore.ensures.kept c.requires.held

pub returns-in-Step-clause-held : goal.returns-in-Step-clause-held
returns-in-Step-clause-held c = all_still_held c.args.held.now.items (live_of c.args.self.now) (live_of c.step.new.self) c.step.ensures.live.kept c.requires.held

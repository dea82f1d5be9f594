use Rattle.shell.proofs.Beginnings.{goes_on_or_stays}
use Rattle.shell.proofs.dot_writer.DotWriter.put.Goals as goal

pub invariant_of-self : goal.invariant_of-self
invariant_of-self c = record { begun = goes_on_or_stays _ c.args.self.now.text.items c.args.text.now _ c.extend_from_slice.ensures.items c.args.self.now.begun }

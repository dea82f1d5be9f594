use Rattle.std.proofs.Common.{subst, sym}
use Rattle.shell.specs.Drawing.{IsDrawing}
use Rattle.shell.proofs.Beginnings.{ends}
use Rattle.shell.proofs.dot_writer.DotWriter.end.Goals as goal

pub returns : goal.returns
returns c = subst IsDrawing (sym c.in_ok-extend_from_slice.ensures.items) (ends c.args.self.text.items c.args.self.begun)

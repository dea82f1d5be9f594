use Rattle.shell.proofs.Listing.{volume_lists}
use Rattle.shell.proofs.session.VolumeSession.list.Goals as goal

pub returns : goal.returns
returns c = volume_lists c.args.self.now c.indexes.result.now c.args.path.now c.args._at c.read_lines.result c.indexes.ensures c.read_lines.ensures

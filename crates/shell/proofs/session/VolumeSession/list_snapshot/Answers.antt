use Rattle.std.proofs.Common.{subst, sym, ap}
use Rattle.std.specs.Prelude.{Result}
use Rattle.std.proofs.lemmas.Result.{err_from_is_err_and}
use Rattle.call_compiler.specs.declared.indexes.Indexes.{Indexes}
use Rattle.pathkey.specs.declared.errno.Errno.{Errno}
use Rattle.volume.specs.HistoryOf.{Finds}
use Rattle.volume.specs.declared.fs_root.FsRoot.{FsRoot}
use Rattle.shell.specs.Listings.{TellsLines}
use Rattle.shell.proofs.Listing.{found_lists, unfound_lists}
use Rattle.shell.proofs.session.VolumeSession.list_snapshot.Goals as goal

pub returns-in_err-frozen : goal.returns-in_err-frozen
returns-in_err-frozen c =
    let p = err_from_is_err_and c.from_residual.result c.from_residual.ensures.1 in
    unfound_lists c.args.self.now c.args.name.now c.args.path.now c.in_err-frozen.field-0.0 p.0 c.from_residual.result p.1 p.2 c.in_err-frozen.ensures.means

pub returns : goal.returns
returns c = found_lists c.args.self.now c.args.name.now c.args.path.now c.in_ok-frozen.field-0 c.indexes.result.now c.read_lines.result c.indexes.ensures c.in_ok-frozen.ensures.means c.read_lines.ensures

use Rattle.pathkey.specs.Texts.{parsed}
use Rattle.ffi_calls.specs.Reads.{Lists}
use Rattle.ffi_calls.proofs.Looking.{on_path, root_lists}
use Rattle.ffi_calls.proofs.reads.readdir.Goals as goal

pub returns-clause-reply : goal.returns-clause-reply
returns-clause-reply c =
    let p = c.in_ok-path.path in
    on_path (parsed c.args.path.now) p c.readdir_at.result (λ q. Lists q c.args.volume.now.live c.readdir_at.result c.args.out.now c.readdir_at.new.out) c.in_ok-path.ensures
    (root_lists c.indexes.result.now c.args.volume.now.live c.indexes.ensures p c.readdir_at.result c.args.out.now c.readdir_at.new.out c.readdir_at.ensures)

use Rattle.std.proofs.Common.{◌≡◌, ℕ, List, length, sym, subst, Ok}
use Rattle.std.specs.Prelude.{Result}
use Rattle.block_index.specs.Means.{blocks}
use Rattle.call_compiler.specs.Compiled.{MeanTree}
use Rattle.call_compiler.specs.Measured.{TellsLength}
use Rattle.call_compiler.specs.declared.indexes.Indexes.{Indexes}
use Rattle.pathkey.specs.declared.errno.Errno.{Errno}
use Rattle.reference.specs.Tree.{File, Found, entry_at}
use Rattle.volume.specs.Extents.{IsRun}
use Rattle.volume.specs.declared.fs_root.FsRoot.{FsRoot}
use Rattle.volume.proofs.frozen.Frozen.next_extent.Goals as goal

pub returns : goal.returns
returns c = λ t means.
    let size : c.in_ok-file_length.field-0 ≡ Ok c.in_ok-size.size = (cc) in
    let history_of : TellsLength (entry_at t c.args.path.now) c.in_ok-file_length.field-0 = c.in_ok-file_length.ensures.reported t (subst (λ (i : Indexes). MeanTree i t) (sym c.indexes.ensures) means) in
    let here : (date : ℕ) × (b : List ℕ) × (entry_at t c.args.path.now ≡ Found (File date b)) × (length b ≡ c.in_ok-size.size) = subst (λ (r : Result ℕ Errno). TellsLength (entry_at t c.args.path.now) r) size history_of in
    let walk : c.new-walk.result ≡ c.args.self.now = c.new-walk.ensures in (
      here.0,
      here.1,
      here.2,
      subst (λ (r : FsRoot). IsRun (blocks r.indexes.block) c.args.path.now here.1 c.args.offset c.in_ok-find_extent.field-0.0 c.in_ok-find_extent.field-0.1) walk
          (c.in_ok-find_extent.ensures t here.0 here.1 (subst (λ (r : FsRoot). MeanTree r.indexes t) (sym walk) means) here.2 here.3),
    )

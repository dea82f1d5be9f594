use Rattle.std.proofs.Common.{Ok, Err}
use Rattle.volume.specs.Forks.{RestoresTree}
use Rattle.volume.specs.Volumes.{PVolume}
use Rattle.volume.specs.declared.fs_root.FsRoot.{FsRoot}
use Rattle.ffi_calls.proofs.forks.restore_frozen.Goals as goal

-- the reply for a restored tree does not depend on the type of its errors
told : {E F : Type 0} (r : FsRoot) (u w : Unit {0}) (old new : PVolume) → RestoresTree {E = E} r (Ok u) old new → RestoresTree {E = F} r (Ok w) old new
told r u w old new h = record { done = h.done; means = h.means; refused = tt; kept = h.kept }

refused : {E F : Type 0} (r : FsRoot) (e : E) (f : F) (old new : PVolume) → RestoresTree {E = E} r (Err e) old new → RestoresTree {E = F} r (Err f) old new
refused r e f old new h = record { done = tt; means = tt; refused = h.refused; kept = h.kept }

pub returns-in-Ok-clause-restored : goal.returns-in-Ok-clause-restored
returns-in-Ok-clause-restored c = told c.args.tree.now _ _ c.args.volume.now c.restore_frozen.new.self c.in-Ok.ensures

pub returns-in-Err-clause-restored : goal.returns-in-Err-clause-restored
returns-in-Err-clause-restored c = refused c.args.tree.now _ _ c.args.volume.now c.restore_frozen.new.self c.in-Err.ensures

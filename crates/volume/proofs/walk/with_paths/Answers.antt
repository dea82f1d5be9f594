use Rattle.std.proofs.Common.{sym, subst}
use Rattle.volume.specs.Walks.{ReadsPaths}
use Rattle.volume.proofs.Walks.{paths_more}
use Rattle.volume.proofs.walk.with_paths.Goals as goal

pub loop-key-preserved : goal.loop-key-preserved
loop-key-preserved c =
    subst (ReadsPaths _) (sym c.in_ok-push.ensures.items) (paths_more c.loop-key.yielded c.loop-key.entries.items c.in-Some.key c.in-Some.meta c.in-Some-2.path _ c.loop-key.invariant c.in_ok-path.ensures c.in-Some-2.is)

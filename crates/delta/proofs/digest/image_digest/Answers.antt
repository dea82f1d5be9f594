use Rattle.std.proofs.Common.{◌≡◌, ap, subst}
use Rattle.std.specs.Result.{IfOk}
use Rattle.reference.specs.Image.{Second, image}
use Rattle.reference.specs.Tree.{Tree}
use Rattle.sha2.specs.Sha256.{sha256}
use Rattle.volume.specs.Volumes.{MeanRooted}
use Rattle.volume.specs.declared.fs_root.FsRoot.{FsRoot}
use Rattle.delta.proofs.digest.image_digest.Goals as goal

pub returns : goal.returns
returns c =
    subst
    (λ (r : FsRoot). IfOk c.digest_of-digest.result (λ digest. (t : Tree) → MeanRooted r t → digest ≡ sha256 (image Second t)))
    (ap (λ p. p.tree) c.in-Ok-new.ensures)
    c.digest_of-digest.ensures

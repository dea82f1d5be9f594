use Rattle.std.proofs.Common.{ℕ, List, ap, ◌∙◌}
use Rattle.std.specs.FinMap as finite
use Rattle.volume.specs.Volumes.{Kept, snapshot_root}
use Rattle.volume.proofs.Maps.{inserted}
use Rattle.volume.proofs.snapshots.Snapshots.add.Goals as goal

pub returns-clause-kept : goal.returns-clause-kept
returns-clause-kept c =
    inserted c.self.inside.named c.insert.new.self c.in_ok-name.name c.args.rooted c.in_ok-insert.ensures.updates
    ∙ ap (λ (n : List ℕ). finite.insert (snapshot_root c.self.inside.named) n c.args.rooted) c.in_ok-name.ensures
    ∙ ap (λ (m : Kept). finite.insert m c.args.name.now c.args.rooted) c.self.view_is

use Rattle.std.proofs.Common.{ap}
use Rattle.std.specs.FinMap as finite
use Rattle.pathkey.specs.Order.{by_bytes}
use Rattle.reference.specs.Tree.{Tree}
use Rattle.reference.specs.Worlds.{World}
use Rattle.reference.specs.Plain.{tree_of}
use Rattle.reference.proofs.PlainSnapshots.{removed}
use Rattle.reference.proofs.plain.world.World.remove.Goals as goal

pub returns : goal.returns
returns c =
    let live : Tree = tree_of c.args.self.now.live in
    ap {B = World} (λ (kept : finite.FinMap by_bytes Tree). record { live = live; snapshots = kept }) (removed c.args.self.now.snapshots c.remove-removed.new.self c.args.name.now c.remove-removed.ensures.updates)

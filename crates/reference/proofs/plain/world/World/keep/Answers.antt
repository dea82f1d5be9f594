use Rattle.std.proofs.Common.{ℕ, List, ap, ◌∙◌, ◌≡◌}
use Rattle.std.specs.FinMap as finite
use Rattle.pathkey.specs.Order.{by_bytes}
use Rattle.reference.specs.Tree.{Tree}
use Rattle.reference.specs.Worlds.{World}
use Rattle.reference.specs.Plain.{tree_of}
use Rattle.reference.specs.PlainWorlds.{snapshots_of}
use Rattle.reference.proofs.PlainSnapshots.{inserted}
use Rattle.reference.proofs.plain.world.World.keep.Goals as goal

pub returns-clause-kept : goal.returns-clause-kept
returns-clause-kept c =
    let name : c.in_ok-name.name ≡ c.args.name.now = c.in_ok-name.ensures in
    let tree : tree_of c.in_ok-tree.tree ≡ tree_of c.args.self.now.live = c.in_ok-tree.ensures in
    let kept : snapshots_of c.insert.new.self ≡ finite.insert (snapshots_of c.args.self.now.snapshots) c.in_ok-name.name (tree_of c.in_ok-tree.tree) =
    inserted c.args.self.now.snapshots c.insert.new.self c.in_ok-name.name c.in_ok-tree.tree c.in_ok-insert.ensures.updates
    in
    let named : finite.insert (snapshots_of c.args.self.now.snapshots) c.in_ok-name.name (tree_of c.in_ok-tree.tree) ≡ finite.insert (snapshots_of c.args.self.now.snapshots) c.args.name.now (tree_of c.in_ok-tree.tree) =
    ap (λ (n : List ℕ). finite.insert (snapshots_of c.args.self.now.snapshots) n (tree_of c.in_ok-tree.tree)) name
    in
    let copied : finite.insert (snapshots_of c.args.self.now.snapshots) c.args.name.now (tree_of c.in_ok-tree.tree) ≡ finite.insert (snapshots_of c.args.self.now.snapshots) c.args.name.now (tree_of c.args.self.now.live) =
    ap (finite.insert (snapshots_of c.args.self.now.snapshots) c.args.name.now) tree
    in
    ap {B = World} (λ (all : finite.FinMap by_bytes Tree). record { live = tree_of c.args.self.now.live; snapshots = all }) (kept ∙ named ∙ copied)

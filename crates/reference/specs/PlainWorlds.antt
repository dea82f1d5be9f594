-- The abstraction of the plain program's world.
use Rattle.std.specs.Prelude.{ℕ, List, map}
use Rattle.std.specs.FinMap as finite
use Rattle.std.specs.BTreeMap.{BTreeMap}
use Rattle.pathkey.specs.Order.{by_bytes}
use Rattle.reference.specs.Tree.{Tree}
use Rattle.reference.specs.Worlds.{World}
use Rattle.reference.specs.Plain.{tree_of}
use Rattle.reference.specs.declared.plain.tree.Tree.{Tree as PlainTree}
use Rattle.reference.specs.declared.plain.world.World.{World as PlainWorld}

-- names with trees, each tree read
abbrev pub trees_of : List (List ℕ × PlainTree) → List (List ℕ × Tree)
trees_of kept = map (λ e. (e.0, tree_of e.1)) kept

-- the trees of the named snapshots
abbrev pub snapshots_of : BTreeMap (List ℕ) PlainTree → finite.FinMap by_bytes Tree
snapshots_of kept = finite.from_entries (trees_of kept.entries)

-- a world of the program, as a world
abbrev pub world_of : PlainWorld → World
world_of w = record { live = tree_of w.live; snapshots = snapshots_of w.snapshots }

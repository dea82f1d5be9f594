use Rattle.std.proofs.Common.{length, ◌-◌, ◌≡◌, ◌≤◌, List, ℕ, Option, map, take, drop}
use Rattle.block_index.specs.Layers.{AreInside, with_layers, layer_in}
use Rattle.reference.specs.Indexes.{overlaid}
use Rattle.block_index.proofs.layer_data.take_all.Given as goal

-- the layers that remain, below them the current one, and below it those that are left
abbrev pub invariant-each : goal.invariant-each
invariant-each l = record {
  within : l.at ≤ length l.extents.items;
  inside : AreInside l.bytes l.extents.items;
  all : (old : Option (List ℕ)) → with_layers (take l.at (map (layer_in l.bytes) l.extents.items)) (overlaid l.top.off l.top.bytes (with_layers (drop l.at (map (layer_in l.bytes) l.extents.items)) old)) ≡ overlaid l.initial.top.off l.initial.top.bytes (with_layers (map (layer_in l.bytes) l.initial.extents.items) old);
}

abbrev pub decreases-each : goal.decreases-each
decreases-each l = length l.extents.items - l.at

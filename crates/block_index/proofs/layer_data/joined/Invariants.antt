use Rattle.std.proofs.Common.{length, ◌-◌, ◌≡◌, ◌≤◌, List, ℕ, Option, map, drop}
use Rattle.block_index.specs.Layers.{with_layers, layer_in}
use Rattle.reference.specs.Indexes.{overlaid}
use Rattle.block_index.proofs.layer_data.joined.Given as goal

-- the layers that were kept, below them the current one, and below it those that are left
abbrev pub invariant-each : goal.invariant-each
invariant-each l = record {
  within : l.at ≤ length l.extents;
  cut : l.kept.cut ≡ l.fn.none.cut;
  all : (old : Option (List ℕ)) → with_layers l.kept.layers (overlaid l.top.off l.top.bytes (with_layers (drop l.at (map (layer_in l.bytes) l.extents)) old)) ≡ overlaid l.off l.new (with_layers (map (layer_in l.bytes) l.extents) old);
}

abbrev pub decreases-each : goal.decreases-each
decreases-each l = length l.extents - l.at

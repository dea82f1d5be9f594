use Rattle.std.proofs.Common.{length, ◌≡◌, ◌≤◌, List, ℕ, Option, map, drop}
use Rattle.block_index.specs.Layers.{clipped, with_layers, layer_in}
use Rattle.block_index.proofs.layer_data.concat_layers.Given as goal

-- the oldest layers were applied, and the first ones are left
abbrev pub invariant-each : goal.invariant-each
invariant-each l = record {
  within : l.left ≤ length l.extents;
  cut : l.all.cut ≡ l.fn.first.cut;
  all : (old : Option (List ℕ)) → with_layers l.all.layers old ≡ with_layers (map (clipped l.end) (drop l.left (map (layer_in l.bytes) l.extents))) (with_layers l.fn.first.layers old);
}

abbrev pub decreases-each : goal.decreases-each
decreases-each l = l.left

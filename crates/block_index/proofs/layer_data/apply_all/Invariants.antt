use Rattle.std.proofs.Common.{length, ◌≡◌, ◌≤◌, List, ℕ, Option, map, drop}
use Rattle.block_index.specs.Layers.{with_layers, layer_in}
use Rattle.reference.specs.Indexes.{held}
use Rattle.block_index.proofs.layer_data.apply_all.Given as goal

-- the oldest layers were applied, and the first ones are left
abbrev pub invariant-each : goal.invariant-each
invariant-each l = record {
  within : l.left ≤ length l.extents;
  short : length l.own.items ≤ 4096;
  all : (o : Option (List ℕ)) → held o ≡ l.fn.old.items → l.own.items ≡ held (with_layers (drop l.left (map (layer_in l.bytes) l.extents)) o);
}

abbrev pub decreases-each : goal.decreases-each
decreases-each l = l.left

-- Which shapes a tree may have.
use Rattle.std.specs.Prelude.{ℕ, Bool, ◌&&◌, nat_le}
use Rattle.node.specs.declared.shape.Shape.{Shape}

abbrev pub is_between : ℕ → ℕ → ℕ → Bool
is_between low high n = nat_le low n && nat_le n high

-- 4 to 64 slots a node; pending pieces from as many as slots to 1,024; 4 to 1,024 entries a leaf
abbrev pub is_shape : Shape → Bool
is_shape s = is_between 4 64 s.fanout && is_between s.fanout 1024 s.pending && is_between 4 1024 s.leaf

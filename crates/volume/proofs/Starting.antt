-- The world of a new volume.
use Rattle.std.proofs.Common.{◌≡◌, refl, sym, subst, arith, ap, ◌∙◌}
use Rattle.std.specs.FinMap as finite
use Rattle.call_compiler.specs.Compiled.{MeanTree}
use Rattle.call_compiler.specs.declared.indexes.Indexes.{Indexes}
use Rattle.volume.specs.declared.fs_root.FsRoot.{FsRoot}
use Rattle.pathkey.specs.Order.{by_bytes}
use Rattle.reference.specs.Tree.{Tree, Dir, nothing}
use Rattle.node.specs.declared.shape.Shape.{Shape}
use Rattle.volume.specs.Marked.{PLive, Stands, no_marks}
use Rattle.volume.specs.Volumes.{Kept, Alike, MeanRooted, Means, IsVolume, IsNew, empty_world}
use Rattle.volume.proofs.Leading.{volume}
use Rattle.volume.proofs.Pairs.{alike_empty}

pub means_empty : (l : PLive) (m : Kept) → MeanTree l.indexes (Dir 0 nothing) → m ≡ finite.empty → Means (volume l 0 m) empty_world
means_empty l m is e = record {
  live = record { indexes = is; root = refl };
  snapshots = subst (λ (k : Kept). Alike MeanRooted k (finite.empty {X = Tree})) (sym e) (alike_empty MeanRooted);
}

pub volume_empty : (l : PLive) (m : Kept) → MeanTree l.indexes (Dir 0 nothing) → m ≡ finite.empty → Stands l → IsVolume (volume l 0 m)
volume_empty l m is e assert_invariant =
    let few : finite.len m ≡ 0 = ap (λ (k : Kept). finite.len k) e ∙ finite.len-empty by_bytes FsRoot in
    record { world = empty_world; means = means_empty l m is e; few = omega (arith, few); stands = assert_invariant }

-- a volume with new indexes
pub is_new : (shape : Shape) (i : Indexes) (l : PLive) (m : Kept) → i.meta.tree.shape ≡ shape → i.block.tree.shape ≡ shape → MeanTree i (Dir 0 nothing) → l.indexes ≡ i → l.marks ≡ no_marks 0 → m ≡ finite.empty → IsNew shape (volume l 0 m)
is_new shape i l m meta block empty same marks none = record {
  meta_shape = ap (λ (x : Indexes). x.meta.tree.shape) same ∙ meta;
  block_shape = ap (λ (x : Indexes). x.block.tree.shape) same ∙ block;
  means = means_empty l m (subst (λ (x : Indexes). MeanTree x (Dir 0 nothing)) (sym same) empty) none;
  marks = marks;
}

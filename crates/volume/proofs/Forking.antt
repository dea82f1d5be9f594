-- The tree of a fork, and a volume whose live tree was replaced by a frozen one.
use Rattle.std.proofs.Common.{◌≡◌, ℕ, List, refl, sym, subst, arith, ap, ◌∙◌, Ok, Err, Some}
use Rattle.std.specs.FinMap as finite
use Rattle.call_compiler.specs.Compiled.{MeanTree}
use Rattle.call_compiler.specs.declared.indexes.Indexes.{Indexes}
use Rattle.pathkey.specs.Order.{by_bytes}
use Rattle.pathkey.specs.declared.errno.Errno.{Errno}
use Rattle.reference.specs.Tree.{Tree}
use Rattle.reference.specs.Worlds.{World, RestoreSnapshot}
use Rattle.volume.specs.Changes.{Settles, Restored}
use Rattle.volume.specs.Forks.{IsForkOf, RestoresTree, with_live, world_of}
use Rattle.volume.specs.Laws.{Follows}
use Rattle.volume.specs.Marked.{PLive, KeepsMarks, Stands, no_marks}
use Rattle.volume.specs.Runs.{Ran, calls_alone}
use Rattle.volume.specs.Volumes.{Kept, PVolume, Alike, IsVolume, MeanRooted, MeanSome, Means, live_of}
use Rattle.volume.specs.declared.event.Answer.{Answer}
use Rattle.volume.specs.declared.event.Event.{Event}
use Rattle.volume.specs.declared.fs_root.FsRoot.{FsRoot}
use Rattle.volume.proofs.Leading.{volume, kept_all}
use Rattle.volume.proofs.Pairs.{alike_empty}

-- the indexes of a root under another name
root_means : (r : FsRoot) (i : Indexes) (t : Tree) → i ≡ r.indexes → MeanRooted r t → MeanRooted (record { indexes = i; modified = r.modified }) t
root_means r i t same is = record { indexes = subst (λ (x : Indexes). MeanTree x t) (sym same) is.indexes; root = is.root }

-- a root with the parts of another
pub same_root : (r root : FsRoot) (i : Indexes) (n : ℕ) → root ≡ record { indexes = i; modified = n } → i ≡ r.indexes → n ≡ r.modified → root ≡ r
same_root r root i n is same moment =
    let parts : r ≡ record { indexes = i; modified = n } = λ k. record { indexes = sym same k; modified = sym moment k } in
    is ∙ sym parts

-- ---- forks

fork_means : (r : FsRoot) (l : PLive) (m : Kept) (t : Tree) → l.indexes ≡ r.indexes → m ≡ finite.empty → MeanRooted r t → Means (volume l r.modified m) (world_of t)
fork_means r l m t same none is = record {
  live = root_means r l.indexes t same is;
  snapshots = subst (λ (k : Kept). Alike MeanRooted k (finite.empty {X = Tree})) (sym none) (alike_empty MeanRooted);
}

pub is_fork : (r : FsRoot) (l : PLive) (m : Kept) → l.indexes ≡ r.indexes → l.marks ≡ no_marks 0 → m ≡ finite.empty → IsForkOf r (volume l r.modified m)
is_fork r l m same marks none = record {
  is = λ k. record { live = record { indexes = same k; modified = r.modified }; snapshots = none k; marks = marks k };
  means = λ t is. fork_means r l m t same none is;
}

pub fork_lasts : (r : FsRoot) (l : PLive) (m : Kept) → l.indexes ≡ r.indexes → m ≡ finite.empty → MeanSome r → Stands l → IsVolume (volume l r.modified m)
fork_lasts r l m same none some assert_invariant =
    let few : finite.len m ≡ 0 = ap (λ (k : Kept). finite.len k) none ∙ finite.len-empty by_bytes FsRoot in
    record { world = world_of some.tree; means = fork_means r l m some.tree same none some.means; few = omega (arith, few); stands = assert_invariant }

-- ---- restored trees

restored_means : (v : PVolume) (r : FsRoot) (l : PLive) → l.indexes ≡ r.indexes → (w : World) (t : Tree) → Means v w → MeanRooted r t → Means (volume l r.modified v.snapshots) (record w { live = t })
restored_means v r l same w t m is = record { live = root_means r l.indexes t same is; snapshots = m.snapshots }

live_restored : (v : PVolume) (r : FsRoot) (l : PLive) → l.indexes ≡ r.indexes → l.marks ≡ no_marks v.marks.given → volume l r.modified v.snapshots ≡ with_live r v
live_restored v r l same marks = λ k. record { live = record { indexes = same k; modified = r.modified }; snapshots = v.snapshots; marks = marks k }

pub tree_restored : {E : Type 0} (v : PVolume) (r : FsRoot) (l : PLive) → l.indexes ≡ r.indexes → l.marks ≡ no_marks v.marks.given → KeepsMarks (live_of v) l → RestoresTree {E = E} r (Ok tt) v (volume l r.modified v.snapshots)
tree_restored v r l same marks kept = record {
  done = live_restored v r l same marks;
  means = restored_means v r l same;
  refused = tt;
  kept = kept;
}

pub restored_lasts : (v : PVolume) (r : FsRoot) (l : PLive) → IsVolume v → MeanSome r → l.indexes ≡ r.indexes → Stands l → IsVolume (volume l r.modified v.snapshots)
restored_lasts v r l is some same assert_invariant = record {
  world = record (is.world) { live = some.tree };
  means = restored_means v r l same is.world some.tree is.means some.means;
  few = is.few;
  stands = assert_invariant;
}

pub not_restored : {E : Type 0} (v : PVolume) (r : FsRoot) (e : E) → RestoresTree r (Err e) v v
not_restored v r e = record { done = tt; means = tt; refused = refl; kept = kept_all (live_of v) }

-- ---- laws

run_follows : (w : World) (es : List Event) (rs : List Answer) (v v' : PVolume) → Means v w → Ran es rs v v' → Follows w (calls_alone es rs) v'
run_follows w es rs v v' m ran = subst (λ (x : World). Follows x (calls_alone es rs) v') (sym (ran.only w m)) (ran.legal, ran.means)

pub fork_is_independent : (v v' f f' : PVolume) (w : World) (es fs : List Event) (rs qs : List Answer) → Means v w → IsForkOf v.live f → Ran es rs v v' → Ran fs qs f f'
    → Follows w (calls_alone es rs) v' × Follows (world_of w.live) (calls_alone fs qs) f'
fork_is_independent v v' f f' w es fs rs qs m fork a b = (run_follows w es rs v v' m a, run_follows (world_of w.live) fs qs f f' (fork.means w.live m.live) b)

pub restore_frozen_is_restore : (s : List ℕ) (r : FsRoot) (v new named : PVolume) → finite.get v.snapshots s ≡ Some r → RestoresTree {E = Errno} r (Ok tt) v new → Settles (RestoreSnapshot s) (Restored s) (Ok tt) v named → new ≡ named
restore_frozen_is_restore s r v new named there a b =
    let is : new ≡ with_live r v = a.done in
    let h : (finite.get v.snapshots s ≡ Some named.live) × (named.snapshots ≡ v.snapshots) × (named.marks ≡ no_marks v.marks.given) = b.done in
    let same : Some r ≡ Some named.live = sym there ∙ h.0 in
    let live : r ≡ named.live = cc in
    let last : with_live r v ≡ named = λ k. record { live = live k; snapshots = sym h.1 k; marks = sym h.2 k } in
    is ∙ last

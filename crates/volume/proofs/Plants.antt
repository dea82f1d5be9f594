-- The effect of planting an entry on indexes, and on a volume.
use Rattle.std.proofs.Common.{◌≡◌, inl, inr, sym, ap, subst, ◌∙◌, refl, ℕ, [], ◌∷◌, ◌++◌, true, false, cond, Option, None, Some, Ok, Err}
use Rattle.std.specs.Prelude.{◌&&◌, ◌⊎◌}
use Rattle.pathkey.specs.Outcomes.{when}
use Rattle.pathkey.specs.declared.errno.Errno.TheVariants.{EFBIG, ENOMEM}
use Rattle.call_compiler.proofs.RootMoment.{dated_moment, edited_keeps}
use Rattle.call_compiler.specs.Compiled.{Messages, MeanTree}
use Rattle.call_compiler.specs.declared.indexes.Indexes.{Indexes}
use Rattle.call_compiler.proofs.Appending.{meant_after}
use Rattle.call_compiler.proofs.Compiling.{meta_meant}
use Rattle.block_index.specs.Means.{blocks}
use Rattle.meta_index.specs.Means.{metadata, IsMeantBy}
use Rattle.pathkey.specs.Names.{Path, IsPath}
use Rattle.pathkey.specs.declared.errno.Errno.{Errno}
use Rattle.std.specs.Prelude.{IfOk}
use Rattle.reference.specs.Calls.{faults_of_new, first_fault, is_root}
use Rattle.reference.specs.Plant.{modified_of, fresh_entry, is_too_long, faults_of_plant, with_plant, planted, planted_unless}
use Rattle.reference.specs.Shape.{IsMoment}
use Rattle.reference.specs.Tree.{Tree, moment}
use Rattle.reference.specs.declared.reply.Meta.TheVariants.{Dir as DirMeta, File as FileMeta}
use Rattle.reference.specs.Worlds.{World, Snapped}
use Rattle.reference.specs.declared.reply.Meta.{Meta}
use Rattle.reference.proofs.Planting.{plant_law}
use Rattle.volume.specs.Plants.{PlantsIn, Plants, is_directory, one_put}
use Rattle.volume.specs.Marked.{PLive, Stands, KeepMarkedLists, KeepsMarks}
use Rattle.volume.specs.FsRoot.{after_planting}
use Rattle.volume.specs.Volumes.{PVolume, Means, IsVolume, live_of}
use Rattle.volume.proofs.Leading.{volume, same_live}
use Rattle.volume.proofs.Trees.{Appends}

-- a directory at the root has no fault
pub no_fault_at_root : (t : Tree) (p : Path) (m : Meta) → is_root p ≡ true → is_directory m ≡ true → first_fault (faults_of_plant t p m) ≡ None
no_fault_at_root t [] (DirMeta date) r d = refl
no_fault_at_root t [] (FileMeta n date) r d = absurd (cc)
no_fault_at_root t (n ∷ p) m r d = absurd (cc)

-- anything else has the faults of a new entry
pub faults_else : (t : Tree) (p : Path) (m : Meta) → (is_root p && is_directory m) ≡ false → faults_of_plant t p m ≡ faults_of_new t p ++ when (is_too_long m) EFBIG ∷ []
faults_else t [] (DirMeta date) e = absurd (cc)
faults_else t [] (FileMeta n date) e = refl
faults_else t (n ∷ p) m e = refl

pub planted_in : (a b : Indexes) (p : Path) (m : Meta) (fault : Option Errno) (msgs : Messages) → IsMoment (modified_of m) → IsPath p → fault ≡ None
    → ((t : Tree) → IsMeantBy t a.meta → fault ≡ first_fault (faults_of_plant t p m)) → msgs ≡ one_put p m → Appends msgs a b → PlantsIn p m (Ok tt) a b
planted_in a b p m fault msgs early is_path none first is appends =
    let no_fault : (t : Tree) → MeanTree a t → first_fault (faults_of_plant t p m) ≡ None = λ t means. sym (first t (meta_meant a t means)) ∙ none in
    let done : (t : Tree) → MeanTree a t → planted t p m ≡ (with_plant t p m, Ok tt) = λ t means. ap (planted_unless t (with_plant t p m)) (no_fault t means) in
    let sent : Appends (one_put p m) a b = subst (λ (x : Messages). Appends x a b) is appends in
    record {
      answer = λ t means. inl (sym (ap (λ o. o.1) (done t means)));
      means = λ t means. subst (MeanTree b) (sym (ap (λ o. o.0) (done t means))) (meant_after (with_plant t p m) a b (one_put p m) (plant_law t p m (metadata a.meta) (blocks a.block) early means is_path (no_fault t means)) sent.taken);
      message = sent.taken.meta;
      block = sent.no_block refl;
      refused = tt;
    }

-- ---- of a volume

-- live indexes in which an entry was planted, with the same marks
pub record PlantsLive (p : Path) (m : Meta) (r : Snapped) (old new : PLive) : Type 0 where
  pub entry : PlantsIn p m r old.indexes new.indexes
  pub lists : IfOk r (λ _. KeepMarkedLists (one_put p m) old new)
  pub marks : new.marks ≡ old.marks
  pub kept : KeepsMarks old new

-- the mtime of the root after it
with_plant_moment : (t : Tree) (p : Path) (m : Meta) → moment (with_plant t p m) ≡ cond (is_root p) (modified_of m) (moment t)
with_plant_moment t [] m = dated_moment (modified_of m) t
with_plant_moment t (n ∷ p) m = edited_keeps t (n ∷ p) (Some (fresh_entry m))

unless_ok : (t t' : Tree) (f : Option Errno) → ◌≡◌ {A = Snapped} (planted_unless t t' f).1 (Ok tt) → (planted_unless t t' f).0 ≡ t'
unless_ok t t' None e = refl
unless_ok t t' (Some x) e = (cc)

not_lacking : ◌≡◌ {A = Snapped} (Ok tt) (Err ENOMEM) → ⊥
not_lacking e = (cc)

planted_moment : (t : Tree) (p : Path) (m : Meta) (modified : ℕ) → ◌⊎◌ (◌≡◌ {A = Snapped} (Ok tt) (planted t p m).1) (◌≡◌ {A = Snapped} (Ok tt) (Err ENOMEM)) → moment t ≡ modified → moment (planted t p m).0 ≡ after_planting (Ok tt) p m modified
planted_moment t p m modified (inl e) same =
    ap moment (unless_ok t (with_plant t p m) (first_fault (faults_of_plant t p m)) (sym e))
    ∙ with_plant_moment t p m
    ∙ ap (λ (n : ℕ). cond (is_root p) (modified_of m) n) same
planted_moment t p m modified (inr e) same = absurd (not_lacking e)

planted_means : (v : PVolume) (l : PLive) (p : Path) (m : Meta) → PlantsIn p m (Ok tt) v.live.indexes l.indexes → (w : World) → Means v w
    → Means (volume l (after_planting (Ok tt) p m v.live.modified) v.snapshots) (record w { live = (planted w.live p m).0 })
planted_means v l p m h w means = record {
  live = record { indexes = h.means w.live means.live.indexes; root = planted_moment w.live p m v.live.modified (h.answer w.live means.live.indexes) means.live.root };
  snapshots = means.snapshots;
}

pub planted_volume : (v : PVolume) (l : PLive) (p : Path) (m : Meta) (r : Snapped) → PlantsLive p m r (live_of v) l → Plants p m r v (volume l (after_planting r p m v.live.modified) v.snapshots)
planted_volume v l p m (Ok x) h = record {
  answer = λ w means. h.entry.answer w.live means.live.indexes;
  means = planted_means v l p m h.entry;
  message = h.entry.message;
  block = h.entry.block;
  lists = h.lists;
  refused = h.entry.refused;
  snapshots = refl;
  marks = h.marks;
  kept = h.kept;
}
planted_volume v l p m (Err e) h = record {
  answer = λ w means. h.entry.answer w.live means.live.indexes;
  means = h.entry.means;
  message = h.entry.message;
  block = h.entry.block;
  lists = h.lists;
  refused = ap (λ (k : PLive). volume k v.live.modified v.snapshots) (same_live (live_of v) l h.entry.refused h.marks);
  snapshots = refl;
  marks = h.marks;
  kept = h.kept;
}

-- the invariant of volumes is preserved
pub lasts_planted : (v : PVolume) (l : PLive) (p : Path) (m : Meta) (r : Snapped) → IsVolume v → PlantsLive p m r (live_of v) l → Stands l → IsVolume (volume l (after_planting r p m v.live.modified) v.snapshots)
lasts_planted v l p m (Ok x) is h assert_invariant = record {
  world = record is.world { live = (planted is.world.live p m).0 };
  means = planted_means v l p m h.entry is.world is.means;
  few = is.few;
  stands = assert_invariant;
}
lasts_planted v l p m (Err e) is h assert_invariant = subst (λ (k : PLive). IsVolume (volume k v.live.modified v.snapshots)) (sym (same_live (live_of v) l h.entry.refused h.marks)) is

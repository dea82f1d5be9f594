-- From what a copy was compiled to, and sent, to what became of the volume.
use Rattle.std.proofs.Common.{arith, ◌≡◌, ℕ, Bool, false, take, drop, refl, sym, ap, subst, ◌∙◌, inr, Ok, Err}
use Rattle.std.specs.Prelude.{Result}
use Rattle.block_index.specs.Updates.{means as block_means}
use Rattle.block_index.specs.declared.index.BlockIndex.{BlockIndex}
use Rattle.call_compiler.specs.Compiled.{Messages, MeanTree, no_messages, touches_root}
use Rattle.call_compiler.specs.Copied.{IsCopied, copying, copying_of}
use Rattle.call_compiler.proofs.Appending.{meant_after}
use Rattle.call_compiler.proofs.Faults.{read_refused}
use Rattle.meta_index.specs.Updates.{means as meta_means}
use Rattle.meta_index.specs.declared.index.MetaIndex.{MetaIndex}
use Rattle.pathkey.specs.Names.{Path}
use Rattle.pathkey.specs.declared.errno.Errno.TheVariants.{EISDIR, ENOENT, ENOMEM, ENOTDIR}
use Rattle.reference.specs.Calls.{does, faults_of_file, first_fault}
use Rattle.reference.specs.Tree.{At, Found, Missing, Blocked, Tree, Dir, File, entry_at}
use Rattle.reference.specs.Worlds.{World, Fits, Replied, next}
use Rattle.reference.specs.declared.call.Call.{Call}
use Rattle.reference.specs.declared.call.Call.TheVariants.{Write}
use Rattle.reference.specs.declared.reply.Reply.{Reply}
use Rattle.reference.specs.declared.reply.Reply.TheVariants.{Fault}
use Rattle.reference.proofs.Unique.{one_meaning}
use Rattle.volume.specs.Changes.{AppendsLive, Does}
use Rattle.volume.specs.Copies.{Copies, copy_in}
use Rattle.volume.specs.Marked.{PLive, KeepMarkedLists, KeepsMarks, Stands}
use Rattle.volume.specs.FsRoot.{after_call, reply_to}
use Rattle.volume.specs.Typed.{IsCount}
use Rattle.volume.specs.Volumes.{PVolume, IsVolume, Means, live_of}
use Rattle.volume.proofs.HoleCalls.{root_stays}
use Rattle.volume.proofs.Leading.{volume, called, kept_same, nothing_comes, same_live}
use Rattle.volume.proofs.Trees.{Appends, nothing_appended, receives}
use Rattle.volume.proofs.Typing.{of_kind}

module _ (p : Path) (off : ℕ) (q : Path) (target n : ℕ) where
  -- a copy gives the root no mtime
  touches_none : (here : At) → touches_root (copying_of here p off q target n) ≡ false
  touches_none (Found (Dir date es)) = refl
  touches_none (Found (File date b)) = refl
  touches_none Missing = refl
  touches_none Blocked = refl

  copied_root : (here : At) (r : Reply) (at modified : ℕ) → after_call (touches_root (copying_of here p off q target n)) r at modified ≡ modified
  copied_root here r at modified = ap (λ (b : Bool). after_call b r at modified) (touches_none here) ∙ root_stays r at modified

  -- a number of bytes is replied, or a fault
  count_at : (at : ℕ) (t : Tree) (here : At) → entry_at t p ≡ here → IsCount (does at t (copying_of here p off q target n)).1
  count_at at t (Found (Dir date es)) e = subst IsCount (sym (read_refused at t p off 0 EISDIR (ap (λ (a : At). first_fault (faults_of_file a EISDIR)) e))) tt
  count_at at t (Found (File date b)) e = of_kind (Write q target (take n (drop off b))) at t
  count_at at t Missing e = subst IsCount (sym (read_refused at t p off 0 ENOENT (ap (λ (a : At). first_fault (faults_of_file a EISDIR)) e))) tt
  count_at at t Blocked e = subst IsCount (sym (read_refused at t p off 0 ENOTDIR (ap (λ (a : At). first_fault (faults_of_file a EISDIR)) e))) tt

-- an allocation failed
pub lacks_copy : (v : PVolume) (p : Path) (off : ℕ) (q : Path) (target n at : ℕ) (l : PLive) → l ≡ live_of v → Copies p off q target n at (Fault ENOMEM) v (volume l v.live.modified v.snapshots)
lacks_copy v p off q target n at l e = record {
  leads = λ w m. (inr refl, subst (λ (k : PLive). Means (volume k v.live.modified v.snapshots) w) (sym e) m);
  refused = λ x h. ap (λ (k : PLive). volume k v.live.modified v.snapshots) e;
  nothing = λ h. absurd (cc);
  batch = record { msgs = no_messages; few = (omega arith, λ m h. omega arith); meta = ap (λ (k : PLive). k.indexes.meta.tree) e; block = ap (λ (k : PLive). k.indexes.block.tree) e; lists = nothing_comes (live_of v) l e };
  snapshots = refl;
  marks = ap (λ (k : PLive). k.marks) e;
  kept = kept_same (live_of v) l e;
}

module _ (v : PVolume) (is : IsVolume v) (p : Path) (off : ℕ) (q : Path) (target n at : ℕ) (l : PLive) where
  -- the volume with other live indexes
  abbrev new : PVolume
  new = volume l v.live.modified v.snapshots

  module _ (r : Reply) (msgs : Messages) (made : IsCopied v.live.indexes p off q target n at r msgs) (arrives : Appends msgs v.live.indexes l.indexes) (lists : KeepMarkedLists msgs (live_of v) l) (marks : l.marks ≡ v.marks) (kept_marks : KeepsMarks (live_of v) l) where
    -- the copy in the one tree that is meant
    does_it : (w : World) → Means v w → Does (copying p off q target n w.live) at r v.live.indexes l.indexes
    does_it w m t meant =
        let c : Call = copying p off q target n w.live in
        let same : w.live ≡ t = one_meaning w.live t _ _ m.live.indexes meant in
        subst (λ (u : Tree). (r ≡ (does at u c).1) × MeanTree l.indexes (does at u c).0) same
        (made.reply w.live m.live.indexes, meant_after (does at w.live c).0 v.live.indexes l.indexes msgs (made.tree w.live m.live.indexes) arrives.taken)

    same_volume : msgs ≡ no_messages → new ≡ v
    same_volume none = ap (λ (k : PLive). volume k v.live.modified v.snapshots) (same_live (live_of v) l (nothing_appended v.live.indexes l.indexes msgs none arrives) marks)

    copied : Copies p off q target n at r v new
    copied = record {
      leads = λ w m. subst (λ (k : ℕ). Fits w (copy_in p off q target n at w) (Replied r) × Means (volume l k v.snapshots) (next w (copy_in p off q target n at w) (Replied r))) (copied_root p off q target n (entry_at w.live p) r at v.live.modified) (called v (copying p off q target n w.live) at r l (does_it w m) w m);
      refused = λ e h. same_volume (made.fault e h);
      nothing = λ h. same_volume (made.nothing h);
      batch = record {
        msgs = msgs;
        few = made.few;
        meta = receives meta_means msgs.meta v.live.indexes.meta.tree l.indexes.meta.tree arrives.taken.meta (λ e. ap (λ (x : MetaIndex). x.tree) (arrives.no_meta e));
        block = receives block_means msgs.block v.live.indexes.block.tree l.indexes.block.tree arrives.taken.block (λ e. ap (λ (x : BlockIndex). x.tree) (arrives.no_block e));
        lists = lists;
      };
      snapshots = refl;
      marks = marks;
      kept = kept_marks;
    }

  -- what is replied
  pub answered_copy : {T E : Type 0} (r : Reply) (msgs : Messages) (a : Result T E) → IsCopied v.live.indexes p off q target n at r msgs → AppendsLive msgs a (live_of v) l → Copies p off q target n at (reply_to a r) v new
  answered_copy r msgs (Ok x) made h = copied r msgs made (record { taken = h.taken; no_meta = h.no_meta; no_block = h.no_block }) h.lists h.marks h.kept
  answered_copy r msgs (Err e) made h = lacks_copy v p off q target n at l h.err

  -- its kind
  pub copy_count : {T E : Type 0} (r : Reply) (msgs : Messages) (a : Result T E) → IsCopied v.live.indexes p off q target n at r msgs → IsCount (reply_to a r)
  copy_count r msgs (Ok x) made = subst IsCount (sym (made.reply is.world.live is.means.live.indexes)) (count_at p off q target n at is.world.live (entry_at is.world.live p) refl)
  copy_count r msgs (Err e) made = tt

  -- the type of volumes keeps what it keeps
  pub copy_lasts : (r : Reply) → Copies p off q target n at r v new → Stands l → IsVolume new
  copy_lasts r made assert_invariant = record { world = next is.world (copy_in p off q target n at is.world) (Replied r); means = (made.leads is.world is.means).1; few = is.few; stands = assert_invariant }

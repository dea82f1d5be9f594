-- From what a hole was compiled to, and sent, to its effect on the volume.
use Rattle.std.proofs.Common.{arith, ◌≡◌, ℕ, Bool, true, false, cond, refl, sym, ap, subst, ◌∙◌, inr, Ok, Err}
use Rattle.std.specs.Prelude.{Result, ◌&&◌}
use Rattle.block_index.specs.Updates.{means as block_means}
use Rattle.block_index.specs.declared.index.BlockIndex.{BlockIndex}
use Rattle.call_compiler.specs.Compiled.{Messages, MeanTree, no_messages}
use Rattle.call_compiler.specs.Punched.{IsPunched, zeroing}
use Rattle.call_compiler.proofs.Appending.{meant_after}
use Rattle.meta_index.specs.Updates.{means as meta_means}
use Rattle.meta_index.specs.declared.index.MetaIndex.{MetaIndex}
use Rattle.pathkey.specs.Keys.{block_key}
use Rattle.pathkey.specs.Names.{Path}
use Rattle.pathkey.specs.declared.errno.Errno.TheVariants.{ENOMEM}
use Rattle.reference.specs.Calls.{does, is_done}
use Rattle.reference.specs.Tree.{Tree}
use Rattle.reference.specs.Worlds.{World, Fits, Replied, next}
use Rattle.reference.specs.declared.call.Call.{Call}
use Rattle.reference.specs.declared.reply.Reply.{Reply}
use Rattle.reference.specs.declared.reply.Reply.TheVariants.{Fault}
use Rattle.reference.proofs.Unique.{one_meaning}
use Rattle.volume.specs.Changes.{AppendsLive, Does}
use Rattle.volume.specs.Holes.{Punches, hole_in}
use Rattle.volume.specs.Marked.{PLive, KeepMarkedLists, KeepsMarks, Stands}
use Rattle.volume.specs.FsRoot.{after_call, reply_to}
use Rattle.volume.specs.Typed.{IsCount}
use Rattle.volume.specs.Volumes.{PVolume, IsVolume, Means, live_of}
use Rattle.volume.proofs.Leading.{volume, called, kept_same, nothing_comes, same_live}
use Rattle.volume.proofs.Trees.{Appends, nothing_appended, receives}
use Rattle.volume.proofs.Typing.{of_kind}

-- a write does not change the mtime of the root
pub root_stays : (r : Reply) (at modified : ℕ) → after_call false r at modified ≡ modified
root_stays r at modified = never (is_done r)
  where
    never : (b : Bool) → cond (b && false) at modified ≡ modified
    never true = refl
    never false = refl

-- an allocation failure
pub lacks_hole : (v : PVolume) (p : Path) (off n at : ℕ) (l : PLive) → l ≡ live_of v → Punches p off n at (Fault ENOMEM) v (volume l v.live.modified v.snapshots)
lacks_hole v p off n at l e = record {
  leads = λ w m. (inr refl, subst (λ (k : PLive). Means (volume k v.live.modified v.snapshots) w) (sym e) m);
  refused = λ x h. ap (λ (k : PLive). volume k v.live.modified v.snapshots) e;
  nothing = λ h. absurd (cc);
  batch = record { msgs = no_messages; few = (omega arith, omega arith); meta = ap (λ (k : PLive). k.indexes.meta.tree) e; block = ap (λ (k : PLive). k.indexes.block.tree) e; lists = nothing_comes (live_of v) l e };
  gone = λ m h i li low high. absurd (cc);
  snapshots = refl;
  marks = ap (λ (k : PLive). k.marks) e;
  kept = kept_same (live_of v) l e;
}

module _ (v : PVolume) (is : IsVolume v) (p : Path) (off n at : ℕ) (l : PLive) where
  -- the volume with other live indexes
  abbrev new : PVolume
  new = volume l v.live.modified v.snapshots

  module _ (r : Reply) (msgs : Messages) (made : IsPunched v.live.indexes p off n at r msgs) (arrives : Appends msgs v.live.indexes l.indexes) (lists : KeepMarkedLists msgs (live_of v) l) (marks : l.marks ≡ v.marks) (snapshot_root : KeepsMarks (live_of v) l) where
    -- the write of zeros in the one tree of the indexes
    does_it : (w : World) → Means v w → Does (zeroing p off n w.live) at r v.live.indexes l.indexes
    does_it w m t meant =
        let c : Call = zeroing p off n w.live in
        let same : w.live ≡ t = one_meaning w.live t _ _ m.live.indexes meant in
        subst (λ (u : Tree). (r ≡ (does at u c).1) × MeanTree l.indexes (does at u c).0) same
        (made.reply w.live m.live.indexes, meant_after (does at w.live c).0 v.live.indexes l.indexes msgs (made.tree w.live m.live.indexes) arrives.taken)

    same_volume : msgs ≡ no_messages → new ≡ v
    same_volume none = ap (λ (k : PLive). volume k v.live.modified v.snapshots) (same_live (live_of v) l (nothing_appended v.live.indexes l.indexes msgs none arrives) marks)

    punched : Punches p off n at r v new
    punched = record {
      leads = λ w m. subst (λ (k : ℕ). Fits w (hole_in p off n at w) (Replied r) × Means (volume l k v.snapshots) (next w (hole_in p off n at w) (Replied r))) (root_stays r at v.live.modified) (called v (zeroing p off n w.live) at r l (does_it w m) w m);
      refused = λ e h. same_volume (made.fault e h);
      nothing = λ h. same_volume (made.nothing h);
      batch = record {
        msgs = msgs;
        few = made.few;
        meta = receives meta_means msgs.meta v.live.indexes.meta.tree l.indexes.meta.tree arrives.taken.meta (λ e. ap (λ (x : MetaIndex). x.tree) (arrives.no_meta e));
        block = receives block_means msgs.block v.live.indexes.block.tree l.indexes.block.tree arrives.taken.block (λ e. ap (λ (x : BlockIndex). x.tree) (arrives.no_block e));
        lists = lists;
      };
      gone = λ m e i li low high. arrives.taken.block.value_after (block_key p i) ∙ made.gone is.world.live is.means.live.indexes m e i li low high;
      snapshots = refl;
      marks = marks;
      kept = snapshot_root;
    }

  -- the reply
  pub answered_hole : {T E : Type 0} (r : Reply) (msgs : Messages) (a : Result T E) → IsPunched v.live.indexes p off n at r msgs → AppendsLive msgs a (live_of v) l → Punches p off n at (reply_to a r) v new
  answered_hole r msgs (Ok x) made h = punched r msgs made (record { taken = h.taken; no_meta = h.no_meta; no_block = h.no_block }) h.lists h.marks h.kept
  answered_hole r msgs (Err e) made h = lacks_hole v p off n at l h.err

  -- its kind
  pub hole_count : {T E : Type 0} (r : Reply) (msgs : Messages) (a : Result T E) → IsPunched v.live.indexes p off n at r msgs → IsCount (reply_to a r)
  hole_count r msgs (Ok x) made = subst IsCount (sym (made.reply is.world.live is.means.live.indexes)) (of_kind (zeroing p off n is.world.live) at is.world.live)
  hole_count r msgs (Err e) made = tt

  -- the invariant of volumes is preserved
  pub hole_lasts : (r : Reply) → Punches p off n at r v new → Stands l → IsVolume new
  hole_lasts r made assert_invariant = record { world = next is.world (hole_in p off n at is.world) (Replied r); means = (made.leads is.world is.means).1; few = is.few; stands = assert_invariant }

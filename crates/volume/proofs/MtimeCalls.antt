-- From what setting an mtime was compiled to, and sent, to its effect on the volume.
use Rattle.std.proofs.Common.{arith, ◌≡◌, ℕ, [], Option, None, Some, cond, refl, sym, ap, subst, ◌∙◌, inl, inr, Ok, Err}
use Rattle.std.specs.Prelude.{Result, ◌&&◌, ◌∷◌, ◌⊎◌}
use Rattle.call_compiler.specs.Compiled.{Messages, no_messages}
use Rattle.call_compiler.specs.Mtimes.{SetsMtime as CompilesMtime, mtime_set}
use Rattle.call_compiler.proofs.Appending.{meant_after}
use Rattle.call_compiler.proofs.Mtimes.{mtime_moment}
use Rattle.meta_index.specs.Updates.{means as meta_means}
use Rattle.meta_index.specs.declared.index.MetaIndex.{MetaIndex}
use Rattle.pathkey.specs.Names.{Path, is_root}
use Rattle.pathkey.specs.declared.errno.Errno.{Errno}
use Rattle.pathkey.specs.declared.errno.Errno.TheVariants.{ENOMEM}
use Rattle.reference.specs.Calls.{is_done, path_fault, unless}
use Rattle.reference.specs.Tree.{Tree, entry_at, moment, touched}
use Rattle.reference.specs.Worlds.{World}
use Rattle.reference.specs.declared.reply.Reply.{Reply}
use Rattle.reference.specs.declared.reply.Reply.TheVariants.{Done, Fault}
use Rattle.volume.specs.Changes.{AppendsLive}
use Rattle.volume.specs.FsRoot.{after_call, reply_to}
use Rattle.volume.specs.Marked.{PLive, KeepMarkedLists, KeepsMarks, Stands}
use Rattle.volume.specs.Mtimes.{SetsMtime, Sets, with_mtime}
use Rattle.volume.specs.Typed.{IsSettled}
use Rattle.volume.specs.Volumes.{PVolume, IsVolume, Means, live_of}
use Rattle.volume.proofs.Leading.{volume, kept_same, nothing_comes, same_live}
use Rattle.volume.proofs.Trees.{Appends, nothing_appended, receives}

-- the mtime that is stored beside the indexes is that of the root after it
root_after : (p : Path) (at modified : ℕ) (r : Reply) (t : Tree) → r ≡ (mtime_set at t p).1 → moment t ≡ modified → moment (mtime_set at t p).0 ≡ after_call (is_root p) r at modified
root_after p at modified r t reply same =
    mtime_moment at t p
    ∙ ap (λ (q : Reply). cond (is_done q && is_root p) at (moment t)) (sym reply)
    ∙ ap (λ (n : ℕ). cond (is_done r && is_root p) at n) same

-- a reply is Done or a fault
settled : (f : Option Errno) (at : ℕ) (t : Tree) (p : Path) → IsSettled (unless t (f ∷ []) (touched at t p, Done)).1
settled None at t p = tt
settled (Some e) at t p = tt

-- an allocation failure
pub lacks_mtime : (v : PVolume) (p : Path) (at : ℕ) (l : PLive) → l ≡ live_of v → SetsMtime p at (Fault ENOMEM) v (volume l v.live.modified v.snapshots)
lacks_mtime v p at l e = record {
  leads = λ w m. inr refl;
  refused = λ x h. ap (λ (k : PLive). volume k v.live.modified v.snapshots) e;
  batch = record { msgs = no_messages; one = (omega arith, refl); meta = ap (λ (k : PLive). k.indexes.meta.tree) e; block = ap (λ (k : PLive). k.indexes.block) e; lists = nothing_comes (live_of v) l e };
  snapshots = refl;
  marks = ap (λ (k : PLive). k.marks) e;
  kept = kept_same (live_of v) l e;
}

module _ (v : PVolume) (is : IsVolume v) (p : Path) (at : ℕ) (l : PLive) where
  -- the volume with other live indexes, after this reply
  abbrev pub after : Reply → PVolume
  after r = volume l (after_call (is_root p) r at v.live.modified) v.snapshots

  module _ (r : Reply) (msgs : Messages) (made : CompilesMtime v.live.indexes p at r msgs) (arrives : Appends msgs v.live.indexes l.indexes) (lists : KeepMarkedLists msgs (live_of v) l) (marks : l.marks ≡ v.marks) (kept : KeepsMarks (live_of v) l) where
    sets : (w : World) → Means v w → Sets p at r (after r) w
    sets w m = (
      made.reply w.live m.live.indexes,
      record {
        live = record {
          indexes = meant_after (mtime_set at w.live p).0 v.live.indexes l.indexes msgs (made.tree w.live m.live.indexes) arrives.taken;
          root = root_after p at v.live.modified r w.live (made.reply w.live m.live.indexes) m.live.root;
        };
        snapshots = m.snapshots;
      },
    )

    -- a fault changes nothing
    same : (e : Errno) → r ≡ Fault e → after r ≡ v
    same e h =
        ap (λ (k : PLive). volume k (after_call (is_root p) r at v.live.modified) v.snapshots) (same_live (live_of v) l (nothing_appended v.live.indexes l.indexes msgs (made.fault e h) arrives) marks)
        ∙ ap (λ (q : Reply). volume (live_of v) (after_call (is_root p) q at v.live.modified) v.snapshots) h

    done : SetsMtime p at r v (after r)
    done = record {
      leads = λ w m. inl (sets w m);
      refused = same;
      batch = record {
        msgs = msgs;
        one = made.one;
        meta = receives meta_means msgs.meta v.live.indexes.meta.tree l.indexes.meta.tree arrives.taken.meta (λ e. ap (λ (x : MetaIndex). x.tree) (arrives.no_meta e));
        block = arrives.no_block made.one.1;
        lists = lists;
      };
      snapshots = refl;
      marks = marks;
      kept = kept;
    }

  -- the reply
  pub answered_mtime : {T E : Type 0} (r : Reply) (msgs : Messages) (a : Result T E) → CompilesMtime v.live.indexes p at r msgs → AppendsLive msgs a (live_of v) l → SetsMtime p at (reply_to a r) v (after (reply_to a r))
  answered_mtime r msgs (Ok x) made h = done r msgs made (record { taken = h.taken; no_meta = h.no_meta; no_block = h.no_block }) h.lists h.marks h.kept
  answered_mtime r msgs (Err e) made h = lacks_mtime v p at l h.err

  -- its kind
  pub mtime_settled : {T E : Type 0} (r : Reply) (msgs : Messages) (a : Result T E) → CompilesMtime v.live.indexes p at r msgs → IsSettled (reply_to a r)
  mtime_settled r msgs (Ok x) made = subst IsSettled (sym (made.reply is.world.live is.means.live.indexes)) (settled (path_fault (entry_at is.world.live p)) at is.world.live p)
  mtime_settled r msgs (Err e) made = tt

  -- the invariant of volumes is preserved
  pub mtime_lasts : (r : Reply) → SetsMtime p at r v (after r) → Stands l → IsVolume (after r)
  mtime_lasts r made assert_invariant = from (made.leads is.world is.means)
    where
      from : Sets p at r (after r) is.world ⊎ (r ≡ Fault ENOMEM) → IsVolume (after r)
      from (inl h) = record { world = with_mtime p at is.world; means = h.1; few = is.few; stands = assert_invariant }
      from (inr h) = subst IsVolume (sym (made.refused ENOMEM h)) is

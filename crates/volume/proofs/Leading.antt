-- From what a call did to a volume to its world: the answer fits each world of the old volume, and the new volume
-- abstracts to the next one.
use Rattle.std.proofs.Common.{◌≡◌, ℕ, ◌+◌, ◌<◌, ◌≤◌, List, Bool, true, false, cond, refl, sym, ap, subst, ◌∙◌, inl, inr, Option, Some, None, Ok, Err, arith, ◌-◌, []}
use Rattle.std.specs.Prelude.{◌&&◌, Result, IsOk, IfSome, IfNone}
use Rattle.std.specs.Result.{IsErrAnd}
use Rattle.std.specs.FinMap as finite
use Rattle.std.proofs.lemmas.Bool.{lt-leb, le-leb}
use Rattle.std.proofs.lemmas.Cmp.{nat_list_cmp_total}
use Rattle.pathkey.specs.declared.errno.Errno.{Errno}
use Rattle.pathkey.specs.declared.errno.Errno.TheVariants.{ENOMEM, ENOSPC}
use Rattle.call_compiler.specs.declared.indexes.Indexes.{Indexes}
use Rattle.reference.specs.Calls.{is_done, does}
use Rattle.reference.specs.Tree.{Tree, moment}
use Rattle.reference.specs.Worlds.{World, Snapped, Event, Ask, TakeSnapshot, DropSnapshot, RestoreSnapshot, Answer, Replied, Settled, settled, restored, snapshot, outcome, is_lack, Fits, next}
use Rattle.reference.specs.declared.call.Call.{Call}
use Rattle.reference.specs.declared.reply.Reply.{Reply}
use Rattle.reference.specs.declared.reply.Reply.TheVariants.{Fault}
use Rattle.reference.proofs.NeverLacks.{no_lack}
use Rattle.reference.proofs.Touching.{reply_is}
use Rattle.reference.proofs.Snapshots.{takes, takes_no_more, drops}
use Rattle.jobs.specs.Marks.{PMarked, kept_in}
use Rattle.jobs.proofs.Keeping.{contents_stay}
use Rattle.block_index.specs.Updates.{means as block_means}
use Rattle.meta_index.specs.Updates.{means as meta_means}
use Rattle.node.proofs.Grafting.{keeps_nothing}
use Rattle.node.proofs.Roots.{appended_none}
use Rattle.node.proofs.Outcome.{on_undone}
use Rattle.node.specs.Steps.{UnlessDid}
use Rattle.node.specs.declared.place.TreeStep.{TreeStep}
use Rattle.node.specs.declared.step.StepReply.TheVariants.{Did, NotThere as StepNotThere, NoRoom as StepNoRoom, NoMemory as StepNoMemory}
use Rattle.volume.specs.Jobs.{AnswersTaking, SameValues, Takes}
use Rattle.volume.specs.Marked.{PLive, Stands, Keeps, KeepMarkedLists, KeepsMarks, meta_marked, block_marked, marks_left, no_marks}
use Rattle.volume.specs.declared.job.Job.{Job}
use Rattle.volume.specs.declared.job.Job.TheVariants.{Meta as MetaJob, Block as BlockJob}
use Rattle.volume.specs.declared.job.TakeReply.{TakeReply}
use Rattle.volume.specs.declared.job.TakeReply.TheVariants.{Taken, NotThere, NoRoom, NoMemory}
use Rattle.volume.specs.declared.event.Index.{Index}
use Rattle.volume.specs.declared.event.Index.TheVariants.{Meta, Block}
use Rattle.volume.specs.declared.event.CompactStep.{CompactStep}
use Rattle.volume.specs.declared.event.Step.{Step}
use Rattle.node.specs.declared.step.StepReply.{StepReply}
use Rattle.call_compiler.specs.Compiled.{IsCompiled, Messages, no_messages, touches_root, MeanTree}
use Rattle.call_compiler.specs.Laws.{HaveTaken}
use Rattle.call_compiler.proofs.RootMoment.{root_moment}
use Rattle.call_compiler.proofs.Compiling.{nothing_sent}
use Rattle.volume.specs.FsRoot.{after_call, reply_to}
use Rattle.volume.specs.Volumes.{Kept, PVolume, Alike, MeanRooted, Means, IsVolume, live_of}
use Rattle.volume.specs.declared.fs_root.FsRoot.{FsRoot}
use Rattle.volume.specs.Changes.{AppendsLive, Leads, Does, Batched, Called, Settles, KeptAs, Dropped, Restored, StepsLive, Stepped}
use Rattle.volume.proofs.Pairs.{same_names, alike_insert, alike_remove, found_alike, same_len}
use Rattle.volume.proofs.Trees.{Appends, compiled_batched, compiled_does, nothing_appended, tree_kept, tree_same_values, step_same}

-- a volume of these parts
abbrev pub volume : PLive → ℕ → Kept → PVolume
volume l modified m = record { live = record { indexes = l.indexes; modified = modified }; snapshots = m; marks = l.marks }

-- if nothing changes, each mark keeps its content
pub kept_all : (l : PLive) → KeepsMarks l l
kept_all l = record { meta = whole (meta_marked l); block = whole (block_marked l); given = omega arith }
  where
    whole : {U V : Type 0} {means : U → Option V → Option V} (m : PMarked U V) → Keeps means m m
    whole {means} m = record { content = contents_stay means m.tree m.marks; fits = λ t c lt h. h }

pub kept_same : (l m : PLive) → m ≡ l → KeepsMarks l m
kept_same l m e = subst (λ (x : PLive). KeepsMarks l x) (sym e) (kept_all l)

-- the invariant of volumes is preserved
pub lasts : (old new : PVolume) (e : Event) (a : Answer) → IsVolume old → Leads e a old new → finite.len new.snapshots ≤ 64 → Stands (live_of new) → IsVolume new
lasts old new e a is leads few assert_invariant = record { world = next is.world e a; means = (leads is.world is.means).1; few = few; stands = assert_invariant }

-- ---- file calls

-- the mtime that is stored beside the indexes is that of the root after the call
root_after : (c : Call) (at modified : ℕ) (r : Reply) (t : Tree) → r ≡ (does at t c).1 → moment t ≡ modified → moment (does at t c).0 ≡ after_call (touches_root c) r at modified
root_after c at modified r t reply same =
    root_moment at t c
    ∙ ap (λ (q : Reply). cond (is_done q && touches_root c) at (moment t)) (sym reply)
    ∙ ap (λ (n : ℕ). cond (is_done r && touches_root c) at n) same

pub called : (v : PVolume) (c : Call) (at : ℕ) (r : Reply) (l : PLive) → Does c at r v.live.indexes l.indexes → Leads (Ask c at) (Replied r) v (volume l (after_call (touches_root c) r at v.live.modified) v.snapshots)
called v c at r l does_it w m =
    let new : PVolume = volume l (after_call (touches_root c) r at v.live.modified) v.snapshots in
    let d : (r ≡ (does at w.live c).1) × MeanTree l.indexes (does at w.live c).0 = does_it w.live m.live.indexes in
    let given : is_lack (Replied r) ≡ false = ap (λ (x : Reply). is_lack (Replied x)) (d.0 ∙ reply_is at w.live c) ∙ no_lack at w.live c in
    let live : MeanRooted new.live (does at w.live c).0 = record { indexes = d.1; root = root_after c at v.live.modified r w.live d.0 m.live.root } in
    let there : Means new (outcome w (Ask c at)).0 = record { live = live; snapshots = m.snapshots } in
    (inl (ap Replied d.0), subst (λ (b : Bool). Means new (cond b w (outcome w (Ask c at)).0)) (sym given) there)

-- if nothing changes and no message is sent, each list stays
pub nothing_comes : (l m : PLive) → m ≡ l → KeepMarkedLists no_messages l m
nothing_comes l m e = subst (λ (x : PLive). KeepMarkedLists no_messages l x) (sym e) (record {
  meta = keeps_nothing l.indexes.meta.tree.shape 0 (kept_in l.marks.meta l.indexes.meta.tree.root) [] l.indexes.meta.tree l.indexes.meta.tree.root refl refl;
  block = keeps_nothing l.indexes.block.tree.shape 0 (kept_in l.marks.block l.indexes.block.tree.root) [] l.indexes.block.tree l.indexes.block.tree.root refl refl;
})

-- and both trees have all messages that were sent
pub took_nothing : (msgs : Messages) (l : PLive) → Stands l → msgs.meta ≡ [] → msgs.block ≡ [] → HaveTaken msgs l.indexes l.indexes
took_nothing msgs l is m b = record {
  meta = appended_none l.indexes.meta.tree.shape meta_means msgs.meta l.indexes.meta.tree l.indexes.meta.tree.root is.meta refl m;
  block = appended_none l.indexes.block.tree.shape block_means msgs.block l.indexes.block.tree l.indexes.block.tree.root is.block refl b;
}

pub kept_lists : (msgs : Messages) (l : PLive) → msgs.meta ≡ [] → msgs.block ≡ [] → KeepMarkedLists msgs l l
kept_lists msgs l m b = record {
  meta = keeps_nothing l.indexes.meta.tree.shape 0 (kept_in l.marks.meta l.indexes.meta.tree.root) msgs.meta l.indexes.meta.tree l.indexes.meta.tree.root refl m;
  block = keeps_nothing l.indexes.block.tree.shape 0 (kept_in l.marks.block l.indexes.block.tree.root) msgs.block l.indexes.block.tree l.indexes.block.tree.root refl b;
}

pub lacks_call : (v : PVolume) (c : Call) (at : ℕ) (l : PLive) → l ≡ live_of v → Called c at (Fault ENOMEM) v (volume l v.live.modified v.snapshots)
lacks_call v c at l e = record {
  leads = λ w m. (inr refl, subst (λ (k : PLive). Means (volume k v.live.modified v.snapshots) w) (sym e) m);
  refused = λ x h. ap (λ (k : PLive). volume k v.live.modified v.snapshots) e;
  batch = record { msgs = no_messages; sends = nothing_sent v.live.indexes c at; meta = ap (λ (k : PLive). k.indexes.meta.tree) e; block = ap (λ (k : PLive). k.indexes.block.tree) e; lists = nothing_comes (live_of v) l e };
  snapshots = refl;
  marks = ap (λ (k : PLive). k.marks) e;
  kept = kept_same (live_of v) l e;
}

-- live indexes whose marks stayed
pub same_live : (a b : PLive) → b.indexes ≡ a.indexes → b.marks ≡ a.marks → b ≡ a
same_live a b i m = λ k. record { indexes = i k; marks = m k }

-- a call that fails does not change the mtime of the root
not_touched : (c : Call) (r : Reply) (at modified : ℕ) (e : Errno) → r ≡ Fault e → after_call (touches_root c) r at modified ≡ modified
not_touched c r at modified e h = ap (λ (q : Reply). after_call (touches_root c) q at modified) h

pub call_done : (v : PVolume) (c : Call) (at : ℕ) (r : Reply) (l : PLive) → Does c at r v.live.indexes l.indexes → ((e : Errno) → r ≡ Fault e → l.indexes ≡ v.live.indexes) → Batched c at (live_of v) l → l.marks ≡ v.marks → KeepsMarks (live_of v) l → Called c at r v (volume l (after_call (touches_root c) r at v.live.modified) v.snapshots)
call_done v c at r l does_it refused batch marks snapshot_root = record {
  leads = called v c at r l does_it;
  refused = λ e h. ap (λ (k : PLive). volume k (after_call (touches_root c) r at v.live.modified) v.snapshots) (same_live (live_of v) l (refused e h) marks) ∙ ap (λ (n : ℕ). volume (live_of v) n v.snapshots) (not_touched c r at v.live.modified e h);
  batch = batch;
  snapshots = refl;
  marks = marks;
  kept = snapshot_root;
}

pub answered : {T E : Type 0} (v : PVolume) (c : Call) (at : ℕ) (r : Reply) (msgs : Messages) (a : Result T E) (l : PLive) → IsCompiled v.live.indexes c at r msgs → AppendsLive msgs a (live_of v) l → Called c at (reply_to a r) v (volume l (after_call (touches_root c) (reply_to a r) at v.live.modified) v.snapshots)
answered v c at r msgs (Ok x) l made h =
    let appends : Appends msgs v.live.indexes l.indexes = record { taken = h.taken; no_meta = h.no_meta; no_block = h.no_block } in
    call_done v c at r l (compiled_does v.live.indexes l.indexes c at r msgs made h.taken) (λ e f. nothing_appended v.live.indexes l.indexes msgs (made.fault e f) appends)
    (compiled_batched (live_of v) l c at r msgs made appends h.lists) h.marks h.kept
answered v c at r msgs (Err e) l made h = lacks_call v c at l h.err

pub answered_lasts : {T E : Type 0} (v : PVolume) (c : Call) (at : ℕ) (r : Reply) (msgs : Messages) (a : Result T E) (l : PLive) → IsVolume v → IsCompiled v.live.indexes c at r msgs → AppendsLive msgs a (live_of v) l → Stands l → IsVolume (volume l (after_call (touches_root c) (reply_to a r) at v.live.modified) v.snapshots)
answered_lasts v c at r msgs a l is made h assert_invariant =
    lasts v (volume l (after_call (touches_root c) (reply_to a r) at v.live.modified) v.snapshots) (Ask c at) (Replied (reply_to a r)) is (answered v c at r msgs a l made h).leads is.few assert_invariant

-- ---- snapshot calls

-- an answer other than ENOMEM
fits_as : (new : PVolume) (w x : World) (e : Event) (r : Snapped) → ◌≡◌ {A = World × Answer} (outcome w e) (x, Settled r) → is_lack (Settled r) ≡ false → Means new x → Fits w e (Settled r) × Means new (next w e (Settled r))
fits_as new w x e r o given m = (
  inl (sym (ap (λ (p : World × Answer). p.1) o)),
  subst (λ (b : Bool). Means new (cond b w (outcome w e).0)) (sym given) (subst (Means new) (sym (ap (λ (p : World × Answer). p.0) o)) m),
)

-- space for one more name
record IsNewName (v : PVolume) (s : List ℕ) : Type 0 where
  new : finite.contains_key v.snapshots s ≡ false
  few : finite.len v.snapshots < 64

takes_one : (v : PVolume) (s : List ℕ) → IsNewName v s → (w : World) → Means v w → ◌≡◌ {A = World × Snapped} (snapshot w s) (record w { snapshots = finite.insert w.snapshots s w.live }, Ok tt)
takes_one v s n w m =
    let few : finite.len w.snapshots < 64 = subst (λ (k : ℕ). k < 64) (same_len MeanRooted v.snapshots w.snapshots m.snapshots) n.few in
    takes w.live w.snapshots s (sym (same_names MeanRooted v.snapshots w.snapshots m.snapshots s) ∙ n.new) (lt-leb 64 (finite.len w.snapshots) few)

taken : (v : PVolume) (s : List ℕ) (snapshot_root : Kept) → IsNewName v s → snapshot_root ≡ finite.insert v.snapshots s v.live → Leads (TakeSnapshot s) (Settled (Ok tt)) v (volume (live_of v) v.live.modified snapshot_root)
taken v s snapshot_root n e w m =
    fits_as (volume (live_of v) v.live.modified snapshot_root) w (record w { snapshots = finite.insert w.snapshots s w.live }) (TakeSnapshot s) (Ok tt) (ap settled (takes_one v s n w m)) refl (record {
      live = m.live;
      snapshots = subst (λ (k : Kept). Alike MeanRooted k (finite.insert w.snapshots s w.live)) (sym e) (alike_insert MeanRooted v.snapshots w.snapshots s v.live w.live m.snapshots m.live);
    })

pub snapshot_taken : (v : PVolume) (s : List ℕ) (snapshot_root : Kept) → finite.contains_key v.snapshots s ≡ false → finite.len v.snapshots < 64 → snapshot_root ≡ finite.insert v.snapshots s v.live → Settles (TakeSnapshot s) (KeptAs s) (Ok tt) v (volume (live_of v) v.live.modified snapshot_root)
snapshot_taken v s snapshot_root new few e = record { leads = taken v s snapshot_root (record { new = new; few = few }) e; done = ap (volume (live_of v) v.live.modified) e; refused = tt; kept = kept_all (live_of v) }

one_more : (m : Kept) (s : List ℕ) (i : FsRoot) → finite.contains_key m s ≡ false → finite.len m < 64 → finite.len (finite.insert m s i) ≤ 64
one_more m s i new few =
    let l : finite.len (finite.insert m s i) ≡ finite.len m + 1 = finite.len-insert nat_list_cmp_total m s i ∙ ap (λ (b : Bool). cond b (finite.len m) (finite.len m + 1)) new in
    omega (arith, l, few)

pub snapshot_lasts : (v : PVolume) (s : List ℕ) (snapshot_root : Kept) → IsVolume v → finite.contains_key v.snapshots s ≡ false → finite.len v.snapshots < 64 → snapshot_root ≡ finite.insert v.snapshots s v.live → IsVolume (volume (live_of v) v.live.modified snapshot_root)
snapshot_lasts v s snapshot_root is new few e =
    lasts v (volume (live_of v) v.live.modified snapshot_root) (TakeSnapshot s) (Settled (Ok tt)) is (taken v s snapshot_root (record { new = new; few = few }) e)
    (subst (λ (k : Kept). finite.len k ≤ 64) (sym e) (one_more v.snapshots s v.live new few)) is.stands

pub snapshot_full : (v : PVolume) (s : List ℕ) → finite.contains_key v.snapshots s ≡ false → 64 ≤ finite.len v.snapshots → Settles (TakeSnapshot s) (KeptAs s) (Err ENOSPC) v v
snapshot_full v s new many = record {
  leads = λ w m.
      let full : 64 ≤ finite.len w.snapshots = subst (λ (k : ℕ). 64 ≤ k) (same_len MeanRooted v.snapshots w.snapshots m.snapshots) many in
      fits_as v w w (TakeSnapshot s) (Err ENOSPC) (ap settled (takes_no_more w.live w.snapshots s (sym (same_names MeanRooted v.snapshots w.snapshots m.snapshots s) ∙ new) (le-leb 64 (finite.len w.snapshots) full))) refl m;
  done = tt;
  refused = refl;
  kept = kept_all (live_of v);
}

pub snapshot_lacks : (v now : PVolume) (s : List ℕ) → finite.contains_key v.snapshots s ≡ false → finite.len v.snapshots < 64 → now ≡ v → Settles (TakeSnapshot s) (KeptAs s) (Err ENOMEM) v now
snapshot_lacks v now s new few e = record {
  leads = λ w m. (inr (refl, subst (λ (o : World × Snapped). IsOk o.1) (sym (takes_one v s (record { new = new; few = few }) w m)) refl), subst (λ (x : PVolume). Means x w) (sym e) m);
  done = tt;
  refused = e;
  kept = subst (λ (x : PVolume). KeepsMarks (live_of v) (live_of x)) (sym e) (kept_all (live_of v));
}

dropped : (v : PVolume) (s : List ℕ) (snapshot_root : Kept) → finite.contains_key v.snapshots s ≡ true → snapshot_root ≡ finite.remove v.snapshots s → Leads (DropSnapshot s) (Settled (Ok tt)) v (volume (live_of v) v.live.modified snapshot_root)
dropped v s snapshot_root old e w m =
    fits_as (volume (live_of v) v.live.modified snapshot_root) w (record w { snapshots = finite.remove w.snapshots s }) (DropSnapshot s) (Ok tt) (ap settled (drops w.live w.snapshots s (sym (same_names MeanRooted v.snapshots w.snapshots m.snapshots s) ∙ old))) refl (record {
      live = m.live;
      snapshots = subst (λ (k : Kept). Alike MeanRooted k (finite.remove w.snapshots s)) (sym e) (alike_remove MeanRooted v.snapshots w.snapshots s m.snapshots);
    })

pub snapshot_dropped : (v : PVolume) (s : List ℕ) (snapshot_root : Kept) → finite.contains_key v.snapshots s ≡ true → snapshot_root ≡ finite.remove v.snapshots s → Settles (DropSnapshot s) (Dropped s) (Ok tt) v (volume (live_of v) v.live.modified snapshot_root)
snapshot_dropped v s snapshot_root old e = record { leads = dropped v s snapshot_root old e; done = ap (volume (live_of v) v.live.modified) e; refused = tt; kept = kept_all (live_of v) }

one_less : (m : Kept) (s : List ℕ) → finite.contains_key m s ≡ true → finite.len m ≤ 64 → finite.len (finite.remove m s) ≤ 64
one_less m s old few =
    let l : finite.len (finite.remove m s) ≡ finite.len m - 1 = finite.len-remove nat_list_cmp_total m s ∙ ap (λ (b : Bool). cond b (finite.len m - 1) (finite.len m)) old in
    omega (arith, l, few)

pub drop_lasts : (v : PVolume) (s : List ℕ) (snapshot_root : Kept) → IsVolume v → finite.contains_key v.snapshots s ≡ true → snapshot_root ≡ finite.remove v.snapshots s → IsVolume (volume (live_of v) v.live.modified snapshot_root)
drop_lasts v s snapshot_root is old e =
    lasts v (volume (live_of v) v.live.modified snapshot_root) (DropSnapshot s) (Settled (Ok tt)) is (dropped v s snapshot_root old e)
    (subst (λ (k : Kept). finite.len k ≤ 64) (sym e) (one_less v.snapshots s old is.few)) is.stands

pub put_back : (v : PVolume) (s : List ℕ) (l : PLive) (modified : ℕ) → finite.get v.snapshots s ≡ Some (record { indexes = l.indexes; modified = modified }) → Leads (RestoreSnapshot s) (Settled (Ok tt)) v (volume l modified v.snapshots)
put_back v s l modified e w m =
    let new : PVolume = volume l modified v.snapshots in
    let f : (t : Tree) × (finite.get w.snapshots s ≡ Some t) × MeanRooted new.live t = found_alike MeanRooted v.snapshots w.snapshots s new.live m.snapshots e in
    fits_as new w (record w { live = f.0 }) (RestoreSnapshot s) (Ok tt) (ap (λ (o : Option Tree). settled (restored w o)) f.1) refl (record { live = f.2; snapshots = m.snapshots })

pub snapshot_restored : (v : PVolume) (s : List ℕ) (l : PLive) (modified : ℕ) → finite.get v.snapshots s ≡ Some (record { indexes = l.indexes; modified = modified }) → l.marks ≡ no_marks v.marks.given → KeepsMarks (live_of v) l → Settles (RestoreSnapshot s) (Restored s) (Ok tt) v (volume l modified v.snapshots)
snapshot_restored v s l modified e marks snapshot_root = record { leads = put_back v s l modified e; done = (e, refl, marks); refused = tt; kept = snapshot_root }

pub restore_lacks : (v now : PVolume) (s : List ℕ) (i : FsRoot) → finite.get v.snapshots s ≡ Some i → now ≡ v → Settles (RestoreSnapshot s) (Restored s) (Err ENOMEM) v now
restore_lacks v now s i e same = record {
  leads = λ w m.
      let f : (t : Tree) × (finite.get w.snapshots s ≡ Some t) × MeanRooted i t = found_alike MeanRooted v.snapshots w.snapshots s i m.snapshots e in
      (inr (refl, subst (λ (o : Option Tree). IsOk (restored w o).1) (sym f.1) refl), subst (λ (x : PVolume). Means x w) (sym same) m);
  done = tt;
  refused = same;
  kept = subst (λ (x : PVolume). KeepsMarks (live_of v) (live_of x)) (sym same) (kept_all (live_of v));
}

-- ---- steps

-- the marks after a step that is not done
marks_same : (x : Index) (step : TreeStep) (r : StepReply) (l : PLive) → UnlessDid r (marks_left x step r l ≡ l.marks)
marks_same Meta step (Did n) l = tt
marks_same Meta step StepNotThere l = refl
marks_same Meta step StepNoRoom l = refl
marks_same Meta step StepNoMemory l = refl
marks_same Block step (Did n) l = tt
marks_same Block step StepNotThere l = refl
marks_same Block step StepNoRoom l = refl
marks_same Block step StepNoMemory l = refl

-- live indexes are unchanged if a step is not done
pub live_same : (s : Step) (r : StepReply) (a b : PLive) → StepsLive s r a b → UnlessDid r (b ≡ a)
live_same s r a b is = both r (λ e m. same_live a b e (is.marks ∙ m)) (step_same s.index s.step r a.indexes b.indexes is.index) (marks_same s.index s.step r a)
  where
    both : {P Q R : Type 0} (r : StepReply) → (P → Q → R) → UnlessDid r P → UnlessDid r Q → UnlessDid r R
    both (Did n) f p q = tt
    both StepNotThere f p q = f p q
    both StepNoRoom f p q = f p q
    both StepNoMemory f p q = f p q

pub stepped : (v : PVolume) (s : Step) (r : StepReply) (l : PLive) → StepsLive s r (live_of v) l → Stepped s r v (volume l v.live.modified v.snapshots)
stepped v s r l is = record {
  keeps = λ w m. record { live = record { indexes = tree_kept s.index s.step r v.live.indexes l.indexes is.index w.live m.live.indexes; root = m.live.root }; snapshots = m.snapshots };
  refused = on_undone r (l ≡ live_of v) (volume l v.live.modified v.snapshots ≡ v) (λ e. ap (λ (k : PLive). volume k v.live.modified v.snapshots) e) (live_same s r (live_of v) l is);
  live = is;
  root = refl;
  snapshots = refl;
}

-- ---- failures

pub refused_as : (r : Snapped) (e : Errno) → IsErrAnd r (λ x. x ≡ e) → r ≡ Err e
refused_as (Ok x) e h = absurd h
refused_as (Err x) e h = ap {B = Snapped} (λ (y : Errno). Err y) h

-- a step, or none, that changed nothing
pub relieved : (v : PVolume) (r : Option CompactStep) (l : PLive) → IfSome r (λ t. StepsLive t.step t.reply (live_of v) l) → IfSome r (λ t. Stepped t.step t.reply v (volume l v.live.modified v.snapshots))
relieved v None l some = some
relieved v (Some t) l some = stepped v t.step t.reply l some

pub relief_keeps : (v : PVolume) (r : Option CompactStep) (l : PLive) → IfSome r (λ t. StepsLive t.step t.reply (live_of v) l) → IfNone r (l ≡ live_of v)
    → (w : World) → Means v w → Means (volume l v.live.modified v.snapshots) w
relief_keeps v None l some none w m = subst (λ (k : PLive). Means (volume k v.live.modified v.snapshots) w) (sym none) m
relief_keeps v (Some t) l some none w m = (stepped v t.step t.reply l some).keeps w m

-- ---- jobs

-- the volume abstracts to the same world if each key has the same value
pub means_same : (v : PVolume) (l : PLive) → SameValues v.live.indexes l.indexes → (w : World) → Means v w → Means (volume l v.live.modified v.snapshots) w
means_same v l same w m = record { live = record { indexes = tree_same_values v.live.indexes l.indexes same w.live m.live.indexes; root = m.live.root }; snapshots = m.snapshots }

-- and if the indexes are the same
pub means_with : (v : PVolume) (l : PLive) → l.indexes ≡ v.live.indexes → (w : World) → Means v w → Means (volume l v.live.modified v.snapshots) w
means_with v l e w m = record { live = record { indexes = subst (λ (i : Indexes). MeanTree i w.live) (sym e) m.live.indexes; root = m.live.root }; snapshots = m.snapshots }

-- which they are if a job was taken, or none
pub taken_same : (v : PVolume) (index : Index) (i : ℕ) (r : TakeReply) (l : PLive) → AnswersTaking index i r (live_of v) l → l.indexes ≡ v.live.indexes
taken_same v index i (Taken job) l h = of index job h.taken
  where
    of : (x : Index) (job : Job) → Takes x i job (live_of v) l → l.indexes ≡ v.live.indexes
    of Meta (MetaJob j) q = q.1
    of Meta (BlockJob j) q = absurd q
    of Block (MetaJob j) q = absurd q
    of Block (BlockJob j) q = q.1
taken_same v index i NotThere l h = ap (λ (k : PLive). k.indexes) h.unchanged
taken_same v index i NoRoom l h = ap (λ (k : PLive). k.indexes) h.unchanged
taken_same v index i NoMemory l h = ap (λ (k : PLive). k.indexes) h.unchanged

pub taken_means : (v : PVolume) (index : Index) (i : ℕ) (r : TakeReply) (l : PLive) → AnswersTaking index i r (live_of v) l → (w : World) → Means v w → Means (volume l v.live.modified v.snapshots) w
taken_means v index i r l h w m = means_with v l (taken_same v index i r l h) w m

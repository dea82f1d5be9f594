-- From a chain of volumes with jobs to a run of the world.
use Rattle.std.proofs.Common.{◌≡◌, ℕ, ◌+◌, ◌≤◌, List, [], ◌∷◌, ◌++◌, length, length-append, arith, refl, sym, ap, subst, Option, Some, None}
use Rattle.std.specs.FinMap as finite
use Rattle.std.proofs.lemmas.Cmp.{nat_list_cmp_total}
use Rattle.block_index.specs.Means.{blocks}
use Rattle.jobs.specs.declared.ticket.Ticket.{Ticket}
use Rattle.meta_index.specs.Means.{metadata}
use Rattle.node.specs.declared.step.StepReply.{StepReply}
use Rattle.reference.specs.Tree.{Tree}
use Rattle.reference.specs.Worlds.{World, Snapped, Event as Asked, Answer as Answered, Ask, TakeSnapshot, DropSnapshot as DropNamed, RestoreSnapshot, Replied, Settled, Fits, next, History, IsLegal, after}
use Rattle.reference.specs.declared.call.Call.{Call}
use Rattle.reference.specs.declared.reply.Reply.{Reply}
use Rattle.reference.proofs.Unique.{one_meaning}
use Rattle.volume.specs.declared.event.Event.{Event}
use Rattle.volume.specs.declared.event.Event.TheVariants.{Call as CallEvent, Snapshot, DropSnapshot, Restore, Step as StepEvent, Take, Finish}
use Rattle.volume.specs.declared.event.Answer.{Answer}
use Rattle.volume.specs.declared.event.Answer.TheVariants.{Call as CallAnswer, Snap, Step as StepAnswer, Take as TakeAnswered, Finish as FinishAnswered}
use Rattle.volume.specs.declared.event.Index.{Index}
use Rattle.volume.specs.declared.event.Step.{Step}
use Rattle.volume.specs.declared.event.TakeAnswer.{TakeAnswer}
use Rattle.volume.specs.declared.event.FinishAnswer.{FinishAnswer}
use Rattle.volume.specs.declared.event.FinishAnswer.TheVariants.{Installed as FinishInstalled, Stale as FinishStale, NotThere as FinishNotThere, NoMemory as FinishNoMemory}
use Rattle.volume.specs.declared.run_job.RunJob.{RunJob}
use Rattle.volume.specs.declared.run_job.RunJob.TheVariants.{Taken as HeldJob}
use Rattle.volume.specs.declared.job.TakeReply.{TakeReply}
use Rattle.volume.specs.declared.job.TakeReply.TheVariants.{Taken, NotThere, NoRoom, NoMemory}
use Rattle.volume.specs.Changes.{Leads, Called, Settles, KeptAs, Dropped, Restored, Stepped}
use Rattle.volume.specs.RunJob.{others}
use Rattle.volume.specs.Runs.{history_of, takings, with_taken, PRun, Beside, Takes, Finishes, Link, Chain, calls_alone, begun, ended, Ran}
use Rattle.volume.specs.Volumes.{PVolume, Both, MeanRooted, Means, IsVolume}
use Rattle.volume.specs.declared.fs_root.FsRoot.{FsRoot}
use Rattle.volume.proofs.Holding.{one_less}
use Rattle.reference.proofs.PlainSnapshots.{bytes_differ}

-- ---- a volume abstracts to at most one world

same_tree : (r : Option FsRoot) (t u : Option Tree) → Both MeanRooted r t → Both MeanRooted r u → t ≡ u
same_tree None None None m n = refl
same_tree None None (Some u) m n = absurd n
same_tree None (Some t) u m n = absurd m
same_tree (Some r) None u m n = absurd m
same_tree (Some r) (Some t) None m n = absurd n
same_tree (Some r) (Some t) (Some u) m n = ap (λ (x : Tree). Some x) (one_meaning t u (metadata r.indexes.meta) (blocks r.indexes.block) m.indexes n.indexes)

pub one_world : (v : PVolume) (w x : World) → Means v w → Means v x → w ≡ x
one_world v w x m n =
    let live : w.live ≡ x.live = one_meaning w.live x.live (metadata v.live.indexes.meta) (blocks v.live.indexes.block) m.live.indexes n.live.indexes in
    let snapshot_root : w.snapshots ≡ x.snapshots = finite.same_map nat_list_cmp_total bytes_differ w.snapshots x.snapshots (λ s. same_tree (finite.get v.snapshots s) (finite.get w.snapshots s) (finite.get x.snapshots s) (m.snapshots s) (n.snapshots s)) in
    λ i. record { live = live i; snapshots = snapshot_root i }

-- ---- a link

-- what follows from each kind of link
record OfEach (P : Event → Answer → Type 0) (a b : PRun) : Type 0 where
  call : (c : Call) (at : ℕ) (r : Reply) → Beside (Called c at r) a b → P (CallEvent c at) (CallAnswer r)
  snapshot : (s : List ℕ) (r : Snapped) → Beside (Settles (TakeSnapshot s) (KeptAs s) r) a b → P (Snapshot s) (Snap r)
  drop : (s : List ℕ) (r : Snapped) → Beside (Settles (DropNamed s) (Dropped s) r) a b → P (DropSnapshot s) (Snap r)
  restore : (s : List ℕ) (r : Snapped) → Beside (Settles (RestoreSnapshot s) (Restored s) r) a b → P (Restore s) (Snap r)
  step : (s : Step) (r : StepReply) → Beside (Stepped s r) a b → P (StepEvent s) (StepAnswer r)
  take : (index : Index) (i : ℕ) (r : TakeAnswer) → Takes index i r a b → P (Take index i) (TakeAnswered r)
  finish : (t : Ticket) (r : FinishAnswer) → Finishes t.number r a b → P (Finish t) (FinishAnswered r)

-- follows of any
link_cases : (P : Event → Answer → Type 0) (a b : PRun) → OfEach P a b → (e : Event) (r : Answer) → Link e r a b → P e r
link_cases P a b f (CallEvent c at) (CallAnswer r) link = f.call c at r link
link_cases P a b f (CallEvent c at) (Snap r) link = absurd link
link_cases P a b f (CallEvent c at) (StepAnswer r) link = absurd link
link_cases P a b f (CallEvent c at) (TakeAnswered r) link = absurd link
link_cases P a b f (CallEvent c at) (FinishAnswered r) link = absurd link
link_cases P a b f (Snapshot s) (CallAnswer r) link = absurd link
link_cases P a b f (Snapshot s) (Snap r) link = f.snapshot s r link
link_cases P a b f (Snapshot s) (StepAnswer r) link = absurd link
link_cases P a b f (Snapshot s) (TakeAnswered r) link = absurd link
link_cases P a b f (Snapshot s) (FinishAnswered r) link = absurd link
link_cases P a b f (DropSnapshot s) (CallAnswer r) link = absurd link
link_cases P a b f (DropSnapshot s) (Snap r) link = f.drop s r link
link_cases P a b f (DropSnapshot s) (StepAnswer r) link = absurd link
link_cases P a b f (DropSnapshot s) (TakeAnswered r) link = absurd link
link_cases P a b f (DropSnapshot s) (FinishAnswered r) link = absurd link
link_cases P a b f (Restore s) (CallAnswer r) link = absurd link
link_cases P a b f (Restore s) (Snap r) link = f.restore s r link
link_cases P a b f (Restore s) (StepAnswer r) link = absurd link
link_cases P a b f (Restore s) (TakeAnswered r) link = absurd link
link_cases P a b f (Restore s) (FinishAnswered r) link = absurd link
link_cases P a b f (StepEvent s) (CallAnswer r) link = absurd link
link_cases P a b f (StepEvent s) (Snap r) link = absurd link
link_cases P a b f (StepEvent s) (StepAnswer r) link = f.step s r link
link_cases P a b f (StepEvent s) (TakeAnswered r) link = absurd link
link_cases P a b f (StepEvent s) (FinishAnswered r) link = absurd link
link_cases P a b f (Take index i) (CallAnswer r) link = absurd link
link_cases P a b f (Take index i) (Snap r) link = absurd link
link_cases P a b f (Take index i) (StepAnswer r) link = absurd link
link_cases P a b f (Take index i) (TakeAnswered r) link = f.take index i r link
link_cases P a b f (Take index i) (FinishAnswered r) link = absurd link
link_cases P a b f (Finish t) (CallAnswer r) link = absurd link
link_cases P a b f (Finish t) (Snap r) link = absurd link
link_cases P a b f (Finish t) (StepAnswer r) link = absurd link
link_cases P a b f (Finish t) (TakeAnswered r) link = absurd link
link_cases P a b f (Finish t) (FinishAnswered r) link = f.finish t r link

-- ---- one more link

pub chain_more : (es : List Event) (rs : List Answer) (e : Event) (r : Answer) (a b c : PRun) → Chain a es rs b → Link e r b c → IsVolume c.volume → Chain a (es ++ e ∷ []) (rs ++ r ∷ []) c
chain_more [] [] e r a b c chain link is = (c, subst (λ (x : PRun). Link e r x c) chain link, is, refl)
chain_more [] (s ∷ rs) e r a b c chain link is = absurd chain
chain_more (d ∷ es) [] e r a b c chain link is = absurd chain
chain_more (d ∷ es) (s ∷ rs) e r a b c chain link is = (chain.0, chain.1, chain.2, chain_more es rs e r chain.0 b c chain.3 link is)

-- ---- how many jobs are held

same_count : (xs ys : List RunJob) → ys ≡ xs → length ys ≤ length xs
same_count xs ys e = let n = ap (λ (z : List RunJob). length z) e in omega (arith, n)

more_count : (xs : List RunJob) (r : TakeReply) → length (with_taken xs r) ≤ length xs + 1
more_count xs (Taken job) = omega (arith, length-append xs (HeldJob job ∷ []))
more_count xs NotThere = omega arith
more_count xs NoRoom = omega arith
more_count xs NoMemory = omega arith

finish_count : (t : ℕ) (r : FinishAnswer) (a b : PRun) → Finishes t r a b → length b.held ≤ length a.held
finish_count t FinishInstalled a b f = omega (arith, one_less t a.held f.job f.has, ap (λ (z : List RunJob). length z) f.held)
finish_count t FinishStale a b f = omega (arith, one_less t a.held f.job f.has, ap (λ (z : List RunJob). length z) f.held)
finish_count t FinishNotThere a b f = same_count a.held b.held (ap (λ (x : PRun). x.held) f.1)
finish_count t FinishNoMemory a b f = omega (arith, one_less t a.held f.job f.has, ap (λ (z : List RunJob). length z) f.held, length-append (others t a.held) (f.again ∷ []))

-- taking a job adds at most one, and no other event adds any
pub link_count : (e : Event) (r : Answer) (a b : PRun) → Link e r a b → length b.held ≤ length a.held + takings (e ∷ [])
link_count e r a b link = link_cases (λ e r. length b.held ≤ length a.held + takings (e ∷ [])) a b (record {
  call = λ c at r l. omega (arith, same_count a.held b.held l.1);
  snapshot = λ s r l. omega (arith, same_count a.held b.held l.1);
  drop = λ s r l. omega (arith, same_count a.held b.held l.1);
  restore = λ s r l. omega (arith, same_count a.held b.held l.1);
  step = λ s r l. omega (arith, same_count a.held b.held l.1);
  take = λ index i r l. omega (arith, more_count a.held l.reply, ap (λ (z : List RunJob). length z) l.held);
  finish = λ t r l. omega (arith, finish_count t.number r a b l);
}) e r link

-- an event takes at most one job
pub one_taking : (e : Event) → takings (e ∷ []) ≤ 1
one_taking (CallEvent c at) = omega arith
one_taking (Snapshot s) = omega arith
one_taking (DropSnapshot s) = omega arith
one_taking (Restore s) = omega arith
one_taking (StepEvent s) = omega arith
one_taking (Take index i) = omega arith
one_taking (Finish t) = omega arith

-- the number of jobs taken by the first event and by the others
pub takings_first : (e : Event) (es : List Event) → takings (e ∷ es) ≡ takings (e ∷ []) + takings es
takings_first (CallEvent c at) es = omega arith
takings_first (Snapshot s) es = omega arith
takings_first (DropSnapshot s) es = omega arith
takings_first (Restore s) es = omega arith
takings_first (StepEvent s) es = omega arith
takings_first (Take index i) es = omega arith
takings_first (Finish t) es = omega arith

-- ---- the worlds of a chain

-- the history is legal from w, and ends in the world of the volume
record Leaves (v : PVolume) (w : World) (h : History) : Type 0 where
  legal : IsLegal w h
  means : Means v (after w h)

one_first : (a b c : PVolume) (x : Asked) (y : Answered) (h : History) → Leads x y a b → ((w : World) → Means b w → Leaves c w h) → (w : World) → Means a w → Leaves c w ((x, y) ∷ h)
one_first a b c x y h leads rest w m =
    let one : Fits w x y × Means b (next w x y) = leads w m in
    let more : Leaves c (next w x y) h = rest (next w x y) one.1 in
    record { legal = (one.0, more.legal); means = more.means }

finish_means : (t : ℕ) (r : FinishAnswer) (a b : PRun) → Finishes t r a b → (w : World) → Means a.volume w → Means b.volume w
finish_means t FinishInstalled a b f w m = f.installed.means w m
finish_means t FinishStale a b f w m = f.installed.means w m
finish_means t FinishNotThere a b f w m = subst (λ (x : PRun). Means x.volume w) (sym f.1) m
finish_means t FinishNoMemory a b f w m = subst (λ (x : PVolume). Means x w) (sym f.volume) m

-- one link before a chain
link_leaves : (e : Event) (r : Answer) (a b : PRun) (c : PVolume) (h : History) → Link e r a b → ((w : World) → Means b.volume w → Leaves c w h) → (w : World) → Means a.volume w → Leaves c w (history_of e r ++ h)
link_leaves e r a b c h link rest w m = link_cases (λ e r. Leaves c w (history_of e r ++ h)) a b (record {
  call = λ d at r l. one_first a.volume b.volume c (Ask d at) (Replied r) h l.0.leads rest w m;
  snapshot = λ s r l. one_first a.volume b.volume c (TakeSnapshot s) (Settled r) h l.0.leads rest w m;
  drop = λ s r l. one_first a.volume b.volume c (DropNamed s) (Settled r) h l.0.leads rest w m;
  restore = λ s r l. one_first a.volume b.volume c (RestoreSnapshot s) (Settled r) h l.0.leads rest w m;
  step = λ s r l. rest w (l.0.keeps w m);
  take = λ index i r l. rest w (l.means w m);
  finish = λ t r l. rest w (finish_means t.number r a b l w m);
}) e r link

chain_leaves : (es : List Event) (rs : List Answer) (a c : PRun) → Chain a es rs c → (w : World) → Means a.volume w → Leaves c.volume w (calls_alone es rs)
chain_leaves [] [] a c chain w m = record { legal = tt; means = subst (λ (x : PRun). Means x.volume w) (sym chain) m }
chain_leaves [] (r ∷ rs) a c chain w m = absurd chain
chain_leaves (e ∷ es) [] a c chain w m = absurd chain
chain_leaves (e ∷ es) (r ∷ rs) a c chain w m = link_leaves e r a chain.0 c.volume (calls_alone es rs) chain.1 (chain_leaves es rs chain.0 c chain.3) w m

-- the run of a chain that begins at a volume, and after which the remaining jobs are cancelled
pub chain_ran : (es : List Event) (rs : List Answer) (old new : PVolume) (last : PRun) → IsVolume old → Chain (begun old) es rs last → new ≡ ended last → Ran es rs old new
chain_ran es rs old new last is chain end =
    let all : Leaves last.volume is.world (calls_alone es rs) = chain_leaves es rs (begun old) last chain is.world is.means in
    record {
      world = is.world;
      meant = is.means;
      only = λ w m. one_world old w is.world m is.means;
      legal = all.legal;
      means = subst (λ (x : PVolume). Means x (after is.world (calls_alone es rs))) (sym end) (record { live = all.means.live; snapshots = all.means.snapshots });
      last = last;
      chain = chain;
      end = end;
    }

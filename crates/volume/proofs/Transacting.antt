-- Calls that are done one after the other: one more of them, and the worlds that they lead to.
use Rattle.std.proofs.Common.{◌≡◌, ℕ, ◌<◌, List, [], ◌∷◌, ◌++◌, length, refl, sym, ap, subst, ◌∙◌, arith, Ok, Err, Option}
use Rattle.std.specs.Prelude.{Result, IfErr}
use Rattle.std.specs.Global.{Vec}
use Rattle.block_index.specs.Updates.{means as block_means}
use Rattle.jobs.specs.Marks.{Each, PMarked, KeepsContent}
use Rattle.jobs.specs.declared.mark.Mark.{Mark}
use Rattle.meta_index.specs.Updates.{means as meta_means}
use Rattle.pathkey.specs.declared.errno.Errno.{Errno}
use Rattle.pathkey.specs.declared.errno.Errno.TheVariants.{ENOMEM}
use Rattle.reference.specs.Worlds.{World, Ask, Replied, IsLegal, after, next}
use Rattle.reference.specs.declared.reply.Reply.{Reply}
use Rattle.reference.specs.declared.reply.Reply.TheVariants.{Fault}
use Rattle.volume.specs.Changes.{Called}
use Rattle.volume.specs.Laws.{AllOrNothing, timed_calls}
use Rattle.volume.specs.Marked.{PLive, PMarks, Keeps, KeepsMarks, meta_marked, block_marked}
use Rattle.volume.specs.Transactions.{AllCalled, CalledUntil, DoesAll, FailsAt, Succeeds, Timed, Transacts}
use Rattle.volume.specs.Volumes.{PVolume, Means, live_of}
use Rattle.volume.specs.declared.fs_root.FsRoot.{FsRoot}
use Rattle.volume.specs.declared.transact.FailedCall.{FailedCall}
use Rattle.volume.proofs.Leading.{kept_all, lacks_call}

-- ---- marks that two calls keep

each_through : (P Q R : Mark → Type 0) → ((m : Mark) → P m → Q m → R m) → (ms : List Mark) → Each P ms → Each Q ms → Each R ms
each_through P Q R f [] p q = tt
each_through P Q R f (m ∷ ms) p q = (f m p.0 q.0, each_through P Q R f ms p.1 q.1)

keeps_through : {U V : Type 0} (means : U → Option V → Option V) (a b c : PMarked U V) → c.marks ≡ b.marks → a.given ≡ b.given → Keeps means a b → Keeps means b c → Keeps means a c
keeps_through means a b c same given k l = record {
  content = each_through (KeepsContent means a.tree b.tree) (KeepsContent means b.tree c.tree) (KeepsContent means a.tree c.tree) (λ m f g x h. g x (f x h)) c.marks (subst (λ (ms : List Mark). Each (KeepsContent means a.tree b.tree) ms) (sym same) k.content) l.content;
  fits = λ t x lt h. l.fits t x (subst (λ (n : ℕ). t < n) given lt) (k.fits t x lt h);
}

pub kept_through : (a b c : PLive) → b.marks ≡ a.marks → c.marks ≡ b.marks → KeepsMarks a b → KeepsMarks b c → KeepsMarks a c
kept_through a b c first second k l = record {
  meta = keeps_through meta_means (meta_marked a) (meta_marked b) (meta_marked c) (ap (λ (m : PMarks). m.meta) second) (sym (ap (λ (m : PMarks). m.given) first)) k.meta l.meta;
  block = keeps_through block_means (block_marked a) (block_marked b) (block_marked c) (ap (λ (m : PMarks). m.block) second) (sym (ap (λ (m : PMarks). m.given) first)) k.block l.block;
  given = omega (arith, k.given, l.given);
}

-- ---- no call yet, one more, and one that fails

pub no_call : (v : PVolume) → DoesAll [] [] v v
no_call v = record { called = refl; snapshots = refl; marks = refl; kept = kept_all (live_of v) }

called_more : (cs : List Timed) (rs : List Reply) (c : Timed) (r : Reply) (a b new : PVolume) → AllCalled cs rs a b → Called c.0 c.1 r b new → Succeeds r → AllCalled (cs ++ c ∷ []) (rs ++ r ∷ []) a new
called_more [] [] c r a b new all one well = (new, subst (λ (v : PVolume). Called c.0 c.1 r v new) all one, well, refl)
called_more [] (q ∷ rs) c r a b new all one well = absurd all
called_more (d ∷ cs) [] c r a b new all one well = absurd all
called_more (d ∷ cs) (q ∷ rs) c r a b new all one well = (all.0, all.1, all.2, called_more cs rs c r all.0 b new all.3 one well)

pub does_more : (cs : List Timed) (rs : List Reply) (c : Timed) (r : Reply) (a b new : PVolume) → DoesAll cs rs a b → Called c.0 c.1 r b new → Succeeds r → DoesAll (cs ++ c ∷ []) (rs ++ r ∷ []) a new
does_more cs rs c r a b new all one well = record {
  called = called_more cs rs c r a b new all.called one well;
  snapshots = one.snapshots ∙ all.snapshots;
  marks = one.marks ∙ all.marks;
  kept = kept_through (live_of a) (live_of b) (live_of new) all.marks one.marks all.kept one.kept;
}

pub fails_behind : (cs : List Timed) (rs : List Reply) (c : Timed) (more : List Timed) (e : Errno) (a b new : PVolume) → AllCalled cs rs a b → Called c.0 c.1 (Fault e) b new → CalledUntil (cs ++ c ∷ more) rs e a
fails_behind [] [] c more e a b new all one =
    subst (λ (v : PVolume). Called c.0 c.1 (Fault e) v v) all (subst (λ (v : PVolume). Called c.0 c.1 (Fault e) b v) (one.refused e refl) one)
fails_behind [] (q ∷ rs) c more e a b new all one = absurd all
fails_behind (d ∷ cs) [] c more e a b new all one = absurd all
fails_behind (d ∷ cs) (q ∷ rs) c more e a b new all one = (all.0, all.1, all.2, fails_behind cs rs c more e all.0 b new all.3 one)

-- without a reply, no call was done
pub none_done : (cs : List Timed) (rs : List Reply) (a b : PVolume) → AllCalled cs rs a b → rs ≡ [] → b ≡ a
none_done [] [] a b all e = all
none_done [] (q ∷ rs) a b all e = absurd all
none_done (d ∷ cs) [] a b all e = absurd all
none_done (d ∷ cs) (q ∷ rs) a b all e = (cc)

-- one call that fails has no reply before it
one_fails : (cs : List Timed) (rs : List Reply) (e : Errno) (v : PVolume) → CalledUntil cs rs e v → length cs ≡ 1 → rs ≡ []
one_fails [] rs e v until n = absurd until
one_fails (c ∷ cs) [] e v until n = refl
one_fails (c ∷ []) (r ∷ rs) e v until n = absurd until.3
one_fails (c ∷ d ∷ cs) (r ∷ rs) e v until n = absurd (omega (arith, n))

-- a list of one call that fails
pub one_failed : (cs : List Timed) (rs : List Reply) (answer : Result (Unit {0}) Errno) (old new : PVolume) → length cs ≡ 1 → IfErr answer (λ e. CalledUntil cs rs e old) → IfErr answer (λ e. rs ≡ [] → new ≡ old) → IfErr answer (λ e. FailsAt cs (length rs) e old new)
one_failed cs rs (Ok x) old new n until first = tt
one_failed cs rs (Err e) old new n until first = record { replies = rs; before = refl; called = until; nothing = first (one_fails cs rs e old until n) }

-- memory was refused before the first call
pub lacks_first : (cs : List Timed) (v : PVolume) → 0 < length cs → FailsAt cs 0 ENOMEM v v
lacks_first [] v some = absurd (omega (arith, some))
lacks_first (c ∷ cs) v some = record { replies = []; before = refl; called = lacks_call v c.0 c.1 (live_of v) refl; nothing = refl }

-- ---- what is put back

-- a volume with the trees that it had when its snapshots and marks were the same
pub is_put_back : (old now : PVolume) (before : FsRoot) → before ≡ old.live → now.snapshots ≡ old.snapshots → now.marks ≡ old.marks → record now { live = before } ≡ old
is_put_back old now before same snapshots marks = λ k. record { live = same k; snapshots = snapshots k; marks = marks k }

-- ---- the law

legal_all : (cs : List Timed) (rs : List Reply) (a b : PVolume) (w : World) → Means a w → AllCalled cs rs a b → IsLegal w (timed_calls cs rs) × Means b (after w (timed_calls cs rs))
legal_all [] [] a b w m all = (tt, subst (λ (v : PVolume). Means v w) (sym all) m)
legal_all [] (r ∷ rs) a b w m all = absurd all
legal_all (c ∷ cs) [] a b w m all = absurd all
legal_all (c ∷ cs) (r ∷ rs) a b w m all =
    let l = all.1.leads w m in
    let more = legal_all cs rs all.0 b (next w (Ask c.0 c.1) (Replied r)) l.1 all.3 in
    ((l.0, more.0), more.1)

legal_until : (cs : List Timed) (rs : List Reply) (e : Errno) (a : PVolume) (w : World) → Means a w → CalledUntil cs rs e a → IsLegal w (timed_calls cs (rs ++ Fault e ∷ []))
legal_until [] rs e a w m until = absurd until
legal_until (c ∷ []) [] e a w m until = ((until.leads w m).0, tt)
legal_until (c ∷ d ∷ cs) [] e a w m until = ((until.leads w m).0, tt)
legal_until (c ∷ cs) (r ∷ rs) e a w m until =
    let l = until.1.leads w m in
    (l.0, legal_until cs rs e until.0 (next w (Ask c.0 c.1) (Replied r)) l.1 until.3)

pub transaction_is_all_or_nothing : (calls : List Timed) (answer : Result (Vec Reply) FailedCall) (v new : PVolume) (w : World) → Means v w → Transacts calls answer v new → AllOrNothing calls answer w new
transaction_is_all_or_nothing calls (Ok replies) v new w m done = legal_all calls replies.items v new w m done.called
transaction_is_all_or_nothing calls (Err f) v new w m done =
    (subst (λ (x : PVolume). Means x w) (sym done.nothing) m, (done.replies, done.before, legal_until calls done.replies f.errno v w m done.called))

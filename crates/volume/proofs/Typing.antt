-- A call's reply is of the call's kind, and a call that only reads changes nothing.
use Rattle.std.proofs.Common.{◌≡◌, ◌⊎◌, ℕ, List, [], ◌∷◌, length, Bool, true, false, cond, refl, sym, ap, subst, ◌∙◌, Option, inl, inr}
use Rattle.std.specs.Prelude.{◌&&◌, Result, Ok, Err}
use Rattle.std.proofs.lemmas.Bool.{cond_both}
use Rattle.call_compiler.specs.Compiled.{IsCompiled, Messages, MeanTree, Sends, no_messages, touches_root}
use Rattle.call_compiler.specs.declared.indexes.Indexes.{Indexes}
use Rattle.pathkey.specs.Names.{same_path}
use Rattle.pathkey.specs.declared.errno.Errno.{Errno}
use Rattle.pathkey.specs.declared.errno.Errno.TheVariants.{ENOMEM}
use Rattle.reference.specs.Calls.{Outcome, is_done, changed, does, unless, faults_of_new, faults_of_write, faults_of_truncate, faults_of_unlink, faults_of_rmdir, faults_of_rmtree, faults_of_rename_from, faults_of_rename, faults_of_read, faults_of_stat, faults_of_readdir, placed, is_empty, bytes_of, names_of, stat_of}
use Rattle.reference.specs.Tree.{At, Found, Missing, Blocked, Tree, Dir, File, nothing, with_entry, without, entry_at, over, sized}
use Rattle.reference.specs.declared.call.Call.{Call}
use Rattle.reference.specs.declared.call.Call.TheVariants.{Mkdir, Create, Write, Truncate, Unlink, Rmdir, Rename, Rmtree, Read, Stat as AskStat, Readdir}
use Rattle.reference.specs.declared.reply.Reply.{Reply}
use Rattle.reference.specs.declared.reply.Reply.TheVariants.{Done, Count, Fault, Names}
use Rattle.volume.specs.Changes.{Called, Does}
use Rattle.volume.specs.Marked.{PLive}
use Rattle.volume.specs.HistoryOf.{Tells}
use Rattle.volume.specs.Typed.{IsCount, IsData, IsNames, IsOfKind, IsSettled, IsStat, Looks}
use Rattle.volume.specs.FsRoot.{after_call, reply_to}
use Rattle.volume.specs.Volumes.{PVolume, MeanSome, live_of}
use Rattle.volume.specs.declared.fs_root.FsRoot.{FsRoot}
use Rattle.reference.proofs.NoFaults.{unless_holds}
use Rattle.reference.proofs.Touching.{reply_is}
use Rattle.volume.proofs.Leading.{volume, call_done, kept_all, nothing_comes}

-- ---- kinds of replies

settles : (t : Tree) (fs : List (Option Errno)) (x : Tree) → IsSettled (unless t fs (x, Done)).1
settles t fs x = unless_holds (λ o. IsSettled o.1) t fs (x, Done) (λ e. tt) (λ none. tt)

counts : (t x : Tree) (w : List ℕ) → IsCount (cond {A = Outcome} (is_empty w) (t, Count 0) (x, Count (length w))).1
counts t x [] = tt
counts t x (b ∷ w) = tt

assert_invariant : (here : At) → IsStat (stat_of here)
assert_invariant (Found (Dir date es)) = tt
assert_invariant (Found (File date b)) = tt
assert_invariant Missing = tt
assert_invariant Blocked = tt

changed_kind : (c : Call) (at : ℕ) (t : Tree) → IsOfKind c (changed at t c).1
unfolding changed
changed_kind (Mkdir p) at t = settles t (faults_of_new t p) (with_entry t p (Dir at nothing))
changed_kind (Create p) at t = settles t (faults_of_new t p) (with_entry t p (File at []))
changed_kind (Write p off w) at t = unless_holds (λ o. IsCount o.1) t (faults_of_write t p off w) _ (λ e. tt) (λ none. counts t (with_entry t p (File at (over (bytes_of (entry_at t p)) off w))) w)
changed_kind (Truncate p n) at t = settles t (faults_of_truncate t p n) (with_entry t p (File at (sized (bytes_of (entry_at t p)) n)))
changed_kind (Unlink p) at t = settles t (faults_of_unlink t p) (without t p)
changed_kind (Rmdir p) at t = settles t (faults_of_rmdir t p) (without t p)
changed_kind (Rmtree p) at t = settles t (faults_of_rmtree t p) (without t p)
changed_kind (Rename o n) at t =
    unless_holds (λ x. IsSettled x.1) t (faults_of_rename_from t o) _ (λ e. tt) (λ none.
    cond_both {A = Outcome} (same_path o n) (t, Done) (unless t (faults_of_rename t o n) (placed (without t o) n (entry_at t o), Done)) (λ x. IsSettled x.1)
    (λ e. tt) (λ e. settles t (faults_of_rename t o n) (placed (without t o) n (entry_at t o))))
changed_kind (Read p off n) at t = unless_holds (λ o. IsData o.1) t (faults_of_read t p n) _ (λ e. tt) (λ none. tt)
changed_kind (AskStat p) at t = unless_holds (λ o. IsStat o.1) t (faults_of_stat t p) (t, stat_of (entry_at t p)) (λ e. tt) (λ none. assert_invariant (entry_at t p))
changed_kind (Readdir p) at t = unless_holds (λ o. IsNames o.1) t (faults_of_readdir t p) (t, Names (names_of (entry_at t p))) (λ e. tt) (λ none. tt)

pub of_kind : (c : Call) (at : ℕ) (t : Tree) → IsOfKind c (does at t c).1
of_kind c at t = subst (IsOfKind c) (sym (reply_is at t c)) (changed_kind c at t)

-- a failure is a reply of every kind
pub refusal : (c : Call) (e : Errno) → IsOfKind c (Fault e)
refusal (Mkdir p) e = tt
refusal (Create p) e = tt
refusal (Write p off w) e = tt
refusal (Truncate p n) e = tt
refusal (Unlink p) e = tt
refusal (Rmdir p) e = tt
refusal (Rename o n) e = tt
refusal (Rmtree p) e = tt
refusal (Read p off n) e = tt
refusal (AskStat p) e = tt
refusal (Readdir p) e = tt

-- and so is ENOMEM
pub answered_kind : {T E : Type 0} (c : Call) (a : Result T E) (r : Reply) → IsOfKind c r → IsOfKind c (reply_to a r)
answered_kind c (Ok x) r h = h
answered_kind c (Err e) r h = refusal c ENOMEM

-- the reply of a call that was compiled over the indexes of a tree is of its kind
pub compiled_kind : (c : Call) (at : ℕ) (r : Reply) (msgs : Messages) (i : Indexes) (t : Tree) → MeanTree i t → IsCompiled i c at r msgs → IsOfKind c r
compiled_kind c at r msgs i t m h = subst (IsOfKind c) (sym (h.reply t m)) (of_kind c at t)

-- and so is the reply that is reported for them
pub reported_kind : (c : Call) (r : Reply) (i : FsRoot) → MeanSome i → Tells c r i → IsOfKind c r
reported_kind c r i s k = by (k s.tree 0 s.means)
  where
    by : (r ≡ (does 0 s.tree c).1) ⊎ (r ≡ Fault ENOMEM) → IsOfKind c r
    by (inl e) = subst (IsOfKind c) (sym e) (of_kind c 0 s.tree)
    by (inr e) = subst (IsOfKind c) (sym e) (refusal c ENOMEM)

-- ---- calls that only read

sends_nothing : (c : Call) (at : ℕ) (i : Indexes) (msgs : Messages) → Looks c → Sends i c at msgs → msgs ≡ no_messages
sends_nothing (Read p off n) at i msgs l s = s
sends_nothing (AskStat p) at i msgs l s = s
sends_nothing (Readdir p) at i msgs l s = s
sends_nothing (Mkdir p) at i msgs l s = absurd l
sends_nothing (Create p) at i msgs l s = absurd l
sends_nothing (Write p off w) at i msgs l s = absurd l
sends_nothing (Truncate p n) at i msgs l s = absurd l
sends_nothing (Unlink p) at i msgs l s = absurd l
sends_nothing (Rmdir p) at i msgs l s = absurd l
sends_nothing (Rename o n) at i msgs l s = absurd l
sends_nothing (Rmtree p) at i msgs l s = absurd l

-- they do not change the mtime of the root
not_in_root : (c : Call) → Looks c → touches_root c ≡ false
not_in_root (Read p off n) l = refl
not_in_root (AskStat p) l = refl
not_in_root (Readdir p) l = refl
not_in_root (Mkdir p) l = absurd l
not_in_root (Create p) l = absurd l
not_in_root (Write p off w) l = absurd l
not_in_root (Truncate p n) l = absurd l
not_in_root (Unlink p) l = absurd l
not_in_root (Rmdir p) l = absurd l
not_in_root (Rename o n) l = absurd l
not_in_root (Rmtree p) l = absurd l

root_stays : (c : Call) (r : Reply) (at modified : ℕ) → Looks c → after_call (touches_root c) r at modified ≡ modified
root_stays c r at modified l = ap (λ (b : Bool). after_call b r at modified) (not_in_root c l) ∙ never (is_done r)
  where
    never : (b : Bool) → cond (b && false) at modified ≡ modified
    never true = refl
    never false = refl

-- without messages the indexes are unchanged, and are those of the tree after the call
looked_on : (c : Call) (at : ℕ) (r : Reply) (l : PLive) → IsCompiled l.indexes c at r no_messages → Does c at r l.indexes l.indexes
looked_on c at r l h t m = (h.reply t m, h.tree t m)

looked_all : (c : Call) (at : ℕ) (r : Reply) (v : PVolume) → Looks c → IsCompiled v.live.indexes c at r no_messages → Called c at r v v
looked_all c at r v l h =
    subst (λ (n : ℕ). Called c at r v (volume (live_of v) n v.snapshots)) (root_stays c r at v.live.modified l)
    (call_done v c at r (live_of v) (looked_on c at r (live_of v) h) (λ e k. refl) (record {
      msgs = no_messages;
      sends = h.sends;
      meta = refl;
      block = refl;
      lists = nothing_comes (live_of v) (live_of v) refl;
    }) refl (kept_all (live_of v)))

-- a call that only reads has done everything with its reply
pub looked : (c : Call) (at : ℕ) (r : Reply) (msgs : Messages) (v : PVolume) → Looks c → IsCompiled v.live.indexes c at r msgs → Called c at r v v
looked c at r msgs v l h = looked_all c at r v l (subst (IsCompiled v.live.indexes c at r) (sends_nothing c at v.live.indexes msgs l h.sends) h)

-- What a log says of the snapshots that it knows stays true.
use Rattle.std.proofs.Common.{◌≡◌, ◌⊎◌, ℕ, Bool, true, false, true≢false, not, cond, List, [], ◌∷◌, ◌++◌, map, Option, None, Some, inl, inr, refl, sym, ap, subst, ◌∙◌, suc, zero, arith}
use Rattle.std.specs.Prelude.{Result, IfNone, IfSome, OnErr, OnOk, Ok, Err, is_some}
use Rattle.std.specs.FinMap as finite
use Rattle.std.specs.List.{AllByRecursion, Contains}
use Rattle.std.proofs.lemmas.Cmp.{nat_list_cmp_total}
use Rattle.block_index.specs.Means.{blocks}
use Rattle.block_index.specs.Updates.{means as block_means}
use Rattle.block_index.specs.declared.update.BlockUpdate.{BlockUpdate}
use Rattle.call_compiler.specs.Compiled.{Messages}
use Rattle.call_compiler.specs.Laws.{HaveTaken}
use Rattle.call_compiler.specs.declared.indexes.Indexes.{Indexes}
use Rattle.change_log.specs.Snapshots.{AnswersSince, Covers, IsRestored, Notes, Restores, Since, nothing_since, with_batch, without}
use Rattle.change_log.specs.declared.touched_keys.Changes.{Changes}
use Rattle.change_log.specs.declared.touched_keys.Changes.TheVariants.{All}
use Rattle.change_log.proofs.Noting.{apart_msgs}
use Rattle.message.specs.Effects.{any_touches}
use Rattle.message.specs.declared.msg.Msg.{Msg}
use Rattle.message.proofs.Lists.{untouched}
use Rattle.meta_index.specs.Means.{metadata}
use Rattle.meta_index.specs.Updates.{means as meta_means}
use Rattle.meta_index.specs.declared.update.MetaUpdate.{MetaUpdate}
use Rattle.reference.specs.declared.reply.Meta.{Meta}
use Rattle.pathkey.specs.Keys.{Key}
use Rattle.pathkey.specs.Order.{same}
use Rattle.pathkey.proofs.OrderFacts.{same_from_eq, same_true}
use Rattle.volume.specs.Changes.{StepsLive}
use Rattle.volume.specs.Differences.{AgreeBeside, AgreeOutside, IsTracked, Tracks}
use Rattle.volume.specs.Jobs.{SameValues}
use Rattle.volume.specs.Marked.{PLive}
use Rattle.volume.specs.Volumes.{Kept}
use Rattle.volume.specs.declared.event.CompactStep.{CompactStep}
use Rattle.volume.specs.declared.fs_root.FsRoot.{FsRoot}
use Rattle.volume.proofs.Trees.{step_values}

-- ---- facts about each snapshot

each : (P Q : Since → Type 0) → ((s : Since) → P s → Q s) → (log : List Since) → AllByRecursion P log → AllByRecursion Q log
each P Q f [] h = tt
each P Q f (s ∷ log) h = (f s h.0, each P Q f log h.1)

each_mapped : (P Q : Since → Type 0) (g : Since → Since) → ((s : Since) → P s → Q (g s)) → (log : List Since) → AllByRecursion P log → AllByRecursion Q (map g log)
each_mapped P Q g f [] h = tt
each_mapped P Q g f (s ∷ log) h = (f s h.0, each_mapped P Q g f log h.1)

each_more : (P : Since → Type 0) (log : List Since) (s : Since) → AllByRecursion P log → P s → AllByRecursion P (log ++ s ∷ [])
each_more P [] s h one = (one, tt)
each_more P (t ∷ log) s h one = (h.0, each_more P log s h.1 one)

each_known : (P : Since → Type 0) (log : List Since) (s : Since) → AllByRecursion P log → Contains log s → P s
each_known P [] s h there = absurd (omega (arith, there.1))
each_known P (t ∷ log) s h (zero, lt, is) = subst P is h.0
each_known P (t ∷ log) s h (suc k, lt, is) = each_known P log s h.1 (k, omega (arith, lt), is)

-- ---- the live indexes change

-- the values at keys that no message touches stay
record ChangesTouched (msgs : Messages) (i j : Indexes) : Type 0 where
  meta : (k : Key) → any_touches msgs.meta k ≡ false → metadata j.meta k ≡ metadata i.meta k
  block : (k : Key) → any_touches msgs.block k ≡ false → blocks j.block k ≡ blocks i.block k

taken_changes : (msgs : Messages) (i j : Indexes) → HaveTaken msgs i j → ChangesTouched msgs i j
taken_changes msgs i j h = record {
  meta = λ k out. h.meta.value_after k ∙ untouched meta_means msgs.meta k (metadata i.meta k) out;
  block = λ k out. h.block.value_after k ∙ untouched block_means msgs.block k (blocks i.block k) out;
}

same_changes : (msgs : Messages) (i j : Indexes) → j ≡ i → ChangesTouched msgs i j
same_changes msgs i j e = record {
  meta = λ k out. ap (λ (x : Indexes). metadata x.meta k) e;
  block = λ k out. ap (λ (x : Indexes). blocks x.block k) e;
}

-- an append changes no other values, whether it is done or not
append_changes : {T E : Type 0} (msgs : Messages) (a b : PLive) (r : Result T E) → OnOk r (HaveTaken msgs a.indexes b.indexes) → OnErr r (b ≡ a) → ChangesTouched msgs a.indexes b.indexes
append_changes msgs a b (Ok x) ok err = taken_changes msgs a.indexes b.indexes ok
append_changes msgs a b (Err x) ok err = same_changes msgs a.indexes b.indexes (ap (λ (l : PLive). l.indexes) err)

one_noted : (msgs : Messages) (kept : Kept) (i j : Indexes) → ChangesTouched msgs i j → (s : Since) → IsTracked kept i s → IsTracked kept j (with_batch msgs.meta msgs.block s)
one_noted msgs kept i j h s is = record {
  root = is.root;
  there = is.there;
  agree = record {
    meta = λ k out. let parts = apart_msgs msgs.meta k s.meta out in h.meta k parts.1 ∙ is.agree.meta k parts.0;
    block = λ k out. let parts = apart_msgs msgs.block k s.block out in h.block k parts.1 ∙ is.agree.block k parts.0;
  };
}

-- messages that are noted before they are appended
tracks_noted : (msgs : Messages) (old new : List Since) (kept : Kept) (i j : Indexes) → Notes msgs.meta msgs.block old new → ChangesTouched msgs i j → Tracks old kept i → Tracks new kept j
tracks_noted msgs old new kept i j (inl e) h is = subst (λ (l : List Since). Tracks l kept j) (sym e) (each_mapped (IsTracked kept i) (IsTracked kept j) (λ s. with_batch msgs.meta msgs.block s) (one_noted msgs kept i j h) old is)
tracks_noted msgs old new kept i j (inr e) h is = subst (λ (l : List Since). Tracks l kept j) (sym e) tt

-- the same of what was appended to live indexes
pub tracks_appended : {T E : Type 0} (msgs : Messages) (ms : List (Msg MetaUpdate Meta)) (ns : List (Msg BlockUpdate (List ℕ))) (old new : List Since) (kept : Kept) (a b : PLive) (r : Result T E) → ms ≡ msgs.meta → ns ≡ msgs.block → Notes ms ns old new → OnOk r (HaveTaken msgs a.indexes b.indexes) → OnErr r (b ≡ a) → Tracks old kept a.indexes → Tracks new kept b.indexes
tracks_appended msgs ms ns old new kept a b r meta block notes ok err is =
    tracks_noted msgs old new kept a.indexes b.indexes
    (subst (λ (l : List (Msg MetaUpdate Meta)). Notes l msgs.block old new) meta (subst (λ (l : List (Msg BlockUpdate (List ℕ))). Notes ms l old new) block notes))
    (append_changes msgs a b r ok err) is

one_kept : (kept : Kept) (i j : Indexes) → SameValues i j → (s : Since) → IsTracked kept i s → IsTracked kept j s
one_kept kept i j h s is = record {
  root = is.root;
  there = is.there;
  agree = record { meta = λ k out. h.meta k ∙ is.agree.meta k out; block = λ k out. h.block k ∙ is.agree.block k out };
}

-- each key keeps its value
pub tracks_values : (log : List Since) (kept : Kept) (i j : Indexes) → SameValues i j → Tracks log kept i → Tracks log kept j
tracks_values log kept i j h is = each (IsTracked kept i) (IsTracked kept j) (one_kept kept i j h) log is

pub tracks_same : (log : List Since) (kept : Kept) (i j : Indexes) → j ≡ i → Tracks log kept i → Tracks log kept j
tracks_same log kept i j e is = subst (λ (x : Indexes). Tracks log kept x) (sym e) is

-- a step, or none
pub tracks_stepped : (log : List Since) (kept : Kept) (a b : PLive) (r : Option CompactStep) → IfSome r (λ t. StepsLive t.step t.reply a b) → IfNone r (b ≡ a) → Tracks log kept a.indexes → Tracks log kept b.indexes
tracks_stepped log kept a b None some none is = tracks_same log kept a.indexes b.indexes (ap (λ (l : PLive). l.indexes) none) is
tracks_stepped log kept a b (Some t) some none is = tracks_values log kept a.indexes b.indexes (step_values t.step.index t.step.step t.reply a.indexes b.indexes some.index) is

-- ---- the snapshots change

agree_self : (meta block : Key → Bool) (i : Indexes) → AgreeOutside meta block i i
agree_self meta block i = record { meta = λ k out. refl; block = λ k out. refl }

-- a tree is stored under no name under which there is none
other_name : (kept : Kept) (s q : List ℕ) (r : FsRoot) → finite.get kept s ≡ None → finite.get kept q ≡ Some r → same q s ≡ false
other_name kept s q r none some = elim (same q s) as (λ b. same q s ≡ b → b ≡ false) [
  | true ↦ λ e. let clash = sym some ∙ ap (λ (x : List ℕ). finite.get kept x) (same_true q s e) ∙ none in (cc)
  | false ↦ λ e. refl
] refl

one_inserted : (kept : Kept) (s : List ℕ) (r : FsRoot) (live : Indexes) → finite.get kept s ≡ None → (t : Since) → IsTracked kept live t → IsTracked (finite.insert kept s r) live t
one_inserted kept s r live none t is = record {
  root = is.root;
  there = finite.get-insert nat_list_cmp_total kept s r t.name ∙ ap (λ (b : Bool). cond b (Some r) (finite.get kept t.name)) (other_name kept s t.name is.root none is.there) ∙ is.there;
  agree = is.agree;
}

-- nothing was touched since a snapshot that was just taken
new_tracked : (kept : Kept) (s : List ℕ) (r : FsRoot) → IsTracked (finite.insert kept s r) r.indexes (nothing_since s)
new_tracked kept s r = record {
  root = r;
  there = finite.get-insert nat_list_cmp_total kept s r s ∙ ap (λ (b : Bool). cond b (Some r) (finite.get kept s)) (same_from_eq s s refl);
  agree = agree_self (λ k. false) (λ k. false) r.indexes;
}

begun : (old new : List Since) (kept : Kept) (s : List ℕ) (r : FsRoot) → finite.get kept s ≡ None → (new ≡ old ++ nothing_since s ∷ []) ⊎ (new ≡ old) → Tracks old kept r.indexes → Tracks new (finite.insert kept s r) r.indexes
begun old new kept s r none (inl e) is =
    subst (λ (l : List Since). Tracks l (finite.insert kept s r) r.indexes) (sym e)
    (each_more (IsTracked (finite.insert kept s r) r.indexes) old (nothing_since s) (each (IsTracked kept r.indexes) (IsTracked (finite.insert kept s r) r.indexes) (one_inserted kept s r r.indexes none) old is) (new_tracked kept s r))
begun old new kept s r none (inr e) is =
    subst (λ (l : List Since). Tracks l (finite.insert kept s r) r.indexes) (sym e)
    (each (IsTracked kept r.indexes) (IsTracked (finite.insert kept s r) r.indexes) (one_inserted kept s r r.indexes none) old is)

-- under a name that the map does not have there is no tree
pub none_there : (kept : Kept) (s : List ℕ) → finite.contains_key kept s ≡ false → finite.get kept s ≡ None
none_there kept s e = of (finite.get kept s) e
  where
    of : (o : Option FsRoot) → is_some o ≡ false → o ≡ None
    of None e = refl
    of (Some r) e = absurd (true≢false e)

-- a snapshot is taken
pub tracks_begun : (old new : List Since) (kept after : Kept) (s : List ℕ) (r : FsRoot) → finite.contains_key kept s ≡ false → after ≡ finite.insert kept s r → (new ≡ old ++ nothing_since s ∷ []) ⊎ (new ≡ old) → Tracks old kept r.indexes → Tracks new after r.indexes
tracks_begun old new kept after s r fresh e h is = subst (λ (k : Kept). Tracks new k r.indexes) (sym e) (begun old new kept s r (none_there kept s fresh) h is)

one_removed : (kept : Kept) (s : List ℕ) (live : Indexes) (t : Since) → same t.name s ≡ false → IsTracked kept live t → IsTracked (finite.remove kept s) live t
one_removed kept s live t out is = record {
  root = is.root;
  there = finite.get-remove nat_list_cmp_total kept s t.name ∙ ap (λ (b : Bool). cond b None (finite.get kept t.name)) out ∙ is.there;
  agree = is.agree;
}

removed : (kept : Kept) (s : List ℕ) (live : Indexes) (log : List Since) → Tracks log kept live → Tracks (without s log) (finite.remove kept s) live
removed kept s live [] is = tt
removed kept s live (t ∷ log) is =
    elim (same t.name s) as (λ b. same t.name s ≡ b → Tracks (cond (not b) (t ∷ without s log) (without s log)) (finite.remove kept s) live) [
      | true ↦ λ e. removed kept s live log is.1
      | false ↦ λ e. (one_removed kept s live t e is.0, removed kept s live log is.1)
    ]
    refl

-- a snapshot is dropped
pub tracks_dropped : (old new : List Since) (kept after : Kept) (s : List ℕ) (live : Indexes) → after ≡ finite.remove kept s → new ≡ without s old → Tracks old kept live → Tracks new after live
tracks_dropped old new kept after s live e h is =
    subst (λ (k : Kept). Tracks new k live) (sym e) (subst (λ (l : List Since). Tracks l (finite.remove kept s) live) (sym h) (removed kept s live old is))

-- nothing is known any more
pub tracks_none : (log : List Since) (kept : Kept) (live : Indexes) → log ≡ [] → Tracks log kept live
tracks_none log kept live e = subst (λ (l : List Since). Tracks l kept live) (sym e) tt

-- the live tree becomes that of a snapshot
one_restored : (name : List ℕ) (old : List Since) (kept : Kept) (live : Indexes) (r : FsRoot) → finite.get kept name ≡ Some r → Tracks old kept live → (s : Since) → IsRestored name old s → IsTracked kept r.indexes s
one_restored name old kept live r named is s h =
    let t : IsTracked kept live h.before = each_known (IsTracked kept live) old h.before is h.known in
    let b : IsTracked kept live h.base = each_known (IsTracked kept live) old h.base is h.base_known in
    let some : Some r ≡ Some b.root = sym named ∙ ap (λ (q : List ℕ). finite.get kept q) (sym h.base_same) ∙ b.there in
    let root : r ≡ b.root = cc in
    record {
      root = t.root;
      there = ap (λ (q : List ℕ). finite.get kept q) (sym h.same) ∙ t.there;
      agree = record {
        meta = λ k out. let parts = h.both.meta k out in ap (λ (x : FsRoot). metadata x.indexes.meta k) root ∙ sym (b.agree.meta k parts.1) ∙ t.agree.meta k parts.0;
        block = λ k out. let parts = h.both.block k out in ap (λ (x : FsRoot). blocks x.indexes.block k) root ∙ sym (b.agree.block k parts.1) ∙ t.agree.block k parts.0;
      };
    }

pub tracks_restored : (name : List ℕ) (old new : List Since) (kept : Kept) (live after : Indexes) (r : FsRoot) → finite.get kept name ≡ Some r → after ≡ r.indexes → Restores name old new → Tracks old kept live → Tracks new kept after
tracks_restored name old new kept live after r named e h is =
    tracks_same new kept r.indexes after e (each (IsRestored name old) (IsTracked kept r.indexes) (one_restored name old kept live r named is) new h)

-- ---- an answer

-- each key may differ
pub all_differ : (i j : Indexes) → AgreeBeside All i j
all_differ i j = record { meta = λ k out. absurd (true≢false out); block = λ k out. absurd (true≢false out) }

-- what covers the keys since a snapshot tells what may differ from it
covered : (c : Changes) (s : Since) (kept : Kept) (live : Indexes) (r : FsRoot) → Covers c s → IsTracked kept live s → finite.get kept s.name ≡ Some r → AgreeBeside c r.indexes live
covered c s kept live r covers is there =
    let some : Some is.root ≡ Some r = sym is.there ∙ there in
    let root : is.root ≡ r = cc in
    subst (λ (x : FsRoot). AgreeBeside c x.indexes live) root
    (record { meta = λ k out. is.agree.meta k (covers.meta k out); block = λ k out. is.agree.block k (covers.block k out) })

pub tells_changes : (c : Changes) (log : List Since) (kept : Kept) (live : Indexes) (name : List ℕ) → AnswersSince name c log → Tracks log kept live → (r : FsRoot) → finite.get kept name ≡ Some r → AgreeBeside c r.indexes live
tells_changes c log kept live name (inl e) is r there = subst (λ (x : Changes). AgreeBeside x r.indexes live) (sym e) (all_differ r.indexes live)
tells_changes c log kept live name (inr (s, in_log, is_name, covers)) is r there =
    covered c s kept live r covers (each_known (IsTracked kept live) log s is in_log) (ap (λ (q : List ℕ). finite.get kept q) is_name ∙ there)

-- Live indexes with their marks: which marks remain if one index changes, or both receive messages.
use Rattle.std.proofs.Common.{◌≡◌, ℕ, ◌+◌, ◌≤◌, ◌^◌, List, [], ◌∷◌, ◌++◌, length, refl, ap, sym, subst, ◌∙◌, arith, Option}
use Rattle.std.specs.Prelude.{Result, Ok, Err, OnOk, OnErr}
use Rattle.std.proofs.lemmas.Result.{on_err_weaker, on_ok_weaker}
use Rattle.block_index.specs.Updates.{means as block_means}
use Rattle.block_index.specs.declared.update.BlockUpdate.{BlockUpdate}
use Rattle.call_compiler.specs.Compiled.{Messages}
use Rattle.call_compiler.specs.Laws.{HaveTaken}
use Rattle.call_compiler.specs.declared.indexes.Indexes.{Indexes}
use Rattle.jobs.specs.Marks.{PMarked, AreMarks, AllKept, Each, KeepsContent, kept_in, without}
use Rattle.jobs.specs.Survive.{survives, left_by}
use Rattle.jobs.specs.declared.mark.Mark.{Mark}
use Rattle.jobs.proofs.Fitting.{keeps_fits, keeps_fits-here, keeps_fits-more}
use Rattle.jobs.proofs.Keeping.{contents_stay, kept_append}
use Rattle.jobs.proofs.MarkFacts.{each_without, fewer_without, marks_given, marks_without}
use Rattle.jobs.proofs.Stepping.{each_left, fewer_left}
use Rattle.meta_index.specs.Updates.{means as meta_means}
use Rattle.meta_index.specs.declared.update.MetaUpdate.{MetaUpdate}
use Rattle.node.specs.Appended.{Appended}
use Rattle.node.specs.Grafts.{KeepsLists}
use Rattle.node.specs.Places.{way}
use Rattle.node.specs.Pure.{PTree}
use Rattle.node.specs.RootSteps.{StepAnswers}
use Rattle.node.specs.declared.place.TreeStep.{TreeStep}
use Rattle.node.specs.declared.step.StepReply.{StepReply}
use Rattle.reference.specs.declared.reply.Meta.{Meta as MetaValue}
use Rattle.volume.specs.Changes.{StepsLive}
use Rattle.volume.specs.Marked.{PLive, AreMarked, Keeps, KeepMarkedLists, KeepsMarks, meta_marked, block_marked}
use Rattle.volume.specs.declared.event.Index.{Index}
use Rattle.volume.specs.declared.event.Index.TheVariants.{Meta, Block}

-- ---- one tree

abbrev marked : {U V : Type 0} → PTree U V → List Mark → ℕ → PMarked U V
marked t ms given = record { tree = t; marks = ms; given = given }

module _ {U V : Type 0} (means : U → Option V → Option V) where
  -- a tree that changed, with some of its marks
  pub keeps_some : (a b : PTree U V) (ms new : List Mark) (given more : ℕ) → ((P : Mark → Type 0) → Each P ms → Each P new) → Each (KeepsContent means a b) new → Keeps means (marked a ms given) (marked b new more)
  keeps_some a b ms new given more sub k = record { content = k; fits = keeps_fits means a b ms new given more (marked a ms given) refl sub k }

  -- the same tree, with some of its marks
  pub keeps_here : (t : PTree U V) (ms new : List Mark) (given more : ℕ) → ((P : Mark → Type 0) → Each P ms → Each P new) → Keeps means (marked t ms given) (marked t new more)
  keeps_here t ms new given more sub = record { content = contents_stay means t new; fits = keeps_fits-here means t ms new given more (marked t ms given) refl sub }

  -- the same tree, with one more mark under the next ticket
  pub keeps_more : (t : PTree U V) (ms new : List Mark) (given more : ℕ) (m : Mark) → new ≡ ms ++ m ∷ [] → m.ticket ≡ given → Keeps means (marked t ms given) (marked t new more)
  keeps_more t ms new given more m e k = record { content = contents_stay means t new; fits = keeps_fits-more means t ms new given more m (marked t ms given) refl e k }

-- ---- both

-- with another tree and other marks of one index
abbrev pub with_meta : PLive → PTree MetaUpdate MetaValue → List Mark → ℕ → PLive
with_meta l t ms given = record { indexes = record { meta = record { tree = t }; block = l.indexes.block }; marks = record { meta = ms; block = l.marks.block; given = given } }

abbrev pub with_block : PLive → PTree BlockUpdate (List ℕ) → List Mark → ℕ → PLive
with_block l t ms given = record { indexes = record { meta = l.indexes.meta; block = record { tree = t } }; marks = record { meta = l.marks.meta; block = ms; given = given } }

pub meta_lasts : (l : PLive) (t : PTree MetaUpdate MetaValue) (ms : List Mark) (given : ℕ) → AreMarked l → AreMarks t.root 0 ms given → l.marks.given ≤ given → given ≤ 2 ^ 64 → length ms + length l.marks.block ≤ 64 → AreMarked (with_meta l t ms given)
meta_lasts l t ms given is marks more least few = record { meta = marks; block = marks_given l.indexes.block.tree.root 0 l.marks.block l.marks.given given more is.block; few = few; given = least }

pub block_lasts : (l : PLive) (t : PTree BlockUpdate (List ℕ)) (ms : List Mark) (given : ℕ) → AreMarked l → AreMarks t.root 0 ms given → l.marks.given ≤ given → given ≤ 2 ^ 64 → length l.marks.meta + length ms ≤ 64 → AreMarked (with_block l t ms given)
block_lasts l t ms given is marks more least few = record { meta = marks_given l.indexes.meta.tree.root 0 l.marks.meta l.marks.given given more is.meta; block = marks; few = few; given = least }

pub meta_keeps : (l : PLive) (t : PTree MetaUpdate MetaValue) (ms : List Mark) (given : ℕ) → l.marks.given ≤ given → Keeps meta_means (meta_marked l) (marked t ms given) → KeepsMarks l (with_meta l t ms given)
meta_keeps l t ms given more k = record { meta = k; block = keeps_here block_means l.indexes.block.tree l.marks.block l.marks.block l.marks.given given (λ P h. h); given = more }

pub block_keeps : (l : PLive) (t : PTree BlockUpdate (List ℕ)) (ms : List Mark) (given : ℕ) → l.marks.given ≤ given → Keeps block_means (block_marked l) (marked t ms given) → KeepsMarks l (with_block l t ms given)
block_keeps l t ms given more k = record { meta = keeps_here meta_means l.indexes.meta.tree l.marks.meta l.marks.meta l.marks.given given (λ P h. h); block = k; given = more }

-- ---- steps

-- the marks that a step leaves in its tree
abbrev left : {U V : Type 0} → TreeStep → StepReply → PTree U V → List Mark → List Mark
left s r a ms = left_by r (survives s.kind (way s.at) s.slot a.root) ms

left_each : {U V : Type 0} (s : TreeStep) (r : StepReply) (a : PTree U V) (ms new : List Mark) → new ≡ left s r a ms → (P : Mark → Type 0) → Each P ms → Each P new
left_each s r a ms new e P h = subst (λ (z : List Mark). Each P z) (sym e) (each_left P r (survives s.kind (way s.at) s.slot a.root) ms h)

left_fewer : {U V : Type 0} (s : TreeStep) (r : StepReply) (a : PTree U V) (ms new : List Mark) → new ≡ left s r a ms → length new ≤ length ms
left_fewer s r a ms new e = subst (λ (z : List Mark). length z ≤ length ms) (sym e) (fewer_left r (survives s.kind (way s.at) s.slot a.root) ms)

-- what a step guarantees for the marks of its tree
abbrev pub KeptBy : {U V : Type 0} → (U → Option V → Option V) → PTree U V → List Mark → PTree U V → List Mark → Type 0
KeptBy means a ms b new = (given : ℕ) → AreMarks a.root 0 ms given → AllKept means a b new given

pub meta_stepped_lasts : (l : PLive) (s : TreeStep) (r : StepReply) (t : PTree MetaUpdate MetaValue) (new : List Mark) → AreMarked l → new ≡ left s r l.indexes.meta.tree l.marks.meta → KeptBy meta_means l.indexes.meta.tree l.marks.meta t new → AreMarked (with_meta l t new l.marks.given)
meta_stepped_lasts l s r t new is e snapshot_root =
    let fewer : length new ≤ length l.marks.meta = left_fewer s r l.indexes.meta.tree l.marks.meta new e in
    meta_lasts l t new l.marks.given is (snapshot_root l.marks.given is.meta).0 (omega arith) is.given (omega (arith, fewer, is.few))

pub block_stepped_lasts : (l : PLive) (s : TreeStep) (r : StepReply) (t : PTree BlockUpdate (List ℕ)) (new : List Mark) → AreMarked l → new ≡ left s r l.indexes.block.tree l.marks.block → KeptBy block_means l.indexes.block.tree l.marks.block t new → AreMarked (with_block l t new l.marks.given)
block_stepped_lasts l s r t new is e snapshot_root =
    let fewer : length new ≤ length l.marks.block = left_fewer s r l.indexes.block.tree l.marks.block new e in
    block_lasts l t new l.marks.given is (snapshot_root l.marks.given is.block).0 (omega arith) is.given (omega (arith, fewer, is.few))

pub meta_stepped : (l : PLive) (x : Index) (s : TreeStep) (r : StepReply) (t : PTree MetaUpdate MetaValue) (new : List Mark) → x ≡ Meta → AreMarked l → StepAnswers meta_means s.kind (way s.at) s.slot r l.indexes.meta.tree t → new ≡ left s r l.indexes.meta.tree l.marks.meta → KeptBy meta_means l.indexes.meta.tree l.marks.meta t new
    → StepsLive (record { index = x; step = s }) r l (with_meta l t new l.marks.given)
meta_stepped l x s r t new x_is is answers e snapshot_root =
    let here : StepsLive (record { index = Meta; step = s }) r l (with_meta l t new l.marks.given) = record {
      index = (answers, refl);
      marks = ap (λ (z : List Mark). record (l.marks) { meta = z }) e;
      kept = meta_keeps l t new l.marks.given (omega arith) (keeps_some meta_means l.indexes.meta.tree t l.marks.meta new l.marks.given l.marks.given (left_each s r l.indexes.meta.tree l.marks.meta new e) (snapshot_root l.marks.given is.meta).1);
    } in
    subst (λ (y : Index). StepsLive (record { index = y; step = s }) r l (with_meta l t new l.marks.given)) (sym x_is) here

pub block_stepped : (l : PLive) (x : Index) (s : TreeStep) (r : StepReply) (t : PTree BlockUpdate (List ℕ)) (new : List Mark) → x ≡ Block → AreMarked l → StepAnswers block_means s.kind (way s.at) s.slot r l.indexes.block.tree t → new ≡ left s r l.indexes.block.tree l.marks.block → KeptBy block_means l.indexes.block.tree l.marks.block t new
    → StepsLive (record { index = x; step = s }) r l (with_block l t new l.marks.given)
block_stepped l x s r t new x_is is answers e snapshot_root =
    let here : StepsLive (record { index = Block; step = s }) r l (with_block l t new l.marks.given) = record {
      index = (answers, refl);
      marks = ap (λ (z : List Mark). record (l.marks) { block = z }) e;
      kept = block_keeps l t new l.marks.given (omega arith) (keeps_some block_means l.indexes.block.tree t l.marks.block new l.marks.given l.marks.given (left_each s r l.indexes.block.tree l.marks.block new e) (snapshot_root l.marks.given is.block).1);
    } in
    subst (λ (y : Index). StepsLive (record { index = y; step = s }) r l (with_block l t new l.marks.given)) (sym x_is) here

-- ---- cancelling

pub cancelled_lasts : (l : PLive) (ticket : ℕ) (ms bs : List Mark) → AreMarked l → ms ≡ without ticket l.marks.meta → bs ≡ without ticket l.marks.block → AreMarked (record l { marks = record { meta = ms; block = bs; given = l.marks.given } })
cancelled_lasts l ticket ms bs is e f =
    let one = fewer_without ticket l.marks.meta in
    let two = fewer_without ticket l.marks.block in
    record {
      meta = subst (λ (z : List Mark). AreMarks l.indexes.meta.tree.root 0 z l.marks.given) (sym e) (marks_without l.indexes.meta.tree.root ticket 0 l.marks.meta l.marks.given is.meta);
      block = subst (λ (z : List Mark). AreMarks l.indexes.block.tree.root 0 z l.marks.given) (sym f) (marks_without l.indexes.block.tree.root ticket 0 l.marks.block l.marks.given is.block);
      few = omega (arith, is.few, one, two, ap length e, ap length f);
      given = is.given;
    }

pub cancelled_keeps : (l : PLive) (ticket : ℕ) (ms bs : List Mark) → ms ≡ without ticket l.marks.meta → bs ≡ without ticket l.marks.block → KeepsMarks l (record l { marks = record { meta = ms; block = bs; given = l.marks.given } })
cancelled_keeps l ticket ms bs e f = record {
  meta = keeps_here meta_means l.indexes.meta.tree l.marks.meta ms l.marks.given l.marks.given (λ P h. subst (λ (z : List Mark). Each P z) (sym e) (each_without P ticket l.marks.meta h));
  block = keeps_here block_means l.indexes.block.tree l.marks.block bs l.marks.given l.marks.given (λ P h. subst (λ (z : List Mark). Each P z) (sym f) (each_without P ticket l.marks.block h));
  given = omega arith;
}

-- ---- appending

-- indexes that received messages, or did not, with lists that are preserved if there are marks
pub record AppendsKept {T X : Type 0} (r : Result T X) (msgs : Messages) (l : PLive) (new : Indexes) : Type 0 where
  pub taken : OnOk r (HaveTaken msgs l.indexes new)
  pub meta : OnOk r (KeepsLists (kept_in l.marks.meta l.indexes.meta.tree.root) msgs.meta l.indexes.meta.tree.root new.meta.tree.root)
  pub block : OnOk r (KeepsLists (kept_in l.marks.block l.indexes.block.tree.root) msgs.block l.indexes.block.tree.root new.block.tree.root)
  pub err : OnErr r (new ≡ l.indexes)

-- indexes of these trees
abbrev pub indexes_of : PTree MetaUpdate MetaValue → PTree BlockUpdate (List ℕ) → Indexes
indexes_of a b = record { meta = record { tree = a }; block = record { tree = b } }

-- so they are if each tree received its half, or neither did
pub appends_kept : {T X : Type 0} (r : Result T X) (msgs : Messages) (l : PLive) (a : PTree MetaUpdate MetaValue) (b : PTree BlockUpdate (List ℕ)) → OnOk r (Appended meta_means msgs.meta l.indexes.meta.tree a) → OnOk r (Appended block_means msgs.block l.indexes.block.tree b) → OnOk r (KeepsLists (kept_in l.marks.meta l.indexes.meta.tree.root) msgs.meta l.indexes.meta.tree.root a.root) → OnOk r (KeepsLists (kept_in l.marks.block l.indexes.block.tree.root) msgs.block l.indexes.block.tree.root b.root) → OnErr r (a ≡ l.indexes.meta.tree) → OnErr r (b ≡ l.indexes.block.tree) → AppendsKept r msgs l (record { meta = record { tree = a }; block = record { tree = b } })
appends_kept (Ok x) msgs l a b ta tb ka kb ea eb = record { taken = record { meta = ta; block = tb }; meta = ka; block = kb; err = tt }
appends_kept (Err x) msgs l a b ta tb ka kb ea eb = record { taken = tt; meta = tt; block = tt; err = ap (λ t. indexes_of t b) ea ∙ ap (λ t. indexes_of l.indexes.meta.tree t) eb }

meta_all : {T X : Type 0} (r : Result T X) (msgs : Messages) (l : PLive) (new : Indexes) → AreMarked l → AppendsKept r msgs l new → AllKept meta_means l.indexes.meta.tree new.meta.tree l.marks.meta l.marks.given
meta_all r msgs l new is h =
    kept_append meta_means r msgs.meta l.indexes.meta.tree new.meta.tree l.marks.meta l.marks.given (kept_in l.marks.meta l.indexes.meta.tree.root) is.meta refl
    (on_ok_weaker r (λ (q : HaveTaken msgs l.indexes new). q.meta) h.taken) h.meta (on_err_weaker r (λ (e : new ≡ l.indexes). ap (λ (x : Indexes). x.meta.tree) e) h.err)

block_all : {T X : Type 0} (r : Result T X) (msgs : Messages) (l : PLive) (new : Indexes) → AreMarked l → AppendsKept r msgs l new → AllKept block_means l.indexes.block.tree new.block.tree l.marks.block l.marks.given
block_all r msgs l new is h =
    kept_append block_means r msgs.block l.indexes.block.tree new.block.tree l.marks.block l.marks.given (kept_in l.marks.block l.indexes.block.tree.root) is.block refl
    (on_ok_weaker r (λ (q : HaveTaken msgs l.indexes new). q.block) h.taken) h.block (on_err_weaker r (λ (e : new ≡ l.indexes). ap (λ (x : Indexes). x.block.tree) e) h.err)

pub appended_lasts : {T X : Type 0} (r : Result T X) (msgs : Messages) (l : PLive) (new : Indexes) → AreMarked l → AppendsKept r msgs l new → AreMarked (record l { indexes = new })
appended_lasts r msgs l new is h = record { meta = (meta_all r msgs l new is h).0; block = (block_all r msgs l new is h).0; few = is.few; given = is.given }

pub appended_keeps : {T X : Type 0} (r : Result T X) (msgs : Messages) (l : PLive) (new : Indexes) → AreMarked l → AppendsKept r msgs l new → KeepsMarks l (record l { indexes = new })
appended_keeps r msgs l new is h = record {
  meta = keeps_some meta_means l.indexes.meta.tree new.meta.tree l.marks.meta l.marks.meta l.marks.given l.marks.given (λ P q. q) (meta_all r msgs l new is h).1;
  block = keeps_some block_means l.indexes.block.tree new.block.tree l.marks.block l.marks.block l.marks.given l.marks.given (λ P q. q) (block_all r msgs l new is h).1;
  given = omega arith;
}

-- lists of marked slots keep their messages at the front if an append succeeds
pub lists_kept : {T X : Type 0} (r : Result T X) (msgs : Messages) (l : PLive) (new : Indexes) → AppendsKept r msgs l new → OnOk r (KeepMarkedLists msgs l (record l { indexes = new }))
lists_kept (Ok x) msgs l new h = record { meta = h.meta; block = h.block }
lists_kept (Err x) msgs l new h = tt

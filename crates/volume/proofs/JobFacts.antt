-- From the replies of one tree's marks to those of the live indexes of a volume.
use Rattle.std.proofs.Common.{◌≡◌, ℕ, ◌+◌, ◌≤◌, List, [], ◌∷◌, ◌++◌, length, refl, ap, sym, ◌∙◌, subst, arith, Option, None, false, ◌↔◌}
use Rattle.std.proofs.lemmas.List.{length_push}
use Rattle.block_index.specs.Updates.{means as block_means}
use Rattle.block_index.specs.declared.update.BlockUpdate.{BlockUpdate}
use Rattle.jobs.specs.Content.{job_content}
use Rattle.jobs.specs.Job.{PJob, PDone, IsJob}
use Rattle.jobs.specs.Marks.{Each, position, without}
use Rattle.jobs.specs.Replies.{Fits, IsJobOf, IsPlaced, mark_of, IfInstalled as IfPlaced, UnlessInstalled as UnlessPlaced, IfGivenBack as IfBack}
use Rattle.jobs.specs.declared.mark.Mark.{Mark}
use Rattle.jobs.specs.declared.outcome.InstallOutcome.{InstallOutcome as Placing}
use Rattle.jobs.specs.declared.outcome.InstallOutcome.TheVariants.{Installed as Placed, Stale as Gone, NoMemory as Lacking}
use Rattle.jobs.proofs.Installing.{fewer_installed, each_installed}
use Rattle.meta_index.specs.Updates.{means as meta_means}
use Rattle.meta_index.specs.declared.update.MetaUpdate.{MetaUpdate}
use Rattle.node.specs.Meaning.{value}
use Rattle.node.specs.Pure.{PTree}
use Rattle.reference.specs.declared.reply.Meta.{Meta as MetaValue}
use Rattle.volume.specs.Jobs.{AnswersTaking, AnswersInstalling, LacksRoomFor, can_take}
use Rattle.volume.specs.Marked.{PLive, AreMarked}
use Rattle.volume.specs.declared.event.Index.{Index}
use Rattle.volume.specs.declared.event.Index.TheVariants.{Meta, Block}
use Rattle.volume.specs.declared.job.Job.TheVariants.{Meta as MetaJob, Block as BlockJob}
use Rattle.volume.specs.declared.job.Done.{Done}
use Rattle.volume.specs.declared.job.Done.TheVariants.{Meta as MetaDone, Block as BlockDone}
use Rattle.volume.specs.declared.job.TakeReply.{TakeReply}
use Rattle.volume.specs.declared.job.TakeReply.TheVariants.{Taken, NotThere, NoRoom, NoMemory}
use Rattle.volume.specs.declared.job.InstallReply.{InstallReply}
use Rattle.volume.specs.declared.job.InstallReply.TheVariants.{Installed, Stale, NoMemory as NoMemoryFor}
use Rattle.volume.proofs.Leading.{kept_all}
use Rattle.volume.proofs.Marking.{KeptBy, with_meta, with_block, meta_lasts, block_lasts, meta_keeps, block_keeps, keeps_more, keeps_some}

-- ---- taking

-- every reply but `Taken`
abbrev pub NotTaken : TakeReply → Type 0
NotTaken (Taken job) = ⊥
NotTaken NotThere = Unit {0}
NotTaken NoRoom = Unit {0}
NotTaken NoMemory = Unit {0}

-- a failure leaves everything unchanged
pub not_taken : (index : Index) (i : ℕ) (r : TakeReply) (l new : PLive) → NotTaken r → new ≡ l → (r ≡ NotThere) ↔ (can_take index i l ≡ false) → (r ≡ NoRoom → LacksRoomFor index i l) → AnswersTaking index i r l new
not_taken index i (Taken job) l new refusal e n m = absurd refusal
not_taken index i NotThere l new refusal e n m = subst (λ (x : PLive). AnswersTaking index i NotThere l x) (sym e) (record { taken = tt; lawful = tt; fits = tt; not_there = n; no_room = m; unchanged = refl; kept = kept_all l })
not_taken index i NoRoom l new refusal e n m = subst (λ (x : PLive). AnswersTaking index i NoRoom l x) (sym e) (record { taken = tt; lawful = tt; fits = tt; not_there = n; no_room = m; unchanged = refl; kept = kept_all l })
not_taken index i NoMemory l new refusal e n m = subst (λ (x : PLive). AnswersTaking index i NoMemory l x) (sym e) (record { taken = tt; lawful = tt; fits = tt; not_there = n; no_room = m; unchanged = refl; kept = kept_all l })

pub meta_taken : (l : PLive) (i : ℕ) (job : PJob MetaUpdate MetaValue) (new : List Mark) → IsJobOf i l.marks.given l.indexes.meta.tree job → new ≡ l.marks.meta ++ mark_of job ∷ [] → IsJob job.shape job.range job.msgs job.child
    → Fits meta_means job.ticket (job_content meta_means job) l.indexes.meta.tree new → (can_take Meta i l ≡ false → ⊥) → AnswersTaking Meta i (Taken (MetaJob job)) l (with_meta l l.indexes.meta.tree new (l.marks.given + 1))
meta_taken l i job new of e lawful fits free = record {
  taken = (record { tree = refl; marks = e; ticket = of.ticket; given = refl; shape = of.shape; slot = of.slot }, refl, refl);
  lawful = lawful;
  fits = fits;
  not_there = ((λ q. (cc)), (λ q. absurd (free q)));
  no_room = λ q. (cc);
  unchanged = tt;
  kept = meta_keeps l l.indexes.meta.tree new (l.marks.given + 1) (omega arith) (keeps_more meta_means l.indexes.meta.tree l.marks.meta new l.marks.given (l.marks.given + 1) (mark_of job) e of.ticket);
}

pub block_taken : (l : PLive) (i : ℕ) (job : PJob BlockUpdate (List ℕ)) (new : List Mark) → IsJobOf i l.marks.given l.indexes.block.tree job → new ≡ l.marks.block ++ mark_of job ∷ [] → IsJob job.shape job.range job.msgs job.child
    → Fits block_means job.ticket (job_content block_means job) l.indexes.block.tree new → (can_take Block i l ≡ false → ⊥) → AnswersTaking Block i (Taken (BlockJob job)) l (with_block l l.indexes.block.tree new (l.marks.given + 1))
block_taken l i job new of e lawful fits free = record {
  taken = (record { tree = refl; marks = e; ticket = of.ticket; given = refl; shape = of.shape; slot = of.slot }, refl, refl);
  lawful = lawful;
  fits = fits;
  not_there = ((λ q. (cc)), (λ q. absurd (free q)));
  no_room = λ q. (cc);
  unchanged = tt;
  kept = block_keeps l l.indexes.block.tree new (l.marks.given + 1) (omega arith) (keeps_more block_means l.indexes.block.tree l.marks.block new l.marks.given (l.marks.given + 1) (mark_of job) e of.ticket);
}

-- one more mark
pub one_more_mark : (ms new : List Mark) (m : Mark) → new ≡ ms ++ m ∷ [] → length new ≡ length ms + 1
one_more_mark ms new m e = ap length e ∙ length_push ms m

-- ---- installing

-- the reply of one tree's marks to an install
pub record Answered {U V : Type 0} (means : U → Option V → Option V) (d : PDone U V) (r : Placing U V) (a : PTree U V) (ms : List Mark) (b : PTree U V) (new : List Mark) : Type 0 where
  pub installed : IfPlaced r ((new ≡ without d.ticket ms) × IsPlaced means d a b)
  pub stale : (r ≡ Gone) ↔ (position d.ticket ms ≡ None)
  pub back : IfBack r (λ x. x ≡ d)
  pub unchanged : UnlessPlaced r ((new ≡ ms) × (b ≡ a))
  pub value : (k : List ℕ) → value means b.root k ≡ value means a.root k
  pub kept : KeptBy means a ms b new

-- the same reply of a volume
abbrev pub meta_reply : Placing MetaUpdate MetaValue → InstallReply
meta_reply Placed = Installed
meta_reply Gone = Stale
meta_reply (Lacking d) = NoMemoryFor (MetaDone d)

abbrev pub block_reply : Placing BlockUpdate (List ℕ) → InstallReply
block_reply Placed = Installed
block_reply Gone = Stale
block_reply (Lacking d) = NoMemoryFor (BlockDone d)

module _ {U V : Type 0} (means : U → Option V → Option V) (d : PDone U V) (r : Placing U V) (a : PTree U V) (ms : List Mark) (b : PTree U V) (new : List Mark) (h : Answered means d r a ms b new) where
  fewer : length new ≤ length ms
  fewer = fewer_installed d.ticket ms new (IsPlaced means d a b) (b ≡ a) r h.installed h.unchanged

  some : (P : Mark → Type 0) → Each P ms → Each P new
  some P q = each_installed d.ticket ms new (IsPlaced means d a b) (b ≡ a) P r h.installed h.unchanged q

pub meta_install_lasts : (l : PLive) (d : PDone MetaUpdate MetaValue) (r : Placing MetaUpdate MetaValue) (t : PTree MetaUpdate MetaValue) (new : List Mark) → AreMarked l → Answered meta_means d r l.indexes.meta.tree l.marks.meta t new → AreMarked (with_meta l t new l.marks.given)
meta_install_lasts l d r t new is h =
    let few = fewer meta_means d r l.indexes.meta.tree l.marks.meta t new h in
    meta_lasts l t new l.marks.given is (h.kept l.marks.given is.meta).0 (omega arith) is.given (omega (arith, few, is.few))

pub block_install_lasts : (l : PLive) (d : PDone BlockUpdate (List ℕ)) (r : Placing BlockUpdate (List ℕ)) (t : PTree BlockUpdate (List ℕ)) (new : List Mark) → AreMarked l → Answered block_means d r l.indexes.block.tree l.marks.block t new → AreMarked (with_block l t new l.marks.given)
block_install_lasts l d r t new is h =
    let few = fewer block_means d r l.indexes.block.tree l.marks.block t new h in
    block_lasts l t new l.marks.given is (h.kept l.marks.given is.block).0 (omega arith) is.given (omega (arith, few, is.few))

pub meta_installing : (l : PLive) (x : Done) (d : PDone MetaUpdate MetaValue) (r : Placing MetaUpdate MetaValue) (t : PTree MetaUpdate MetaValue) (new : List Mark) → x ≡ MetaDone d → AreMarked l → Answered meta_means d r l.indexes.meta.tree l.marks.meta t new
    → AnswersInstalling x (meta_reply r) l (with_meta l t new l.marks.given)
meta_installing l x d r t new e is h = subst (λ (y : Done). AnswersInstalling y (meta_reply r) l (with_meta l t new l.marks.given)) (sym e) (of r h)
  where
    of : (r : Placing MetaUpdate MetaValue) → Answered meta_means d r l.indexes.meta.tree l.marks.meta t new → AnswersInstalling (MetaDone d) (meta_reply r) l (with_meta l t new l.marks.given)
    of Placed h = record {
      installed = (record { marks = h.installed.0; given = refl; placed = h.installed.1 }, refl, refl);
      stale = ((λ q. (cc)), (λ q. clash (h.stale.1 q)));
      back = tt;
      unchanged = tt;
      values = record { meta = h.value; block = λ k. refl };
      kept = meta_keeps l t new l.marks.given (omega arith) (keeps_some meta_means l.indexes.meta.tree t l.marks.meta new l.marks.given l.marks.given (some meta_means d Placed l.indexes.meta.tree l.marks.meta t new h) (h.kept l.marks.given is.meta).1);
    }
      where
        clash : {A : Type 0} → ◌≡◌ {A = Placing MetaUpdate MetaValue} Placed Gone → A
        clash q = (cc)
    of Gone h = record {
      installed = tt;
      stale = ((λ q. h.stale.0 refl), (λ q. refl));
      back = tt;
      unchanged = λ i. with_meta l (h.unchanged.1 i) (h.unchanged.0 i) l.marks.given;
      values = record { meta = h.value; block = λ k. refl };
      kept = meta_keeps l t new l.marks.given (omega arith) (keeps_some meta_means l.indexes.meta.tree t l.marks.meta new l.marks.given l.marks.given (some meta_means d Gone l.indexes.meta.tree l.marks.meta t new h) (h.kept l.marks.given is.meta).1);
    }
    of (Lacking x) h = record {
      installed = tt;
      stale = ((λ q. (cc)), (λ q. clash (h.stale.1 q)));
      back = ap {B = Done} (λ (y : PDone MetaUpdate MetaValue). MetaDone y) h.back;
      unchanged = λ i. with_meta l (h.unchanged.1 i) (h.unchanged.0 i) l.marks.given;
      values = record { meta = h.value; block = λ k. refl };
      kept = meta_keeps l t new l.marks.given (omega arith) (keeps_some meta_means l.indexes.meta.tree t l.marks.meta new l.marks.given l.marks.given (some meta_means d (Lacking x) l.indexes.meta.tree l.marks.meta t new h) (h.kept l.marks.given is.meta).1);
    }
      where
        clash : {A : Type 0} → ◌≡◌ {A = Placing MetaUpdate MetaValue} (Lacking x) Gone → A
        clash q = (cc)

pub block_installing : (l : PLive) (x : Done) (d : PDone BlockUpdate (List ℕ)) (r : Placing BlockUpdate (List ℕ)) (t : PTree BlockUpdate (List ℕ)) (new : List Mark) → x ≡ BlockDone d → AreMarked l → Answered block_means d r l.indexes.block.tree l.marks.block t new
    → AnswersInstalling x (block_reply r) l (with_block l t new l.marks.given)
block_installing l x d r t new e is h = subst (λ (y : Done). AnswersInstalling y (block_reply r) l (with_block l t new l.marks.given)) (sym e) (of r h)
  where
    of : (r : Placing BlockUpdate (List ℕ)) → Answered block_means d r l.indexes.block.tree l.marks.block t new → AnswersInstalling (BlockDone d) (block_reply r) l (with_block l t new l.marks.given)
    of Placed h = record {
      installed = (record { marks = h.installed.0; given = refl; placed = h.installed.1 }, refl, refl);
      stale = ((λ q. (cc)), (λ q. clash (h.stale.1 q)));
      back = tt;
      unchanged = tt;
      values = record { meta = λ k. refl; block = h.value };
      kept = block_keeps l t new l.marks.given (omega arith) (keeps_some block_means l.indexes.block.tree t l.marks.block new l.marks.given l.marks.given (some block_means d Placed l.indexes.block.tree l.marks.block t new h) (h.kept l.marks.given is.block).1);
    }
      where
        clash : {A : Type 0} → ◌≡◌ {A = Placing BlockUpdate (List ℕ)} Placed Gone → A
        clash q = (cc)
    of Gone h = record {
      installed = tt;
      stale = ((λ q. h.stale.0 refl), (λ q. refl));
      back = tt;
      unchanged = λ i. with_block l (h.unchanged.1 i) (h.unchanged.0 i) l.marks.given;
      values = record { meta = λ k. refl; block = h.value };
      kept = block_keeps l t new l.marks.given (omega arith) (keeps_some block_means l.indexes.block.tree t l.marks.block new l.marks.given l.marks.given (some block_means d Gone l.indexes.block.tree l.marks.block t new h) (h.kept l.marks.given is.block).1);
    }
    of (Lacking x) h = record {
      installed = tt;
      stale = ((λ q. (cc)), (λ q. clash (h.stale.1 q)));
      back = ap {B = Done} (λ (y : PDone BlockUpdate (List ℕ)). BlockDone y) h.back;
      unchanged = λ i. with_block l (h.unchanged.1 i) (h.unchanged.0 i) l.marks.given;
      values = record { meta = λ k. refl; block = h.value };
      kept = block_keeps l t new l.marks.given (omega arith) (keeps_some block_means l.indexes.block.tree t l.marks.block new l.marks.given l.marks.given (some block_means d (Lacking x) l.indexes.block.tree l.marks.block t new h) (h.kept l.marks.given is.block).1);
    }
      where
        clash : {A : Type 0} → ◌≡◌ {A = Placing BlockUpdate (List ℕ)} (Lacking x) Gone → A
        clash q = (cc)

-- Jobs of a volume: which they are, what is built of them, and what taking and installing make of the live indexes.
use Rattle.std.specs.Prelude.{◌≡◌, ◌↔◌, ℕ, ◌+◌, Bool, false, List, Option, None, MatchOption, length, ⊤}
use Rattle.block_index.specs.Updates.{means as block_means}
use Rattle.call_compiler.specs.declared.indexes.Indexes.{Indexes}
use Rattle.jobs.specs.Content.{job_content}
use Rattle.jobs.specs.Heaviest.{IsHeaviest, MovesNone}
use Rattle.jobs.specs.Job.{IsJob}
use Rattle.jobs.specs.Marks.{position}
use Rattle.jobs.specs.Replies.{IsBuilt, IsTaken, IsInstalled, Fits, FitsMark, can_take_at, LacksRoom}
use Rattle.jobs.specs.declared.mark.Mark.{Mark}
use Rattle.jobs.specs.declared.marks.backlog.Backlog.{Backlog}
use Rattle.meta_index.specs.Updates.{means as meta_means}
use Rattle.volume.specs.declared.event.Index.{Index}
use Rattle.volume.specs.declared.event.Index.TheVariants.{Meta, Block}
use Rattle.volume.specs.declared.job.Job.{Job}
use Rattle.volume.specs.declared.job.Job.TheVariants.{Meta as MetaJob, Block as BlockJob}
use Rattle.volume.specs.declared.job.Done.{Done}
use Rattle.volume.specs.declared.job.Done.TheVariants.{Meta as MetaDone, Block as BlockDone}
use Rattle.volume.specs.declared.job.Subtree.{Subtree}
use Rattle.volume.specs.declared.job.Subtree.TheVariants.{Meta as MetaSubtree, Block as BlockSubtree}
use Rattle.volume.specs.declared.job.TakeReply.{TakeReply}
use Rattle.volume.specs.declared.job.TakeReply.TheVariants.{Taken, NotThere, NoRoom, NoMemory}
use Rattle.volume.specs.declared.job.InstallReply.{InstallReply}
use Rattle.volume.specs.declared.job.InstallReply.TheVariants.{Installed, Stale, NoMemory as NoMemoryFor}
use Rattle.node.specs.Meaning.{value}
use Rattle.volume.specs.Marked.{PLive, PMarks, KeepsMarks, meta_marked, block_marked}

-- ---- which they are

abbrev pub ticket_of : Job → ℕ
ticket_of (MetaJob j) = j.ticket
ticket_of (BlockJob j) = j.ticket

abbrev pub done_ticket : Done → ℕ
done_ticket (MetaDone d) = d.ticket
done_ticket (BlockDone d) = d.ticket

-- the child of the job
abbrev pub IsChildOf : Job → Subtree → Type 0
IsChildOf (MetaJob j) (MetaSubtree n) = n.value ≡ j.child
IsChildOf (MetaJob j) (BlockSubtree n) = ⊥
IsChildOf (BlockJob j) (MetaSubtree n) = ⊥
IsChildOf (BlockJob j) (BlockSubtree n) = n.value ≡ j.child

-- what was built of the job
abbrev pub Builds : Job → Done → Type 0
Builds (MetaJob j) (MetaDone d) = IsBuilt meta_means j d
Builds (MetaJob j) (BlockDone d) = ⊥
Builds (BlockJob j) (MetaDone d) = ⊥
Builds (BlockJob j) (BlockDone d) = IsBuilt block_means j d

-- if the mark of the job's ticket exists, the marked slot has the job's content
abbrev pub JobFits : Job → PLive → Type 0
JobFits (MetaJob j) l = Fits meta_means j.ticket (job_content meta_means j) l.indexes.meta.tree l.marks.meta
JobFits (BlockJob j) l = Fits block_means j.ticket (job_content block_means j) l.indexes.block.tree l.marks.block

-- the same of what was built
abbrev pub DoneFits : Done → PLive → Type 0
DoneFits (MetaDone d) l = FitsMark meta_means d l.indexes.meta.tree l.marks.meta
DoneFits (BlockDone d) l = FitsMark block_means d l.indexes.block.tree l.marks.block

-- ---- taking

abbrev pub IfTaken : TakeReply → (Job → Type 0) → Type 0
IfTaken (Taken job) P = P job
IfTaken NotThere P = ⊤
IfTaken NoRoom P = ⊤
IfTaken NoMemory P = ⊤

abbrev pub UnlessTaken : TakeReply → Type 0 → Type 0
UnlessTaken (Taken job) P = ⊤
UnlessTaken NotThere P = P
UnlessTaken NoRoom P = P
UnlessTaken NoMemory P = P

-- the root's slot with this number has a message and an inner node below it, and no mark
abbrev pub can_take : Index → ℕ → PLive → Bool
can_take Meta i l = can_take_at i l.marks.meta l.indexes.meta.tree.root
can_take Block i l = can_take_at i l.marks.block l.indexes.block.tree.root

-- the root's slot whose job would move the most messages, how many, and the capacity of a node; none only if no job would
-- move any
abbrev pub BacklogIn : Index → Option Backlog → PLive → Type 0
BacklogIn Meta o l = MatchOption o (MovesNone l.marks.meta l.indexes.meta.tree) (λ b. IsHeaviest b.slot b.messages b.room l.marks.meta l.indexes.meta.tree)
BacklogIn Block o l = MatchOption o (MovesNone l.marks.block l.indexes.block.tree) (λ b. IsHeaviest b.slot b.messages b.room l.marks.block l.indexes.block.tree)

-- the number of marks
abbrev pub mark_count : PMarks → ℕ
mark_count m = length m.meta + length m.block

-- why no job can be taken of the slot: its first message does not fit below it, there are 64 marks, or no ticket is
-- left
abbrev pub LacksRoomFor : Index → ℕ → PLive → Type 0
LacksRoomFor Meta i l = LacksRoom i l.marks.given (mark_count l.marks) l.indexes.meta.tree
LacksRoomFor Block i l = LacksRoom i l.marks.given (mark_count l.marks) l.indexes.block.tree

-- a job of the index was taken of the root's slot with this number: its mark was added, and nothing else changed
abbrev pub Takes : Index → ℕ → Job → PLive → PLive → Type 0
Takes Meta i (MetaJob j) old new = IsTaken i j (meta_marked old) (meta_marked new) × (new.indexes ≡ old.indexes) × (new.marks.block ≡ old.marks.block)
Takes Meta i (BlockJob j) old new = ⊥
Takes Block i (MetaJob j) old new = ⊥
Takes Block i (BlockJob j) old new = IsTaken i j (block_marked old) (block_marked new) × (new.indexes ≡ old.indexes) × (new.marks.meta ≡ old.marks.meta)

-- what the job keeps
abbrev pub IsLawful : Job → Type 0
IsLawful (MetaJob j) = IsJob j.shape j.range j.msgs j.child
IsLawful (BlockJob j) = IsJob j.shape j.range j.msgs j.child

-- how a taking is answered, and what it makes of the live indexes and their marks
pub record AnswersTaking (index : Index) (i : ℕ) (r : TakeReply) (old new : PLive) : Type 0 where
  pub taken : IfTaken r (λ job. Takes index i job old new)
  pub lawful : IfTaken r IsLawful
  pub fits : IfTaken r (λ job. JobFits job new)
  pub not_there : (r ≡ NotThere) ↔ (can_take index i old ≡ false)
  pub no_room : r ≡ NoRoom → LacksRoomFor index i old
  pub unchanged : UnlessTaken r (new ≡ old)
  pub kept : KeepsMarks old new

-- ---- installing

abbrev pub IfInstalled : InstallReply → Type 0 → Type 0
IfInstalled Installed P = P
IfInstalled Stale P = ⊤
IfInstalled (NoMemoryFor done) P = ⊤

abbrev pub UnlessInstalled : InstallReply → Type 0 → Type 0
UnlessInstalled Installed P = ⊤
UnlessInstalled Stale P = P
UnlessInstalled (NoMemoryFor done) P = P

abbrev pub IfGivenBack : InstallReply → (Done → Type 0) → Type 0
IfGivenBack Installed P = ⊤
IfGivenBack Stale P = ⊤
IfGivenBack (NoMemoryFor done) P = P done

-- the marks of the value's index
abbrev pub marks_for : Done → PMarks → List Mark
marks_for (MetaDone d) m = m.meta
marks_for (BlockDone d) m = m.block

-- the mark of the value's ticket, if it exists
abbrev pub mark_for : Done → PMarks → Option ℕ
mark_for done m = position (done_ticket done) (marks_for done m)

-- the built subtree replaced the child, its mark was removed, and the other index is unchanged, with its marks
abbrev pub Installs : Done → PLive → PLive → Type 0
Installs (MetaDone d) old new = IsInstalled meta_means d (meta_marked old) (meta_marked new) × (new.indexes.block ≡ old.indexes.block) × (new.marks.block ≡ old.marks.block)
Installs (BlockDone d) old new = IsInstalled block_means d (block_marked old) (block_marked new) × (new.indexes.meta ≡ old.indexes.meta) × (new.marks.meta ≡ old.marks.meta)

-- each key has in both indexes the value that it had
pub record SameValues (i j : Indexes) : Type 0 where
  pub meta : (k : List ℕ) → value meta_means j.meta.tree.root k ≡ value meta_means i.meta.tree.root k
  pub block : (k : List ℕ) → value block_means j.block.tree.root k ≡ value block_means i.block.tree.root k

-- how an installing is answered, and what it makes of the live indexes and their marks
pub record AnswersInstalling (done : Done) (r : InstallReply) (old new : PLive) : Type 0 where
  pub installed : IfInstalled r (Installs done old new)
  pub stale : (r ≡ Stale) ↔ (mark_for done old.marks ≡ None)
  pub back : IfGivenBack r (λ d. d ≡ done)
  pub unchanged : UnlessInstalled r (new ≡ old)
  pub values : SameValues old.indexes new.indexes
  pub kept : KeepsMarks old new

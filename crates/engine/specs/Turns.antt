-- What a turn of a flusher did, by its answer: the volume that it found in each of its two holds of the lock, and the one that
-- it left there.
use Rattle.std.specs.Prelude.{◌≡◌, ◌≢◌, ◌⊎◌, ℕ, None}
use Rattle.volume.specs.Changes.{Stepped as IsStepped}
use Rattle.volume.specs.Jobs.{AnswersTaking, Builds, Installs, SameValues, done_ticket, mark_for, ticket_of}
use Rattle.volume.specs.Marked.{without_mark}
use Rattle.volume.specs.HistoryOf.{busier, pending_in}
use Rattle.volume.specs.Volumes.{IsVolume, PVolume, live_of}
use Rattle.volume.specs.declared.event.Index.{Index}
use Rattle.volume.specs.declared.event.Index.TheVariants.{Meta, Block}
use Rattle.volume.specs.declared.event.Step.{Step}
use Rattle.volume.specs.declared.job.Done.{Done}
use Rattle.volume.specs.declared.job.Job.{Job}
use Rattle.volume.specs.declared.job.TakeReply.{TakeReply}
use Rattle.volume.specs.declared.job.TakeReply.TheVariants.{Taken, NotThere, NoRoom, NoMemory as NoMemoryToTake}
use Rattle.engine.specs.Histories.{Stands}
use Rattle.engine.specs.Clients.{Watched, Watches}
use Rattle.engine.specs.Takings.{IsTaken, KnowsMarks}
use Rattle.engine.specs.declared.flusher.TurnReply.{TurnReply}
use Rattle.engine.specs.declared.flusher.TurnReply.TheVariants.{Idle, Stepped, Installed, Stale, NoMemory}

-- ---- what is done to a volume

abbrev pub Untouched : PVolume → PVolume → Type 0
Untouched old new = new ≡ old

-- the job was taken of some slot: its mark was added, and nothing else changed
pub record TakesJob (job : Job) (old new : PVolume) : Type 0 where
  pub index : Index
  pub slot : ℕ
  pub answers : AnswersTaking index slot (Taken job) (live_of old) (live_of new)
  pub root : new.live.modified ≡ old.live.modified
  pub snapshots : new.snapshots ≡ old.snapshots

-- a built job was installed: its mark existed and was removed, each key has the same value, and neither the other index nor a
-- snapshot changed
pub record PutIn (done : Done) (old new : PVolume) : Type 0 where
  pub stood : mark_for done old.marks ≢ None
  pub placed : Installs done (live_of old) (live_of new)
  pub values : SameValues old.live.indexes new.live.indexes
  pub root : new.live.modified ≡ old.live.modified
  pub snapshots : new.snapshots ≡ old.snapshots

-- the mark with the ticket was removed, and nothing else changed
abbrev pub Cancels : ℕ → PVolume → PVolume → Type 0
Cancels ticket old new = new ≡ record old { marks = without_mark ticket old.marks }

-- what is done with what was built, by the answer
abbrev pub Puts : Done → TurnReply → PVolume → PVolume → Type 0
Puts done Installed old new = PutIn done old new
Puts done Stale old new = (mark_for done old.marks ≡ None) × Untouched old new
Puts done NoMemory old new = Cancels (done_ticket done) old new
Puts done Idle old new = ⊥
Puts done (Stepped r) old new = ⊥

abbrev pub NothingWaits : PVolume → Type 0
NothingWaits v = (pending_in Meta v.live.indexes ≡ 0) × (pending_in Block v.live.indexes ≡ 0)

-- what is done if no job is taken: nothing if no message is pending, and otherwise one tree step, in the index with more pending
-- pieces
abbrev pub Relieves : TurnReply → PVolume → PVolume → Type 0
Relieves Idle old new = NothingWaits old × Untouched old new
Relieves (Stepped r) old new = (NothingWaits old → ⊥) × ((step : Step) × (step.index ≡ busier old.live.indexes) × IsStepped step r old new)
Relieves Installed old new = ⊥
Relieves Stale old new = ⊥
Relieves NoMemory old new = ⊥

-- ---- holds of the lock

-- a critical section in which a flusher that had seen v came to see w: it found one volume and left another, both abstract to the
-- world after the history that it has seen, and the marks that it left are of takings that it has seen
pub record Hold (o : PVolume) (v w : Watched) : Type 0 where
  pub found : PVolume
  pub left : PVolume
  pub is_found : IsVolume found
  pub is_left : IsVolume left
  pub watches : Watches o v w
  pub stood : Stands o w.seen found
  pub stands : Stands o w.seen left
  pub knows : KnowsMarks w.takings (live_of left)

-- a hold, of whose volumes P holds
abbrev pub Found : PVolume → Watched → Watched → (PVolume → PVolume → Type 0) → Type 0
Found o v w P = (h : Hold o v w) × P h.found h.left

-- the same or, if the engine has ended, no volume; then the flusher has seen nothing more
abbrev pub Held : PVolume → Watched → Watched → (PVolume → PVolume → Type 0) → Type 0
Held o v w P = (w ≡ v) ⊎ Found o v w P

-- ---- turns

-- the first hold: a job is taken, and the flusher sees it among the takings; or nothing is done
abbrev pub TakesIn : PVolume → TakeReply → Watched → Watched → Type 0
TakesIn o (Taken job) v w = Found o v w (TakesJob job) × IsTaken w.takings job
TakesIn o NotThere v w = Held o v w Untouched
TakesIn o NoRoom v w = Held o v w Untouched
TakesIn o NoMemoryToTake v w = Found o v w Untouched

-- the second hold, with what was built of a job
abbrev pub PutsIn : PVolume → Done → TurnReply → Watched → Watched → Type 0
PutsIn o done Installed v w = Found o v w (PutIn done)
PutsIn o done Stale v w = Held o v w (Puts done Stale)
PutsIn o done NoMemory v w = Found o v w (Cancels (done_ticket done))
PutsIn o done Idle v w = ⊥
PutsIn o done (Stepped r) v w = ⊥

-- the second critical section, if no job was taken
abbrev pub RelievesIn : PVolume → TurnReply → Watched → Watched → Type 0
RelievesIn o Idle v w = Held o v w (Relieves Idle)
RelievesIn o (Stepped r) v w = Found o v w (Relieves (Stepped r))
RelievesIn o Installed v w = ⊥
RelievesIn o Stale v w = ⊥
RelievesIn o NoMemory v w = ⊥

-- the rest of a turn that has taken the job: what was built of it is installed, or its mark had been removed; or an allocation
-- failed, and then the mark is removed
abbrev pub Finishes : PVolume → Job → TurnReply → Watched → Watched → Type 0
Finishes o job Installed v w = (done : Done) × Builds job done × Found o v w (PutIn done)
Finishes o job Stale v w = (done : Done) × Builds job done × Held o v w (Puts done Stale)
Finishes o job NoMemory v w = Held o v w (Cancels (ticket_of job))
Finishes o job Idle v w = ⊥
Finishes o job (Stepped r) v w = ⊥

-- a turn that takes a job in its first hold
abbrev pub WithJob : PVolume → TurnReply → Watched → Watched → Type 0
WithJob o r v w = (job : Job) × (between : Watched) × TakesIn o (Taken job) v between × Finishes o job r between w

-- a turn that takes none
abbrev pub WithoutJob : PVolume → TurnReply → Watched → Watched → Type 0
WithoutJob o r v w = (between : Watched) × Held o v between Untouched × RelievesIn o r between w

-- what a turn did, by its answer, of a flusher that had seen v before it and has seen w after it
abbrev pub Turns : PVolume → TurnReply → Watched → Watched → Type 0
Turns o Idle v w = WithoutJob o Idle v w
Turns o (Stepped r) v w = WithoutJob o (Stepped r) v w
Turns o Installed v w = WithJob o Installed v w
Turns o Stale v w = WithJob o Stale v w
Turns o NoMemory v w = Found o v w Untouched ⊎ WithJob o NoMemory v w

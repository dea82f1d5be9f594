-- What a list of events makes of a volume.
use Rattle.std.specs.Prelude.{◌≡◌, ◌⊎◌, ◌+◌, ℕ, List, [], ◌∷◌, ◌++◌, Some, None, Result, Ok, Err, ⊤}
use Rattle.reference.specs.Worlds.{World, Ask, TakeSnapshot, DropSnapshot as DropNamed, RestoreSnapshot, Replied, Settled, History, IsLegal, after}
use Rattle.volume.specs.declared.event.Event.{Event}
use Rattle.volume.specs.declared.event.Event.TheVariants.{Call as CallEvent, Snapshot, DropSnapshot, Restore, Step as StepEvent, Take, Finish}
use Rattle.volume.specs.declared.event.Answer.{Answer}
use Rattle.volume.specs.declared.event.Answer.TheVariants.{Call as CallAnswer, Snap, Step as StepAnswer, Take as TakeAnswered, Finish as FinishAnswered}
use Rattle.volume.specs.declared.event.Index.{Index}
use Rattle.volume.specs.declared.event.TakeAnswer.{TakeAnswer}
use Rattle.volume.specs.declared.event.TakeAnswer.TheVariants.{Taken as TakenAs, NotThere as TakeNotThere, NoRoom as TakeNoRoom, NoMemory as TakeNoMemory}
use Rattle.volume.specs.declared.event.FinishAnswer.{FinishAnswer}
use Rattle.volume.specs.declared.event.FinishAnswer.TheVariants.{Installed as FinishInstalled, Stale as FinishStale, NotThere as FinishNotThere, NoMemory as FinishNoMemory}
use Rattle.volume.specs.declared.job.Done.{Done}
use Rattle.volume.specs.declared.job.TakeReply.{TakeReply}
use Rattle.volume.specs.declared.job.TakeReply.TheVariants.{Taken, NotThere, NoRoom, NoMemory}
use Rattle.volume.specs.declared.job.InstallReply.{InstallReply}
use Rattle.volume.specs.declared.job.InstallReply.TheVariants.{Installed, Stale}
use Rattle.volume.specs.declared.run_job.RunJob.{RunJob}
use Rattle.volume.specs.declared.run_job.RunJob.TheVariants.{Taken as HeldJob, Built as HeldDone}
use Rattle.volume.specs.RunJob.{MayInstall, with_ticket, others, without_held}
use Rattle.volume.specs.Jobs.{AnswersTaking, AnswersInstalling, ticket_of, mark_for}
use Rattle.volume.specs.Marked.{PMarks}
use Rattle.volume.specs.Volumes.{PVolume, Means, IsVolume, live_of}
use Rattle.volume.specs.Changes.{Called, Settles, KeptAs, Dropped, Restored, Stepped}

-- what an event with its answer is in a history of calls: a step is not in it, nor a job
abbrev pub history_of : Event → Answer → History
history_of (CallEvent c at) (CallAnswer r) = (Ask c at, Replied r) ∷ []
history_of (Snapshot s) (Snap r) = (TakeSnapshot s, Settled r) ∷ []
history_of (DropSnapshot s) (Snap r) = (DropNamed s, Settled r) ∷ []
history_of (Restore s) (Snap r) = (RestoreSnapshot s, Settled r) ∷ []
history_of _ _ = []

-- the calls alone, in their order, with their answers
abbrev pub calls_alone : List Event → List Answer → History
calls_alone (e ∷ es) (a ∷ rs) = history_of e a ++ calls_alone es rs
calls_alone _ _ = []

-- how many of the events are takings
abbrev pub takings : List Event → ℕ
takings [] = 0
takings (Take index i ∷ es) = takings es + 1
takings (e ∷ es) = takings es

-- a volume in a run, and the jobs that the run holds
pub record PRun : Type 0 where
  pub volume : PVolume
  pub held : List RunJob

-- what the contract of a call says, which leaves the jobs that are held
abbrev pub Beside : (PVolume → PVolume → Type 0) → PRun → PRun → Type 0
Beside P old new = P old.volume new.volume × (new.held ≡ old.held)

-- ---- taking

-- the answer for a reply of `take_job`
abbrev pub take_answer : TakeReply → TakeAnswer
take_answer (Taken job) = TakenAs (record { number = ticket_of job })
take_answer NotThere = TakeNotThere
take_answer NoRoom = TakeNoRoom
take_answer NoMemory = TakeNoMemory

-- a job that was taken is held too
abbrev pub with_taken : List RunJob → TakeReply → List RunJob
with_taken hs (Taken job) = hs ++ HeldJob job ∷ []
with_taken hs NotThere = hs
with_taken hs NoRoom = hs
with_taken hs NoMemory = hs

-- taking a job: the answer is that of the reply of `take_job`, and a job that was taken is held
pub record Takes (index : Index) (i : ℕ) (a : TakeAnswer) (old new : PRun) : Type 0 where
  pub reply : TakeReply
  pub history_of : a ≡ take_answer reply
  pub answers : AnswersTaking index i reply (live_of old.volume) (live_of new.volume)
  pub root : new.volume.live.modified ≡ old.volume.live.modified
  pub snapshots : new.volume.snapshots ≡ old.volume.snapshots
  pub means : (w : World) → Means old.volume w → Means new.volume w
  pub held : new.held ≡ with_taken old.held reply

-- ---- finishing

-- what may be installed of the job was installed with this reply
pub record InstalledAs (job : RunJob) (r : InstallReply) (old new : PVolume) : Type 0 where
  pub done : Done
  pub built : MayInstall job done
  pub answers : AnswersInstalling done r (live_of old) (live_of new)
  pub root : new.live.modified ≡ old.live.modified
  pub snapshots : new.snapshots ≡ old.snapshots
  pub means : (w : World) → Means old w → Means new w

-- a job that is kept: as it was, or built
abbrev pub IsAgain : RunJob → RunJob → Type 0
IsAgain job again = (again ≡ job) ⊎ ((done : Done) × MayInstall job done × (again ≡ HeldDone done))

-- the mark of a built job exists
abbrev pub MarkStands : RunJob → PMarks → Type 0
MarkStands (HeldJob job) m = ⊤
MarkStands (HeldDone done) m = mark_for done m ≡ None → ⊥

-- the end of finishing a job: if an allocation failed, the job is kept, its mark exists if it was built, and nothing changed
abbrev pub Ends : RunJob → Result FinishAnswer RunJob → PVolume → PVolume → Type 0
Ends job (Ok FinishInstalled) old new = InstalledAs job Installed old new
Ends job (Ok FinishStale) old new = InstalledAs job Stale old new
Ends job (Ok FinishNotThere) old new = ⊥
Ends job (Ok FinishNoMemory) old new = ⊥
Ends job (Err again) old new = IsAgain job again × MarkStands again old.marks × (new ≡ old)

-- the held job with the ticket was installed with this reply, and is no longer held
pub record Installing (t : ℕ) (r : InstallReply) (old new : PRun) : Type 0 where
  pub job : RunJob
  pub has : with_ticket t old.held ≡ Some job
  pub installed : InstalledAs job r old.volume new.volume
  pub held : new.held ≡ others t old.held

-- an allocation for the held job with the ticket failed: nothing changed but that it is held last, either unchanged, or built and
-- with its mark
pub record Refused (t : ℕ) (old new : PRun) : Type 0 where
  pub job : RunJob
  pub has : with_ticket t old.held ≡ Some job
  pub again : RunJob
  pub same : IsAgain job again
  pub stands : MarkStands again old.volume.marks
  pub volume : new.volume ≡ old.volume
  pub held : new.held ≡ others t old.held ++ again ∷ []

abbrev pub Finishes : ℕ → FinishAnswer → PRun → PRun → Type 0
Finishes t FinishInstalled old new = Installing t Installed old new
Finishes t FinishStale old new = Installing t Stale old new
Finishes t FinishNotThere old new = (with_ticket t old.held ≡ None) × (new ≡ old)
Finishes t FinishNoMemory old new = Refused t old new

-- ---- runs

-- what the contract of the event's own call says of its answer, and of the volume and the jobs before and after
abbrev pub Link : Event → Answer → PRun → PRun → Type 0
Link (CallEvent c at) (CallAnswer r) old new = Beside (Called c at r) old new
Link (Snapshot s) (Snap r) old new = Beside (Settles (TakeSnapshot s) (KeptAs s) r) old new
Link (DropSnapshot s) (Snap r) old new = Beside (Settles (DropNamed s) (Dropped s) r) old new
Link (Restore s) (Snap r) old new = Beside (Settles (RestoreSnapshot s) (Restored s) r) old new
Link (StepEvent s) (StepAnswer r) old new = Beside (Stepped s r) old new
Link (Take index i) (TakeAnswered a) old new = Takes index i a old new
Link (Finish t) (FinishAnswered a) old new = Finishes t.number a old new
Link _ _ old new = ⊥

-- a volume with jobs after each event, as its type keeps it, to which the event leads with its answer from the one before
abbrev pub Chain : PRun → List Event → List Answer → PRun → Type 0
Chain first [] [] last = last ≡ first
Chain first (e ∷ es) (a ∷ rs) last = (second : PRun) × Link e a first second × IsVolume second.volume × Chain second es rs last
Chain first _ _ last = ⊥

-- no job is held when a run begins
abbrev pub begun : PVolume → PRun
begun v = record { volume = v; held = [] }

-- at its end those are cancelled that are left
abbrev pub ended : PRun → PVolume
ended r = record (r.volume) { marks = without_held r.held r.volume.marks }

-- a run of events with these answers: the volume abstracted to one world; from it the calls alone, in their order, are a
-- legal history, and the volume then abstracts to the world after them; each event was executed by its own call, one
-- after the other, and the jobs that were left were cancelled
pub record Ran (events : List Event) (answers : List Answer) (old new : PVolume) : Type 0 where
  pub world : World
  pub meant : Means old world
  pub only : (w : World) → Means old w → w ≡ world
  pub legal : IsLegal world (calls_alone events answers)
  pub means : Means new (after world (calls_alone events answers))
  pub last : PRun
  pub chain : Chain (begun old) events answers last
  pub end : new ≡ ended last

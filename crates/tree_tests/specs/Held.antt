-- Jobs that a test holds.
use Rattle.std.specs.Prelude.{◌<◌, List, [], ◌∷◌, Option, ⊤}
use Rattle.jobs.specs.Content.{job_content}
use Rattle.jobs.specs.Job.{PJob}
use Rattle.jobs.specs.Marks.{PMarked}
use Rattle.jobs.specs.Replies.{Fits}

module _ {U V : Type 0} (means : U → Option V → Option V) where
  -- the job was given a ticket, and if its mark exists the slot has the job's content
  abbrev pub IsHeld : PMarked U V → PJob U V → Type 0
  IsHeld m job = (job.ticket < m.given) × Fits means job.ticket (job_content means job) m.tree m.marks

  -- the same for each
  abbrev pub AreHeld : PMarked U V → List (PJob U V) → Type 0
  AreHeld m [] = ⊤
  AreHeld m (job ∷ jobs) = IsHeld m job × AreHeld m jobs

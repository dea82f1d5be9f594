-- Jobs that a run of events holds.
use Rattle.std.specs.Prelude.{◌≡◌, ◌<◌, ◌==◌, if◌then◌else◌, ℕ, List, [], ◌∷◌, Option, Some, None, ⊤}
use Rattle.jobs.specs.Marks.{one_more}
use Rattle.volume.specs.Jobs.{ticket_of, done_ticket, Builds, JobFits, DoneFits}
use Rattle.volume.specs.Marked.{PLive, PMarks, without_mark}
use Rattle.volume.specs.declared.run_job.RunJob.{RunJob}
use Rattle.volume.specs.declared.run_job.RunJob.TheVariants.{Taken, Built}
use Rattle.volume.specs.declared.job.Done.{Done}

abbrev pub held_ticket : RunJob → ℕ
held_ticket (Taken job) = ticket_of job
held_ticket (Built done) = done_ticket done

-- what may be installed of it
abbrev pub MayInstall : RunJob → Done → Type 0
MayInstall (Taken job) d = Builds job d
MayInstall (Built done) d = d ≡ done

-- it is as it was taken
abbrev pub IsUnbuilt : RunJob → Type 0
IsUnbuilt (Taken job) = ⊤
IsUnbuilt (Built done) = ⊥

-- the number of the first with the ticket
abbrev pub position : ℕ → List RunJob → Option ℕ
position t [] = None
position t (h ∷ hs) = if held_ticket h == t then Some 0 else one_more (position t hs)

-- the first with the ticket
abbrev pub with_ticket : ℕ → List RunJob → Option RunJob
with_ticket t [] = None
with_ticket t (h ∷ hs) = if held_ticket h == t then Some h else with_ticket t hs

-- all but the first with the ticket
abbrev pub others : ℕ → List RunJob → List RunJob
others t [] = []
others t (h ∷ hs) = if held_ticket h == t then hs else h ∷ others t hs

-- if its mark exists, the marked slot has its content
abbrev pub HeldFits : RunJob → PLive → Type 0
HeldFits (Taken job) l = JobFits job l
HeldFits (Built done) l = DoneFits done l

-- it was given a ticket, and fits
abbrev pub IsHeld : PLive → RunJob → Type 0
IsHeld l h = (held_ticket h < l.marks.given) × HeldFits h l

-- the same of each
abbrev pub AreHeld : PLive → List RunJob → Type 0
AreHeld l [] = ⊤
AreHeld l (h ∷ hs) = IsHeld l h × AreHeld l hs

-- the marks without those of the jobs
abbrev pub without_held : List RunJob → PMarks → PMarks
without_held [] m = m
without_held (h ∷ hs) m = without_held hs (without_mark (held_ticket h) m)

-- Jobs that stay held.
use Rattle.std.proofs.Common.{◌≤◌, Bool, true, false, List, [], ◌∷◌, ◌++◌, arith, Option}
use Rattle.std.specs.Prelude.{if◌then◌else◌}
use Rattle.jobs.specs.Content.{job_content}
use Rattle.jobs.specs.Job.{PJob}
use Rattle.jobs.specs.Marks.{PMarked}
use Rattle.jobs.specs.Replies.{KeepsFits}
use Rattle.tree_tests.specs.Held.{IsHeld, AreHeld}

module _ {U V : Type 0} (means : U → Option V → Option V) where
  -- after a call that preserves what fits
  pub still_held : (a b : PMarked U V) (jobs : List (PJob U V)) → KeepsFits means a b → a.given ≤ b.given → AreHeld means a jobs → AreHeld means b jobs
  still_held a b [] k g h = tt
  still_held a b (job ∷ jobs) k g h = ((omega (arith, g, h.0.0), k job.ticket (job_content means job) h.0.0 h.0.1), still_held a b jobs k g h.1)

  -- with one more
  held_more : (m : PMarked U V) (jobs : List (PJob U V)) (job : PJob U V) → AreHeld means m jobs → IsHeld means m job → AreHeld means m (jobs ++ job ∷ [])
  held_more m [] job h k = (k, tt)
  held_more m (j ∷ jobs) job h k = (h.0, held_more m jobs job h.1 k)

  -- with one more, if there was capacity for it
  pub held_pushed : (m : PMarked U V) (jobs : List (PJob U V)) (job : PJob U V) (pushed : Bool) → AreHeld means m jobs → IsHeld means m job → AreHeld means m (if pushed then jobs ++ job ∷ [] else jobs)
  held_pushed m jobs job true h k = held_more m jobs job h k
  held_pushed m jobs job false h k = h

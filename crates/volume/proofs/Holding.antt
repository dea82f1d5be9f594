-- The jobs that a run holds: their positions in its list, and that they stay held.
use Rattle.std.proofs.Common.{◌≡◌, ℕ, ◌+◌, ◌<◌, true, false, List, [], ◌∷◌, ◌++◌, length, get_or, refl, ap, sym, ◌∙◌, subst, arith, cond, Some, None, inl, inr, add-one}
use Rattle.std.specs.Prelude.{◌==◌}
use Rattle.std.specs.List.{remove}
use Rattle.std.proofs.lemmas.Bool.{cond_both}
use Rattle.std.proofs.lemmas.Bool.Decides.{nat_tests}
use Rattle.std.proofs.lemmas.Option.{same_Some}
use Rattle.block_index.specs.Updates.{means as block_means}
use Rattle.jobs.specs.Content.{job_content, done_content}
use Rattle.jobs.specs.Marks.{one_more}
use Rattle.jobs.proofs.Fitting.{built_fits}
use Rattle.jobs.proofs.MarkFacts.{none_later, place_later}
use Rattle.meta_index.specs.Updates.{means as meta_means}
use Rattle.volume.specs.RunJob.{held_ticket, MayInstall, position, with_ticket, others, without_held, IsHeld, AreHeld}
use Rattle.volume.specs.Jobs.{AnswersTaking}
use Rattle.volume.specs.Marked.{PLive, PMarks, KeepsMarks, without_mark}
use Rattle.volume.specs.Runs.{IsAgain}
use Rattle.volume.specs.declared.event.Index.{Index}
use Rattle.volume.specs.declared.event.Index.TheVariants.{Meta, Block}
use Rattle.volume.specs.declared.run_job.RunJob.{RunJob}
use Rattle.volume.specs.declared.run_job.RunJob.TheVariants.{Taken, Built}
use Rattle.volume.specs.declared.job.Done.{Done}
use Rattle.volume.specs.declared.job.Done.TheVariants.{Meta as MetaDone, Block as BlockDone}
use Rattle.volume.specs.declared.job.Job.{Job}
use Rattle.volume.specs.declared.job.Job.TheVariants.{Meta as MetaJob, Block as BlockJob}
use Rattle.volume.specs.declared.job.TakeReply.TheVariants.{Taken as TakenAs}

-- ---- what stays held

-- after a call that preserves what fits
pub still_held : (h : RunJob) (a b : PLive) → KeepsMarks a b → IsHeld a h → IsHeld b h
still_held (Taken (MetaJob j)) a b k h = (omega (arith, k.given, h.0), k.meta.fits j.ticket (job_content meta_means j) h.0 h.1)
still_held (Taken (BlockJob j)) a b k h = (omega (arith, k.given, h.0), k.block.fits j.ticket (job_content block_means j) h.0 h.1)
still_held (Built (MetaDone d)) a b k h = (omega (arith, k.given, h.0), k.meta.fits d.ticket (done_content meta_means d) h.0 h.1)
still_held (Built (BlockDone d)) a b k h = (omega (arith, k.given, h.0), k.block.fits d.ticket (done_content block_means d) h.0 h.1)

pub all_still_held : (hs : List RunJob) (a b : PLive) → KeepsMarks a b → AreHeld a hs → AreHeld b hs
all_still_held [] a b k h = tt
all_still_held (x ∷ xs) a b k h = (still_held x a b k h.0, all_still_held xs a b k h.1)

-- what may be installed of a held job is held in its place
pub built_held : (h : RunJob) (d : Done) (l : PLive) → MayInstall h d → IsHeld l h → IsHeld l (Built d)
built_held (Taken (MetaJob j)) (MetaDone d) l b h = (subst (λ n. n < l.marks.given) (sym b.ticket) h.0, built_fits meta_means j d l.indexes.meta.tree l.marks.meta b h.1)
built_held (Taken (MetaJob j)) (BlockDone d) l b h = absurd b
built_held (Taken (BlockJob j)) (MetaDone d) l b h = absurd b
built_held (Taken (BlockJob j)) (BlockDone d) l b h = (subst (λ n. n < l.marks.given) (sym b.ticket) h.0, built_fits block_means j d l.indexes.block.tree l.marks.block b h.1)
built_held (Built done) d l b h = subst (λ x. IsHeld l (Built x)) (sym b) h

-- a job that was taken is held
pub taken_held : (index : Index) (i : ℕ) (job : Job) (a b : PLive) → AnswersTaking index i (TakenAs job) a b → IsHeld b (Taken job)
taken_held Meta i (MetaJob j) a b h = (omega (arith, h.taken.0.ticket, h.taken.0.given), h.fits)
taken_held Meta i (BlockJob j) a b h = absurd h.taken
taken_held Block i (MetaJob j) a b h = absurd h.taken
taken_held Block i (BlockJob j) a b h = (omega (arith, h.taken.0.ticket, h.taken.0.given), h.fits)

-- a job that may be held again is held
pub again_held : (h again : RunJob) (l : PLive) → IsAgain h again → IsHeld l h → IsHeld l again
again_held h again l (inl e) k = subst (IsHeld l) (sym e) k
again_held h again l (inr d) k = subst (IsHeld l) (sym d.2) (built_held h d.0 l d.1 k)

-- one more job
pub held_more : (hs : List RunJob) (h : RunJob) (l : PLive) → AreHeld l hs → IsHeld l h → AreHeld l (hs ++ h ∷ [])
held_more [] h l a k = (k, tt)
held_more (x ∷ xs) h l a k = (a.0, held_more xs h l a.1 k)

-- ---- the first with a ticket

pub found_held : (t : ℕ) (hs : List RunJob) (job : RunJob) (l : PLive) → with_ticket t hs ≡ Some job → AreHeld l hs → IsHeld l job
found_held t [] job l e a = (cc)
found_held t (h ∷ hs) job l e a =
    (elim (held_ticket h == t) as (λ b. cond b (Some h) (with_ticket t hs) ≡ Some job → IsHeld l job) [
      | true ↦ λ q. subst (IsHeld l) (same_Some h job q) a.0
      | false ↦ λ q. found_held t hs job l q a.1
    ]) e

pub others_held : (t : ℕ) (hs : List RunJob) (l : PLive) → AreHeld l hs → AreHeld l (others t hs)
others_held t [] l a = tt
others_held t (h ∷ hs) l a = cond_both (held_ticket h == t) hs (h ∷ others t hs) (AreHeld l) (λ e. a.1) (λ e. (a.0, others_held t hs l a.1))

pub one_less : (t : ℕ) (hs : List RunJob) (job : RunJob) → with_ticket t hs ≡ Some job → length (others t hs) + 1 ≡ length hs
one_less t [] job e = (cc)
one_less t (h ∷ hs) job e =
    (elim (held_ticket h == t) as (λ b. cond b (Some h) (with_ticket t hs) ≡ Some job → length (cond b hs (h ∷ others t hs)) + 1 ≡ length (h ∷ hs)) [
      | true ↦ λ q. omega arith
      | false ↦ λ q. let r = one_less t hs job q in omega (arith, r)
    ]) e

-- if there is none, all jobs remain
pub all_left : (t : ℕ) (hs : List RunJob) → with_ticket t hs ≡ None → others t hs ≡ hs
all_left t [] e = refl
all_left t (h ∷ hs) e =
    (elim (held_ticket h == t) as (λ b. cond b (Some h) (with_ticket t hs) ≡ None → cond b hs (h ∷ others t hs) ≡ h ∷ hs) [
      | true ↦ λ q. (cc)
      | false ↦ λ q. ap (λ z. h ∷ z) (all_left t hs q)
    ]) e

-- ---- its index

-- there is none without an index
pub none_there : (t : ℕ) (hs : List RunJob) → position t hs ≡ None → with_ticket t hs ≡ None
none_there t [] e = refl
none_there t (h ∷ hs) e =
    (elim (held_ticket h == t) as (λ b. cond b (Some 0) (one_more (position t hs)) ≡ None → cond b (Some h) (with_ticket t hs) ≡ None) [
      | true ↦ λ q. (cc)
      | false ↦ λ q. none_there t hs (none_later (position t hs) q)
    ]) e

-- it is the job at its index, and the others are those that remain without it
pub found_there : (t i : ℕ) (hs : List RunJob) (d : RunJob) → position t hs ≡ Some i → (with_ticket t hs ≡ Some (get_or hs i d)) × (others t hs ≡ remove hs i)
found_there t i [] d e = (cc)
found_there t i (h ∷ hs) d e =
    (elim (held_ticket h == t) as (λ b. cond b (Some 0) (one_more (position t hs)) ≡ Some i → (cond b (Some h) (with_ticket t hs) ≡ Some (get_or (h ∷ hs) i d)) × (cond b hs (h ∷ others t hs) ≡ remove (h ∷ hs) i)) [
      | true ↦ λ q. subst (λ n. (Some h ≡ Some (get_or (h ∷ hs) n d)) × (hs ≡ remove (h ∷ hs) n)) (same_Some 0 i q) (refl, refl)
      | false ↦ λ q.
          let p = place_later i (position t hs) q in
          let r = found_there t p.0 hs d p.1 in
          subst (λ n. (with_ticket t hs ≡ Some (get_or (h ∷ hs) n d)) × (h ∷ others t hs ≡ remove (h ∷ hs) n)) (sym (add-one p.0) ∙ p.2) (r.0, ap (λ z. h ∷ z) r.1)
    ]) e

-- none of the first ones has the ticket, and the next one has it
pub found_first : (t : ℕ) (xs : List RunJob) (h : RunJob) (ys : List RunJob) → position t xs ≡ None → held_ticket h ≡ t → position t (xs ++ h ∷ ys) ≡ Some (length xs)
found_first t [] h ys e q =
    elim (held_ticket h == t) as (λ b. (held_ticket h == t) ≡ b → cond b (Some 0) (one_more (position t ys)) ≡ Some 0) [
      | true ↦ λ d. refl
      | false ↦ λ d. absurd (grind (arith, nat_tests))
    ] refl
found_first t (x ∷ xs) h ys e q =
    (elim (held_ticket x == t) as (λ b. cond b (Some 0) (one_more (position t xs)) ≡ None → cond b (Some 0) (one_more (position t (xs ++ h ∷ ys))) ≡ Some (length (x ∷ xs))) [
      | true ↦ λ d. (cc)
      | false ↦ λ d. ap one_more (found_first t xs h ys (none_later (position t xs) d) q) ∙ ap (λ (n : ℕ). Some n) (add-one (length xs))
    ]) e

-- nor does one more with another ticket
pub none_with : (t : ℕ) (xs : List RunJob) (h : RunJob) → position t xs ≡ None → (held_ticket h ≡ t → ⊥) → position t (xs ++ h ∷ []) ≡ None
none_with t [] h e q =
    elim (held_ticket h == t) as (λ b. (held_ticket h == t) ≡ b → cond b (Some 0) (one_more (position t [])) ≡ None) [
      | true ↦ λ d. absurd (q (grind (arith, nat_tests)))
      | false ↦ λ d. refl
    ] refl
none_with t (x ∷ xs) h e q =
    (elim (held_ticket x == t) as (λ b. cond b (Some 0) (one_more (position t xs)) ≡ None → cond b (Some 0) (one_more (position t (xs ++ h ∷ []))) ≡ None) [
      | true ↦ λ d. (cc)
      | false ↦ λ d. ap one_more (none_with t xs h (none_later (position t xs) d) q)
    ]) e

-- one more that is cancelled
pub without_more : (xs : List RunJob) (h : RunJob) (m : PMarks) → without_held (xs ++ h ∷ []) m ≡ without_mark (held_ticket h) (without_held xs m)
without_more [] h m = refl
without_more (x ∷ xs) h m = without_more xs h (without_mark (held_ticket x) m)

use Rattle.std.proofs.Common.{◌≡◌, ◌+◌, ℕ, ap, refl, sym, ◌∙◌, subst, arith}
use Rattle.volume.specs.Jobs.{AnswersTaking, mark_count}
use Rattle.volume.specs.Marked.{PLive}
use Rattle.volume.specs.declared.event.Index.{Index}
use Rattle.volume.specs.declared.event.Index.TheVariants.{Meta, Block}
use Rattle.volume.specs.declared.job.Job.TheVariants.{Meta as MetaJob, Block as BlockJob}
use Rattle.volume.specs.declared.job.TakeReply.{TakeReply}
use Rattle.volume.specs.declared.job.TakeReply.TheVariants.{Taken, NotThere, NoRoom, NoMemory}
use Rattle.volume.proofs.JobFacts.{meta_taken, block_taken, not_taken, one_more_mark}
use Rattle.volume.proofs.Marking.{with_meta, with_block, meta_lasts, block_lasts}
use Rattle.jobs.specs.Replies.{LacksRoom, mark_of}
use Rattle.volume.proofs.live_indexes.LiveIndexes.take_job.Goals as goal

-- from the actual index to the one that was requested
of_index : (i j : Index) (slot : ℕ) (r : TakeReply) (a b : PLive) → i ≡ j → AnswersTaking j slot r a b → AnswersTaking i slot r a b
of_index i j slot r a b e h = subst (λ (k : Index). AnswersTaking k slot r a b) (sym e) h

pub invariant_of-self : goal.invariant_of-self
invariant_of-self c =
    let l : PLive = record { indexes = c.self.inside.indexes; marks = record { meta = c.self.inside.meta_marks; block = c.self.inside.block_marks; given = c.self.inside.given } } in
    let e = c.in-Taken.ensures in
    let more = one_more_mark l.marks.meta c.take_job.new.self (mark_of c.in-Taken.job) e.taken.1 in
    let all : c.mark_count-all.result ≡ mark_count l.marks = c.mark_count-all.ensures ∙ ap (λ (x : PLive). mark_count x.marks) (sym c.self.view_is) in
    meta_lasts l l.indexes.meta.tree c.take_job.new.self (l.marks.given + 1) c.self.invariant (e.marks c.self.invariant.meta) (omega arith) (omega (arith, e.few.1)) (omega (arith, e.few.0, all, more))

pub returns-in-Taken : goal.returns-in-Taken
returns-in-Taken c =
    let l : PLive = record { indexes = c.self.inside.indexes; marks = record { meta = c.self.inside.meta_marks; block = c.self.inside.block_marks; given = c.self.inside.given } } in
    let e = c.in-Taken.ensures in
    of_index c.args.index Meta c.args.slot (Taken (MetaJob c.in-Taken.job)) c.args.self.now (with_meta l l.indexes.meta.tree c.take_job.new.self (l.marks.given + 1)) c.in-Meta.is (subst (λ (x : PLive). AnswersTaking Meta c.args.slot (Taken (MetaJob c.in-Taken.job)) x (with_meta l l.indexes.meta.tree c.take_job.new.self (l.marks.given + 1))) c.self.view_is
    (meta_taken l c.args.slot c.in-Taken.job c.take_job.new.self e.taken.0 e.taken.1 e.job (e.fits c.self.invariant.meta) (λ q. let clash = e.not_there.1 q in (cc))))

pub returns-in-NotThere : goal.returns-in-NotThere
returns-in-NotThere c =
    let l : PLive = record { indexes = c.self.inside.indexes; marks = record { meta = c.self.inside.meta_marks; block = c.self.inside.block_marks; given = c.self.inside.given } } in
    let e = c.in-NotThere.ensures in
    let new : PLive = with_meta l l.indexes.meta.tree c.take_job.new.self l.marks.given in
    of_index c.args.index Meta c.args.slot NotThere c.args.self.now new c.in-Meta.is (subst (λ (x : PLive). AnswersTaking Meta c.args.slot NotThere x new) c.self.view_is
    (not_taken Meta c.args.slot NotThere l new tt (ap (λ z. with_meta l l.indexes.meta.tree z l.marks.given) e.unchanged) ((λ q. e.not_there.0 refl), (λ q. refl)) (λ q. (cc))))

pub returns-in-NoRoom : goal.returns-in-NoRoom
returns-in-NoRoom c =
    let l : PLive = record { indexes = c.self.inside.indexes; marks = record { meta = c.self.inside.meta_marks; block = c.self.inside.block_marks; given = c.self.inside.given } } in
    let e = c.in-NoRoom.ensures in
    let new : PLive = with_meta l l.indexes.meta.tree c.take_job.new.self l.marks.given in
    of_index c.args.index Meta c.args.slot NoRoom c.args.self.now new c.in-Meta.is (subst (λ (x : PLive). AnswersTaking Meta c.args.slot NoRoom x new) c.self.view_is
    (not_taken Meta c.args.slot NoRoom l new tt (ap (λ z. with_meta l l.indexes.meta.tree z l.marks.given) e.unchanged) ((λ q. (cc)), (λ q. let clash = e.not_there.1 q in (cc))) (λ q. (subst (λ (n : ℕ). LacksRoom c.args.slot l.marks.given n l.indexes.meta.tree) (c.mark_count-all.ensures ∙ ap (λ (x : PLive). mark_count x.marks) (sym c.self.view_is)) (e.no_room refl)))))

pub returns-in-NoMemory : goal.returns-in-NoMemory
returns-in-NoMemory c =
    let l : PLive = record { indexes = c.self.inside.indexes; marks = record { meta = c.self.inside.meta_marks; block = c.self.inside.block_marks; given = c.self.inside.given } } in
    let e = c.in-NoMemory.ensures in
    let new : PLive = with_meta l l.indexes.meta.tree c.take_job.new.self l.marks.given in
    of_index c.args.index Meta c.args.slot NoMemory c.args.self.now new c.in-Meta.is (subst (λ (x : PLive). AnswersTaking Meta c.args.slot NoMemory x new) c.self.view_is
    (not_taken Meta c.args.slot NoMemory l new tt (ap (λ z. with_meta l l.indexes.meta.tree z l.marks.given) e.unchanged) ((λ q. (cc)), (λ q. let clash = e.not_there.1 q in (cc))) (λ q. (cc))))

pub invariant_of-self-in-Taken-take_job : goal.invariant_of-self-in-Taken-take_job
invariant_of-self-in-Taken-take_job c =
    let l : PLive = record { indexes = c.self.inside.indexes; marks = record { meta = c.self.inside.meta_marks; block = c.self.inside.block_marks; given = c.self.inside.given } } in
    let e = c.in-Taken-take_job.ensures in
    let more = one_more_mark l.marks.block c.take_job-in-Block.new.self (mark_of c.in-Taken-take_job.job) e.taken.1 in
    let all : c.mark_count-all.result ≡ mark_count l.marks = c.mark_count-all.ensures ∙ ap (λ (x : PLive). mark_count x.marks) (sym c.self.view_is) in
    block_lasts l l.indexes.block.tree c.take_job-in-Block.new.self (l.marks.given + 1) c.self.invariant (e.marks c.self.invariant.block) (omega arith) (omega (arith, e.few.1)) (omega (arith, e.few.0, all, more))

pub returns-in-Taken-take_job : goal.returns-in-Taken-take_job
returns-in-Taken-take_job c =
    let l : PLive = record { indexes = c.self.inside.indexes; marks = record { meta = c.self.inside.meta_marks; block = c.self.inside.block_marks; given = c.self.inside.given } } in
    let e = c.in-Taken-take_job.ensures in
    of_index c.args.index Block c.args.slot (Taken (BlockJob c.in-Taken-take_job.job)) c.args.self.now (with_block l l.indexes.block.tree c.take_job-in-Block.new.self (l.marks.given + 1)) c.in-Block.is (subst (λ (x : PLive). AnswersTaking Block c.args.slot (Taken (BlockJob c.in-Taken-take_job.job)) x (with_block l l.indexes.block.tree c.take_job-in-Block.new.self (l.marks.given + 1))) c.self.view_is
    (block_taken l c.args.slot c.in-Taken-take_job.job c.take_job-in-Block.new.self e.taken.0 e.taken.1 e.job (e.fits c.self.invariant.block) (λ q. let clash = e.not_there.1 q in (cc))))

pub returns-in-NotThere-take_job : goal.returns-in-NotThere-take_job
returns-in-NotThere-take_job c =
    let l : PLive = record { indexes = c.self.inside.indexes; marks = record { meta = c.self.inside.meta_marks; block = c.self.inside.block_marks; given = c.self.inside.given } } in
    let e = c.in-NotThere-take_job.ensures in
    let new : PLive = with_block l l.indexes.block.tree c.take_job-in-Block.new.self l.marks.given in
    of_index c.args.index Block c.args.slot NotThere c.args.self.now new c.in-Block.is (subst (λ (x : PLive). AnswersTaking Block c.args.slot NotThere x new) c.self.view_is
    (not_taken Block c.args.slot NotThere l new tt (ap (λ z. with_block l l.indexes.block.tree z l.marks.given) e.unchanged) ((λ q. e.not_there.0 refl), (λ q. refl)) (λ q. (cc))))

pub returns-in-NoRoom-take_job : goal.returns-in-NoRoom-take_job
returns-in-NoRoom-take_job c =
    let l : PLive = record { indexes = c.self.inside.indexes; marks = record { meta = c.self.inside.meta_marks; block = c.self.inside.block_marks; given = c.self.inside.given } } in
    let e = c.in-NoRoom-take_job.ensures in
    let new : PLive = with_block l l.indexes.block.tree c.take_job-in-Block.new.self l.marks.given in
    of_index c.args.index Block c.args.slot NoRoom c.args.self.now new c.in-Block.is (subst (λ (x : PLive). AnswersTaking Block c.args.slot NoRoom x new) c.self.view_is
    (not_taken Block c.args.slot NoRoom l new tt (ap (λ z. with_block l l.indexes.block.tree z l.marks.given) e.unchanged) ((λ q. (cc)), (λ q. let clash = e.not_there.1 q in (cc))) (λ q. (subst (λ (n : ℕ). LacksRoom c.args.slot l.marks.given n l.indexes.block.tree) (c.mark_count-all.ensures ∙ ap (λ (x : PLive). mark_count x.marks) (sym c.self.view_is)) (e.no_room refl)))))

pub returns-in-NoMemory-take_job : goal.returns-in-NoMemory-take_job
returns-in-NoMemory-take_job c =
    let l : PLive = record { indexes = c.self.inside.indexes; marks = record { meta = c.self.inside.meta_marks; block = c.self.inside.block_marks; given = c.self.inside.given } } in
    let e = c.in-NoMemory-take_job.ensures in
    let new : PLive = with_block l l.indexes.block.tree c.take_job-in-Block.new.self l.marks.given in
    of_index c.args.index Block c.args.slot NoMemory c.args.self.now new c.in-Block.is (subst (λ (x : PLive). AnswersTaking Block c.args.slot NoMemory x new) c.self.view_is
    (not_taken Block c.args.slot NoMemory l new tt (ap (λ z. with_block l l.indexes.block.tree z l.marks.given) e.unchanged) ((λ q. (cc)), (λ q. let clash = e.not_there.1 q in (cc))) (λ q. (cc))))

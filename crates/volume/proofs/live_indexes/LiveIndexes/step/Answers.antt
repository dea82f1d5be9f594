use Rattle.std.proofs.Common.{subst}
use Rattle.volume.specs.Changes.{StepsLive}
use Rattle.volume.specs.Marked.{PLive}
use Rattle.volume.proofs.Marking.{with_meta, with_block, meta_stepped, meta_stepped_lasts, block_stepped, block_stepped_lasts}
use Rattle.volume.proofs.live_indexes.LiveIndexes.step.Goals as goal

pub invariant_of-self : goal.invariant_of-self
invariant_of-self c =
    let l : PLive = record { indexes = c.self.inside.indexes; marks = record { meta = c.self.inside.meta_marks; block = c.self.inside.block_marks; given = c.self.inside.given } } in
    meta_stepped_lasts l c.args.step.step c.step.result c.step.new.tree c.step.new.self c.self.invariant c.step.ensures.marks c.step.ensures.kept

pub invariant_of-self-in-Block : goal.invariant_of-self-in-Block
invariant_of-self-in-Block c =
    let l : PLive = record { indexes = c.self.inside.indexes; marks = record { meta = c.self.inside.meta_marks; block = c.self.inside.block_marks; given = c.self.inside.given } } in
    block_stepped_lasts l c.args.step.step c.step-in-Block.result c.step-in-Block.new.tree c.step-in-Block.new.self c.self.invariant c.step-in-Block.ensures.marks c.step-in-Block.ensures.kept

pub returns-in-Meta : goal.returns-in-Meta
returns-in-Meta c =
    let l : PLive = record { indexes = c.self.inside.indexes; marks = record { meta = c.self.inside.meta_marks; block = c.self.inside.block_marks; given = c.self.inside.given } } in
    let e = c.step.ensures in
    subst (λ (x : PLive). StepsLive c.args.step c.step.result x (with_meta l c.step.new.tree c.step.new.self l.marks.given)) c.self.view_is
    (meta_stepped l c.args.step.index c.args.step.step c.step.result c.step.new.tree c.step.new.self c.in-Meta.is c.self.invariant e.answers e.marks e.kept)

pub returns-in-Block : goal.returns-in-Block
returns-in-Block c =
    let l : PLive = record { indexes = c.self.inside.indexes; marks = record { meta = c.self.inside.meta_marks; block = c.self.inside.block_marks; given = c.self.inside.given } } in
    let e = c.step-in-Block.ensures in
    subst (λ (x : PLive). StepsLive c.args.step c.step-in-Block.result x (with_block l c.step-in-Block.new.tree c.step-in-Block.new.self l.marks.given)) c.self.view_is
    (block_stepped l c.args.step.index c.args.step.step c.step-in-Block.result c.step-in-Block.new.tree c.step-in-Block.new.self c.in-Block.is c.self.invariant e.answers e.marks e.kept)

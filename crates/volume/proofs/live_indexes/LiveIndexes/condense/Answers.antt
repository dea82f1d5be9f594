use Rattle.std.proofs.Common.{◌≡◌, ℕ, List, [], ap, ◌∙◌, subst, Ok}
use Rattle.std.specs.Prelude.{Result}
use Rattle.call_compiler.specs.Compiled.{no_messages}
use Rattle.call_compiler.specs.declared.indexes.Indexes.{Indexes}
use Rattle.jobs.specs.Marks.{kept_in}
use Rattle.node.specs.Grafts.{KeepsLists}
use Rattle.volume.specs.Marked.{PLive, KeepsMarks}
use Rattle.volume.proofs.Marking.{AppendsKept, appends_kept, appended_lasts, appended_keeps, indexes_of}
use Rattle.volume.proofs.live_indexes.LiveIndexes.condense.Goals as goal
use Rattle.volume.proofs.live_indexes.LiveIndexes.condense.Goals.{After-drop-meta_kept-2}

abbrev done : Result (Unit {0}) (Unit {0})
done = Ok tt

abbrev new : After-drop-meta_kept-2 → Indexes
new c = indexes_of c.condense.new.self c.condense-2.new.self

all : (c : After-drop-meta_kept-2) → AppendsKept done no_messages (record { indexes = c.self.inside.indexes; marks = record { meta = c.self.inside.meta_marks; block = c.self.inside.block_marks; given = c.self.inside.given } }) (new c)
all c =
    let i = c.self.inside in
    let l : PLive = record { indexes = i.indexes; marks = record { meta = i.meta_marks; block = i.block_marks; given = i.given } } in
    let meta = c.as_slice.ensures.value ∙ c.in-Ok.ensures ∙ ap (λ z. kept_in i.meta_marks z) c.root.ensures.root in
    let block = c.as_slice-2.ensures.value ∙ c.in-Ok-kept.ensures ∙ ap (λ z. kept_in i.block_marks z) c.root-2.ensures.root in
    appends_kept done no_messages l c.condense.new.self c.condense-2.new.self c.condense.ensures.appended c.condense-2.ensures.appended
    (subst (λ (z : List ℕ). KeepsLists z [] i.indexes.meta.tree.root c.condense.new.self.root) meta c.condense.ensures.kept)
    (subst (λ (z : List ℕ). KeepsLists z [] i.indexes.block.tree.root c.condense-2.new.self.root) block c.condense-2.ensures.kept)
    tt tt

pub invariant_of-self : goal.invariant_of-self
invariant_of-self c =
    let l : PLive = record { indexes = c.self.inside.indexes; marks = record { meta = c.self.inside.meta_marks; block = c.self.inside.block_marks; given = c.self.inside.given } } in
    appended_lasts done no_messages l (new c) c.self.invariant (all c)

pub returns-clause-kept : goal.returns-clause-kept
returns-clause-kept c =
    let l : PLive = record { indexes = c.self.inside.indexes; marks = record { meta = c.self.inside.meta_marks; block = c.self.inside.block_marks; given = c.self.inside.given } } in
    subst (λ (x : PLive). KeepsMarks x (record l { indexes = new c })) c.self.view_is (appended_keeps done no_messages l (new c) c.self.invariant (all c))

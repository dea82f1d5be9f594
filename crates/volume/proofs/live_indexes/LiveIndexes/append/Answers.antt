use Rattle.std.proofs.Common.{◌≡◌, ℕ, List, [], ap, ◌∙◌, rules, subst, sym}
use Rattle.std.specs.Prelude.{OnOk}
use Rattle.std.proofs.lemmas.List.{nil_from_length}
use Rattle.call_compiler.specs.Compiled.{messages}
use Rattle.call_compiler.specs.declared.indexes.Indexes.{Indexes}
use Rattle.jobs.specs.Marks.{kept_in}
use Rattle.node.specs.Grafts.{KeepsLists}
use Rattle.volume.specs.Marked.{PLive, KeepMarkedLists, KeepsMarks}
use Rattle.volume.proofs.Leading.{kept_all, kept_lists, took_nothing}
use Rattle.volume.proofs.Unmarked.{unmarked}
use Rattle.volume.proofs.Marking.{AppendsKept, appends_kept, appended_lasts, appended_keeps, indexes_of, lists_kept}
use Rattle.volume.proofs.live_indexes.LiveIndexes.append.Goals as goal
use Rattle.volume.proofs.live_indexes.LiveIndexes.append.Goals.{After-drop-meta_kept-2}

abbrev new : After-drop-meta_kept-2 → Indexes
new c = indexes_of c.append_both_kept-2.new.first c.append_both_kept-2.new.second

all : (c : After-drop-meta_kept-2) → AppendsKept c.append_both_kept-2.result (messages c.args.batch) (record { indexes = c.self.inside.indexes; marks = record { meta = c.self.inside.meta_marks; block = c.self.inside.block_marks; given = c.self.inside.given } }) (new c)
all c =
    let i = c.self.inside in
    let l : PLive = record { indexes = i.indexes; marks = record { meta = i.meta_marks; block = i.block_marks; given = i.given } } in
    let r = c.append_both_kept-2 in
    let e = r.ensures in
    let meta = c.as_slice.ensures.value ∙ c.in_ok-meta_kept.ensures ∙ ap (λ z. kept_in i.meta_marks z) c.root.ensures.root in
    let block = c.as_slice-2.ensures.value ∙ c.in_ok-block_kept.ensures ∙ ap (λ z. kept_in i.block_marks z) c.root-2.ensures.root in
    appends_kept r.result (messages c.args.batch) l r.new.first r.new.second e.first_ok e.second_ok
    (subst (λ (z : List ℕ). OnOk r.result (KeepsLists z c.args.batch.meta.items i.indexes.meta.tree.root r.new.first.root)) meta e.first_kept)
    (subst (λ (z : List ℕ). OnOk r.result (KeepsLists z c.args.batch.block.items i.indexes.block.tree.root r.new.second.root)) block e.second_kept)
    e.first_err e.second_err

pub invariant_of-self-2 : goal.invariant_of-self-2
invariant_of-self-2 c =
    let l : PLive = record { indexes = c.self.inside.indexes; marks = record { meta = c.self.inside.meta_marks; block = c.self.inside.block_marks; given = c.self.inside.given } } in
    appended_lasts c.append_both_kept-2.result (messages c.args.batch) l (new c) c.self.invariant (all c)

pub returns-clause-kept : goal.returns-clause-kept
returns-clause-kept c =
    let l : PLive = record { indexes = c.self.inside.indexes; marks = record { meta = c.self.inside.meta_marks; block = c.self.inside.block_marks; given = c.self.inside.given } } in
    subst (λ (x : PLive). KeepsMarks x (record l { indexes = new c })) c.self.view_is (appended_keeps c.append_both_kept-2.result (messages c.args.batch) l (new c) c.self.invariant (all c))

pub returns-clause-lists : goal.returns-clause-lists
returns-clause-lists c =
    let l : PLive = record { indexes = c.self.inside.indexes; marks = record { meta = c.self.inside.meta_marks; block = c.self.inside.block_marks; given = c.self.inside.given } } in
    subst (λ (x : PLive). OnOk c.append_both_kept-2.result (KeepMarkedLists (messages c.args.batch) x (record l { indexes = new c }))) c.self.view_is (lists_kept c.append_both_kept-2.result (messages c.args.batch) l (new c) (all c))

pub returns-then-len-eq0-2-clause-lists : goal.returns-then-len-eq0-2-clause-lists
returns-then-len-eq0-2-clause-lists c =
    let l : PLive = record { indexes = c.self.inside.indexes; marks = record { meta = c.self.inside.meta_marks; block = c.self.inside.block_marks; given = c.self.inside.given } } in
    let after : PLive = record l { indexes = indexes_of c.append_both_kept.new.first c.append_both_kept.new.second } in
    subst (λ (x : PLive). OnOk c.append_both_kept.result (KeepMarkedLists (messages c.args.batch) x after)) c.self.view_is
    (unmarked c.append_both_kept.result (messages c.args.batch) l after (sym c.len.ensures ∙ c.if-len-eq0.true) (sym c.len-then-len-eq0.ensures ∙ c.if-len-eq0-2.true))

pub returns-in_err-meta_kept-clause-kept : goal.returns-in_err-meta_kept-clause-kept
returns-in_err-meta_kept-clause-kept c = kept_all c.args.self.now

pub returns-in_err-block_kept-clause-kept : goal.returns-in_err-block_kept-clause-kept
returns-in_err-block_kept-clause-kept c = kept_all c.args.self.now

pub returns-then-is_empty-2-clause-done : goal.returns-then-is_empty-2-clause-done
returns-then-is_empty-2-clause-done c =
    let meta : c.args.batch.meta.items ≡ [] = nil_from_length c.args.batch.meta.items (search rules) in
    let block : c.args.batch.block.items ≡ [] = nil_from_length c.args.batch.block.items (search rules) in
    took_nothing (messages c.args.batch) c.args.self.now c.assert_invariant.ensures meta block

pub returns-then-is_empty-2-clause-lists : goal.returns-then-is_empty-2-clause-lists
returns-then-is_empty-2-clause-lists c =
    let meta : c.args.batch.meta.items ≡ [] = nil_from_length c.args.batch.meta.items (search rules) in
    let block : c.args.batch.block.items ≡ [] = nil_from_length c.args.batch.block.items (search rules) in
    kept_lists (messages c.args.batch) c.args.self.now meta block

pub returns-then-is_empty-2-clause-kept : goal.returns-then-is_empty-2-clause-kept
returns-then-is_empty-2-clause-kept c = kept_all c.args.self.now

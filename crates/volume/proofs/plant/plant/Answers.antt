use Rattle.std.proofs.Common.{◌≡◌, subst}
use Rattle.call_compiler.specs.Compiled.{Messages, messages}
use Rattle.meta_index.specs.Means.{IsMeantBy}
use Rattle.reference.specs.Calls.{first_fault}
use Rattle.reference.specs.Plant.{faults_of_plant}
use Rattle.reference.specs.Tree.{Tree}
use Rattle.call_compiler.specs.declared.indexes.Indexes.{Indexes}
use Rattle.volume.specs.Marked.{KeepMarkedLists}
use Rattle.volume.proofs.Plants.{planted_in}
use Rattle.volume.proofs.plant.plant.Goals as goal

pub returns-clause-entry : goal.returns-clause-entry
returns-clause-entry c =
    let faults = subst (λ (i : Indexes). (t : Tree) → IsMeantBy t i.meta → c.in_ok-fault.field-0 ≡ first_fault (faults_of_plant t c.args.path.now c.args.meta)) c.indexes.ensures c.in_ok-fault.ensures in
    planted_in c.args.live.now.indexes c.append_noted.new.live.indexes c.args.path.now c.args.meta c.in_ok-fault.field-0 (messages c.in_ok-batch.batch)
    c.mtime_of-early.ensures.early c.one_put.ensures.valid c.in_default.is faults c.in_ok-batch.ensures.messages (record {
      taken = c.in_ok-append_noted.ensures.appended.taken;
      no_meta = c.append_noted.ensures.appended.no_meta;
      no_block = c.append_noted.ensures.appended.no_block;
    })

pub returns-clause-lists : goal.returns-clause-lists
returns-clause-lists c = subst (λ (m : Messages). KeepMarkedLists m c.args.live.now c.append_noted.new.live) c.in_ok-batch.ensures.messages c.in_ok-append_noted.ensures.appended.lists

pub returns-clause-marks : goal.returns-clause-marks
returns-clause-marks c = c.append_noted.ensures.appended.marks

pub returns-clause-kept : goal.returns-clause-kept
returns-clause-kept c = c.append_noted.ensures.appended.kept

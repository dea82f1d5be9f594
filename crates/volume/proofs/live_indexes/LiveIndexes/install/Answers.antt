use Rattle.std.proofs.Common.{ap, sym, ◌∙◌, subst}
use Rattle.volume.specs.Jobs.{AnswersInstalling}
use Rattle.volume.specs.Marked.{PLive}
use Rattle.volume.specs.declared.job.InstallReply.{InstallReply}
use Rattle.volume.proofs.JobFacts.{meta_install_lasts, meta_installing, meta_reply, block_install_lasts, block_installing, block_reply}
use Rattle.volume.proofs.Marking.{with_meta, with_block}
use Rattle.volume.proofs.live_indexes.LiveIndexes.install.Goals as goal
use Rattle.volume.proofs.live_indexes.LiveIndexes.install.Goals.{in-Installed, in-Stale, in-NoMemory, in-Installed-install, in-Stale-install, in-NoMemory-install}

pub invariant_of-self : goal.invariant_of-self
invariant_of-self c =
    let l : PLive = record { indexes = c.self.inside.indexes; marks = record { meta = c.self.inside.meta_marks; block = c.self.inside.block_marks; given = c.self.inside.given } } in
    let e = c.install.ensures in
    meta_install_lasts l c.in-Meta.done c.install.result c.install.new.tree c.install.new.self c.self.invariant (record { installed = e.installed; stale = e.stale; back = e.back; unchanged = e.unchanged; value = e.value; kept = e.kept })

pub invariant_of-self-in-Block : goal.invariant_of-self-in-Block
invariant_of-self-in-Block c =
    let l : PLive = record { indexes = c.self.inside.indexes; marks = record { meta = c.self.inside.meta_marks; block = c.self.inside.block_marks; given = c.self.inside.given } } in
    let e = c.install-in-Block.ensures in
    block_install_lasts l c.in-Block.done c.install-in-Block.result c.install-in-Block.new.tree c.install-in-Block.new.self c.self.invariant (record { installed = e.installed; stale = e.stale; back = e.back; unchanged = e.unchanged; value = e.value; kept = e.kept })

pub returns-after-install : goal.returns-after-install
returns-after-install c =
    let l : PLive = record { indexes = c.self.inside.indexes; marks = record { meta = c.self.inside.meta_marks; block = c.self.inside.block_marks; given = c.self.inside.given } } in
    let e = c.install.ensures in
    let new : PLive = with_meta l c.install.new.tree c.install.new.self l.marks.given in
    let all = meta_installing l c.args.done c.in-Meta.done c.install.result c.install.new.tree c.install.new.self c.in-Meta.is c.self.invariant (record { installed = e.installed; stale = e.stale; back = e.back; unchanged = e.unchanged; value = e.value; kept = e.kept }) in
    let here = subst (λ (x : PLive). AnswersInstalling c.args.done (meta_reply c.install.result) x new) c.self.view_is all in
    elim c.match-install.branch [
      | in-Installed w ↦ subst (λ (r : InstallReply). AnswersInstalling c.args.done r c.args.self.now new) (ap meta_reply w.in-Installed.is ∙ sym w.result-is) here
      | in-Stale w ↦ subst (λ (r : InstallReply). AnswersInstalling c.args.done r c.args.self.now new) (ap meta_reply w.in-Stale.is ∙ sym w.result-is) here
      | in-NoMemory w ↦ subst (λ (r : InstallReply). AnswersInstalling c.args.done r c.args.self.now new) (ap meta_reply w.in-NoMemory.is ∙ sym w.result-is) here
    ]

pub returns-after-install-2 : goal.returns-after-install-2
returns-after-install-2 c =
    let l : PLive = record { indexes = c.self.inside.indexes; marks = record { meta = c.self.inside.meta_marks; block = c.self.inside.block_marks; given = c.self.inside.given } } in
    let e = c.install-in-Block.ensures in
    let new : PLive = with_block l c.install-in-Block.new.tree c.install-in-Block.new.self l.marks.given in
    let all = block_installing l c.args.done c.in-Block.done c.install-in-Block.result c.install-in-Block.new.tree c.install-in-Block.new.self c.in-Block.is c.self.invariant (record { installed = e.installed; stale = e.stale; back = e.back; unchanged = e.unchanged; value = e.value; kept = e.kept }) in
    let here = subst (λ (x : PLive). AnswersInstalling c.args.done (block_reply c.install-in-Block.result) x new) c.self.view_is all in
    elim c.match-install-2.branch [
      | in-Installed-install w ↦ subst (λ (r : InstallReply). AnswersInstalling c.args.done r c.args.self.now new) (ap block_reply w.in-Installed-install.is ∙ sym w.result-is) here
      | in-Stale-install w ↦ subst (λ (r : InstallReply). AnswersInstalling c.args.done r c.args.self.now new) (ap block_reply w.in-Stale-install.is ∙ sym w.result-is) here
      | in-NoMemory-install w ↦ subst (λ (r : InstallReply). AnswersInstalling c.args.done r c.args.self.now new) (ap block_reply w.in-NoMemory-install.is ∙ sym w.result-is) here
    ]

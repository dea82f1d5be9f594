use Rattle.std.proofs.Common.{◌≡◌, ◌+◌, ◌<◌, ◌++◌, ◌∷◌, [], List, length, take, arith, ap, sym, ◌∙◌}
use Rattle.std.proofs.lemmas.List.{take_more}
use Rattle.volume.specs.RunJob.{without_held}
use Rattle.volume.specs.Marked.{PMarks, without_mark}
use Rattle.volume.specs.Volumes.{PVolume}
use Rattle.volume.specs.declared.run_job.RunJob.{RunJob}
use Rattle.volume.proofs.Holding.{without_more}
use Rattle.volume.proofs.volume.Volume.cancel_held.Goals as goal

pub loop-job-preserved : goal.loop-job-preserved
loop-job-preserved c =
    let held : List RunJob = c.args.held.now in
    let i = c.loop-job.job-index in
    let h : i < length held = omega arith in
    let more : take (i + 1) held ≡ take i held ++ c.job-item.result ∷ [] = take_more held i c.job-item.result h ∙ ap (λ (x : RunJob). take i held ++ x ∷ []) (sym c.job-item.is) in
    let marks : without_mark c.ticket.result.number (without_held (take i held) c.args.self.now.marks) ≡ without_held (take (i + 1) held) c.args.self.now.marks =
    ap (λ n. without_mark n (without_held (take i held) c.args.self.now.marks)) c.ticket.ensures
    ∙ sym (without_more (take i held) c.job-item.result c.args.self.now.marks)
    ∙ ap (λ (hs : List RunJob). without_held hs c.args.self.now.marks) (sym more) in
    record {
      volume = c.cancel.ensures.volume
          ∙ ap (λ (v : PVolume). record v { marks = without_mark c.ticket.result.number v.marks }) c.loop-job.invariant.volume
          ∙ ap (λ (m : PMarks). record (c.args.self.now) { marks = m }) marks;
    }

use Rattle.std.proofs.Common.{◌≡◌, ◌+◌, ◌<◌, ◌++◌, ◌∷◌, [], ℕ, List, Some, length, take, drop, arith, ap, sym, ◌∙◌}
use Rattle.std.proofs.lemmas.List.{drop_more, length-take-le, take-append-drop, take_more}
use Rattle.volume.specs.RunJob.{held_ticket, position}
use Rattle.volume.specs.declared.run_job.RunJob.{RunJob}
use Rattle.volume.proofs.Holding.{found_first, none_with}
use Rattle.volume.proofs.run_job.position.Goals as goal

pub returns-then-ticket-clause-place : goal.returns-then-ticket-clause-place
returns-then-ticket-clause-place c =
    let held : List RunJob = c.args.held.now in
    let i = c.loop-job.job-index in
    let h : i < length held = omega arith in
    let has : held_ticket c.job-item.result ≡ c.args.ticket.number = sym c.ticket.ensures ∙ c.if-ticket.true in
    let parts : take i held ++ c.job-item.result ∷ drop (i + 1) held ≡ held =
    ap (λ (z : List RunJob). take i held ++ z) (sym (drop_more held i c.job-item.result h ∙ ap (λ (x : RunJob). x ∷ drop (i + 1) held) (sym c.job-item.is))) ∙ take-append-drop i held in
    let there : position c.args.ticket.number held ≡ Some (length (take i held)) =
    ap (λ (z : List RunJob). position c.args.ticket.number z) (sym parts) ∙ found_first c.args.ticket.number (take i held) c.job-item.result (drop (i + 1) held) c.loop-job.invariant.none has in
    let number : length (take i held) ≡ c.loop-job.i = length-take-le i held (omega arith) ∙ sym c.loop-job.invariant.count in
    sym (there ∙ ap (λ (n : ℕ). Some n) number)

pub loop-job-preserved : goal.loop-job-preserved
loop-job-preserved c =
    let held : List RunJob = c.args.held.now in
    let i = c.loop-job.job-index in
    let h : i < length held = omega arith in
    let more : take (i + 1) held ≡ take i held ++ c.job-item.result ∷ [] = take_more held i c.job-item.result h ∙ ap (λ (x : RunJob). take i held ++ x ∷ []) (sym c.job-item.is) in
    record {
      none = ap (λ (z : List RunJob). position c.args.ticket.number z) more ∙ none_with c.args.ticket.number (take i held) c.job-item.result c.loop-job.invariant.none (λ e. c.if-ticket.false (c.ticket.ensures ∙ e));
      count = ap (λ n. n + 1) c.loop-job.invariant.count;
    }

use Rattle.std.proofs.Common.{◌≡◌, ◌+◌, ◌<◌, ◌≤◌, ◌∷◌, [], length, drop, arith, ap, sym, ◌∙◌}
use Rattle.std.proofs.lemmas.List.{drop_more}
use Rattle.volume.specs.declared.event.Event.{Event}
use Rattle.volume.specs.Runs.{takings}
use Rattle.volume.proofs.Runs.{takings_first, one_taking}
use Rattle.volume.proofs.run.takings.Goals as goal

pub loop-event-preserved : goal.loop-event-preserved
loop-event-preserved c =
    let h : c.loop-event.event-index < length c.args.events.now = omega arith in
    let ahead : takings (drop c.loop-event.event-index c.args.events.now) ≡ takings (c.event-item.result ∷ []) + takings (drop (c.loop-event.event-index + 1) c.args.events.now) =
    ap takings (drop_more c.args.events.now c.loop-event.event-index c.event-item.result h)
    ∙ ap (λ (x : Event). takings (x ∷ drop (c.loop-event.event-index + 1) c.args.events.now)) (sym c.event-item.is)
    ∙ takings_first c.event-item.result (drop (c.loop-event.event-index + 1) c.args.events.now) in
    let one : takings (c.event-item.result ∷ []) ≤ 1 = one_taking c.event-item.result in
    record { all = omega (arith, ahead, c.taking-count.ensures, c.loop-event.invariant.all); bound = omega (arith, one, c.taking-count.ensures, c.loop-event.invariant.bound) }

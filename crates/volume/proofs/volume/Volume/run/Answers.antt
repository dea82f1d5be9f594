use Rattle.std.proofs.Common.{◌≡◌, ◌+◌, ◌<◌, ◌≤◌, ◌++◌, ◌∷◌, [], List, length, take, drop, arith, ap, sym, subst, ◌∙◌}
use Rattle.std.proofs.Math.Seq.{take-length}
use Rattle.std.proofs.lemmas.List.{drop_more, take_more}
use Rattle.volume.specs.declared.event.Answer.{Answer}
use Rattle.volume.specs.declared.event.Event.{Event}
use Rattle.volume.specs.declared.run_job.RunJob.{RunJob}
use Rattle.volume.specs.Runs.{PRun, Chain, begun, ended, takings}
use Rattle.volume.proofs.Runs.{chain_more, chain_ran, link_count, takings_first}
use Rattle.volume.proofs.volume.Volume.run.Goals as goal

pub loop-event-preserved : goal.loop-event-preserved
loop-event-preserved c =
    let events : List Event = c.args.events.now in
    let h : c.loop-event.event-index < length c.args.events.now = omega arith in
    let e : take (c.loop-event.event-index + 1) c.args.events.now ≡ take c.loop-event.event-index c.args.events.now ++ c.event-item.result ∷ [] =
    take_more c.args.events.now c.loop-event.event-index c.event-item.result h ∙ ap (λ (x : Event). take c.loop-event.event-index c.args.events.now ++ x ∷ []) (sym c.event-item.is) in
    let old : PRun = record { volume = c.loop-event.self; held = c.loop-event.held.items } in
    let new : PRun = record { volume = c.answer-answer.new.self; held = c.answer-answer.new.held.items } in
    let more : Chain (begun c.args.self.now) (take c.loop-event.event-index c.args.events.now ++ c.event-item.result ∷ []) (c.loop-event.answers.items ++ c.answer-answer.result ∷ []) new =
    chain_more (take c.loop-event.event-index c.args.events.now) c.loop-event.answers.items c.event-item.result c.answer-answer.result (begun c.args.self.now) old new c.loop-event.invariant.chain c.answer-answer.ensures.link c.assert_invariant-in-loop-event.ensures in
    let ahead : takings (drop c.loop-event.event-index c.args.events.now) ≡ takings (c.event-item.result ∷ []) + takings (drop (c.loop-event.event-index + 1) c.args.events.now) =
    ap takings (drop_more c.args.events.now c.loop-event.event-index c.event-item.result h)
    ∙ ap (λ (x : Event). takings (x ∷ drop (c.loop-event.event-index + 1) c.args.events.now)) (sym c.event-item.is)
    ∙ takings_first c.event-item.result (drop (c.loop-event.event-index + 1) c.args.events.now) in
    let few : length c.answer-answer.new.held.items ≤ length c.loop-event.held.items + takings (c.event-item.result ∷ []) = link_count c.event-item.result c.answer-answer.result old new c.answer-answer.ensures.link in
    record {
      chain = subst (λ (rs : List Answer). Chain (begun c.args.self.now) (take (c.loop-event.event-index + 1) c.args.events.now) rs new) (sym c.push_reserved.ensures.items)
          (subst (λ (es : List Event). Chain (begun c.args.self.now) es (c.loop-event.answers.items ++ c.answer-answer.result ∷ []) new) (sym e) more);
      held = c.answer-answer.ensures.held;
      jobs = omega (arith, ahead, few, c.loop-event.invariant.jobs, c.answer-answer.ensures.room);
      count = c.push_reserved.ensures.len ∙ ap (λ n. n + 1) c.loop-event.invariant.count;
      room = c.push_reserved.ensures.capacity ∙ c.loop-event.invariant.room;
    }

pub returns-clause-ran : goal.returns-clause-ran
returns-clause-ran c =
    let all : c.loop-event.event-index ≡ length c.args.events.now = omega arith in
    let e : take c.loop-event.event-index c.args.events.now ≡ c.args.events.now = ap (λ n. take n c.args.events.now) all ∙ take-length c.args.events.now in
    let last : PRun = record { volume = c.loop-event.self; held = c.loop-event.held.items } in
    chain_ran c.args.events.now c.loop-event.answers.items c.args.self.now c.cancel_held.new.self last c.assert_invariant.ensures
    (subst (λ (es : List Event). Chain (begun c.args.self.now) es c.loop-event.answers.items last) e c.loop-event.invariant.chain)
    (c.cancel_held.ensures ∙ ap (λ (hs : List RunJob). ended (record { volume = c.loop-event.self; held = hs })) c.as_slice.ensures.value)

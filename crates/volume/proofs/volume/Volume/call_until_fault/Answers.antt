use Rattle.std.proofs.Common.{◌≡◌, ◌+◌, ◌<◌, ◌++◌, ◌∷◌, [], List, length, take, drop, arith, ap, sym, subst, ◌∙◌}
use Rattle.std.proofs.lemmas.List.{drop_more, take_more, take-append-drop}
use Rattle.reference.specs.declared.reply.Reply.{Reply}
use Rattle.volume.specs.Changes.{Called}
use Rattle.volume.specs.Transactions.{CalledUntil, DoesAll, Timed}
use Rattle.volume.proofs.Transacting.{does_more, fails_behind}
use Rattle.volume.proofs.volume.Volume.call_until_fault.Goals as goal

pub returns-in-Some-clause-fault : goal.returns-in-Some-clause-fault
returns-in-Some-clause-fault c =
    let calls : List Timed = c.args.calls.now in
    let i = c.loop-timed.timed-index in
    let one : Timed = c.timed-item.result in
    let h : i < length calls = omega arith in
    let all : take i calls ++ one ∷ drop (i + 1) calls ≡ calls =
    ap (λ (cs : List Timed). take i calls ++ cs) (ap (λ (x : Timed). x ∷ drop (i + 1) calls) c.timed-item.is ∙ sym (drop_more calls i one h)) ∙ take-append-drop i calls in
    subst (λ (cs : List Timed). CalledUntil cs c.loop-timed.replies.items c.in-Some.errno c.args.self.now) all
    (fails_behind (take i calls) c.loop-timed.replies.items one (drop (i + 1) calls) c.in-Some.errno c.args.self.now c.loop-timed.self c.call-reply.new.self c.loop-timed.invariant.all.called
    (subst (λ (r : Reply). Called one.0 one.1 r c.loop-timed.self c.call-reply.new.self) c.in-Some.ensures.fault c.call-reply.ensures))

pub loop-timed-preserved : goal.loop-timed-preserved
loop-timed-preserved c =
    let calls : List Timed = c.args.calls.now in
    let i = c.loop-timed.timed-index in
    let one : Timed = c.timed-item.result in
    let h : i < length calls = omega arith in
    let more : take i calls ++ one ∷ [] ≡ take (i + 1) calls = ap (λ (x : Timed). take i calls ++ x ∷ []) c.timed-item.is ∙ sym (take_more calls i one h) in
    record {
      all = subst (λ (rs : List Reply). DoesAll (take (i + 1) calls) rs c.args.self.now c.call-reply.new.self) (sym c.push_reserved.ensures.items)
          (subst (λ (cs : List Timed). DoesAll cs (c.loop-timed.replies.items ++ c.call-reply.result ∷ []) c.args.self.now c.call-reply.new.self) more
          (does_more (take i calls) c.loop-timed.replies.items one c.call-reply.result c.args.self.now c.loop-timed.self c.call-reply.new.self c.loop-timed.invariant.all c.call-reply.ensures c.in-None.ensures.success));
      count = c.push_reserved.ensures.len ∙ ap (λ n. n + 1) c.loop-timed.invariant.count;
      room = omega (arith, c.push_reserved.ensures.capacity, c.loop-timed.invariant.room);
    }

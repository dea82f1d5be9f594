use Rattle.std.proofs.Common.{◌≡◌, ◌+◌, ◌<◌, ◌++◌, ◌∷◌, [], ℕ, List, length, take, drop, arith, ap, sym, subst, ◌∙◌, append_assoc}
use Rattle.std.proofs.Math.Seq.{take-length}
use Rattle.std.proofs.lemmas.List.{drop_more, length-take-le, take_more, take-append-drop}
use Rattle.reference.specs.Worlds.{Ask, Replied}
use Rattle.reference.specs.declared.reply.Reply.{Reply}
use Rattle.volume.specs.Transactions.{Timed}
use Rattle.engine.specs.Histories.{Entry, entry, FitsAfter}
use Rattle.engine.specs.Lists.{entries}
use Rattle.engine.specs.Rule.{Seated}
use Rattle.engine.specs.declared.view.View.{View}
use Rattle.engine.proofs.Lists.{announced-more, entries-snoc, fits-next, replies-all}
use Rattle.engine.proofs.seat_sync.record_all.Goals as goal

pub bounds-replies-number : goal.bounds-replies-number
bounds-replies-number g c = omega (arith, replies-all c.args.calls.now c.args.replies.now c.requires.succeed)

pub record_call-recorded-requires-clause-fits : goal.record_call-recorded-requires-clause-fits
record_call-recorded-requires-clause-fits g c =
    let calls : List Timed = c.args.calls.now in
    let replies : List Reply = c.args.replies.now in
    let i = c.loop-number.number in
    let one : Timed = c.index-calls-number.result in
    let reply : Reply = c.index-replies-number.result in
    let h : i < length calls = omega arith in
    let k : i < length replies = omega (arith, replies-all calls replies c.requires.succeed) in
    let here : take i calls ++ one ∷ drop (i + 1) calls ≡ calls =
    ap (λ (cs : List Timed). take i calls ++ cs) (ap (λ (x : Timed). x ∷ drop (i + 1) calls) c.index-calls-number.is ∙ sym (drop_more calls i one h)) ∙ take-append-drop i calls in
    let there : take i replies ++ reply ∷ drop (i + 1) replies ≡ replies =
    ap (λ (rs : List Reply). take i replies ++ rs) (ap (λ (x : Reply). x ∷ drop (i + 1) replies) c.index-replies-number.is ∙ sym (drop_more replies i reply k)) ∙ take-append-drop i replies in
    subst (λ (l : List Entry). FitsAfter g.J.EngineId.opening l (Ask one.0 one.1) (Replied reply)) (sym c.loop-number.invariant.history)
    (fits-next g.J.EngineId.opening c.args.engine.now.me.0.history c.args.client.me.0.client calls (take i calls) (drop (i + 1) calls) replies (take i replies) (drop (i + 1) replies) one reply
    c.requires.fits here there (length-take-le i calls (omega (arith, h)) ∙ sym (length-take-le i replies (omega (arith, k)))))

pub loop-number-preserved : goal.loop-number-preserved
loop-number-preserved g c =
    let calls : List Timed = c.args.calls.now in
    let replies : List Reply = c.args.replies.now in
    let i = c.loop-number.number in
    let one : Timed = c.index-calls-number.result in
    let reply : Reply = c.index-replies-number.result in
    let who : ℕ = c.args.client.me.0.client in
    let was : List Entry = c.args.engine.now.me.0.history in
    let before = c.loop-number.invariant in
    let p = c.record_call-recorded.ensures in
    let now = ap (λ (m : Seated). m.0) c.announce.ensures.seat.1 in
    let number : c.announce.new.client.me.0.client ≡ c.loop-number.client.me.0.client = ap (λ (v : View). v.client) now in
    let count : c.announce.new.client.me.0.announced ≡ c.loop-number.client.me.0.announced + 1 = ap (λ (v : View). v.announced) now in
    let h : i < length calls = omega arith in
    let k : i < length replies = omega (arith, replies-all calls replies c.requires.succeed) in
    let more : take (i + 1) calls ≡ take i calls ++ one ∷ [] = take_more calls i one h ∙ ap (λ (x : Timed). take i calls ++ x ∷ []) (sym c.index-calls-number.is) in
    let told : take (i + 1) replies ≡ take i replies ++ reply ∷ [] = take_more replies i reply k ∙ ap (λ (x : Reply). take i replies ++ x ∷ []) (sym c.index-replies-number.is) in
    let last : List Entry = entry who (Ask one.0 one.1) (Replied reply) ∷ [] in
    let listed : entries who (take (i + 1) calls) (take (i + 1) replies) ≡ entries who (take i calls) (take i replies) ++ last =
    ap (λ (x : List Timed × List Reply). entries who x.0 x.1) (λ j. (more j, told j)) ∙ entries-snoc who (take i calls) (take i replies) one reply (length-take-le i calls (omega (arith, h)) ∙ sym (length-take-le i replies (omega (arith, k)))) in
    record {
      engine = p.engine;
      takings = p.takings ∙ before.takings;
      history = p.history ∙ ap (λ (x : List Entry × ℕ). x.0 ++ entry x.1 (Ask one.0 one.1) (Replied reply) ∷ []) (λ j. (before.history j, (number ∙ before.same) j))
          ∙ append_assoc was (entries who (take i calls) (take i replies)) last ∙ ap (λ (es : List Entry). was ++ es) (sym listed);
      client = p.client;
      same = p.seen.0 ∙ number ∙ before.same;
      more = omega (arith, p.seen.1, count, before.more);
      announced = announced-more c.loop-number.engine.me.0.history c.record_call-recorded.new.engine.me.0.history c.announce.new.client.me.0.client c.loop-number.client.me.0.client c.record_call-recorded.result.0.me.0.client
          (Ask one.0 one.1) (Replied reply) c.loop-number.client.me.0.announced c.record_call-recorded.result.0.me.0.announced before.announced p.history p.seen.0 number (p.seen.1 ∙ count);
      seen = p.seen.2;
      legal = p.seen.3;
    }

pub returns-clause-history : goal.returns-clause-history
returns-clause-history g c =
    let calls : List Timed = c.args.calls.now in
    let replies : List Reply = c.args.replies.now in
    let all : c.loop-number.number ≡ length calls = omega arith in
    let here : take c.loop-number.number calls ≡ calls = ap (λ n. take n calls) all ∙ take-length calls in
    let there : take c.loop-number.number replies ≡ replies =
    ap (λ n. take n replies) (all ∙ sym (replies-all calls replies c.requires.succeed)) ∙ take-length replies in
    c.loop-number.invariant.history ∙ ap (λ (x : List Timed × List Reply). c.args.engine.now.me.0.history ++ entries c.args.client.me.0.client x.0 x.1) (λ j. (here j, there j))

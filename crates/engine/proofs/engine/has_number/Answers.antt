use Rattle.std.proofs.Common.{◌≡◌, ◌+◌, ◌<◌, ◌++◌, ◌∷◌, [], List, length, take, drop, arith, ap, sym, subst, ◌∙◌}
use Rattle.std.proofs.Math.Seq.{take-length}
use Rattle.std.proofs.lemmas.List.{take-append-drop, take_more}
use Rattle.engine.specs.Clients.{Known}
use Rattle.engine.specs.Ends.{times_in}
use Rattle.engine.proofs.Totals.{none-snoc, some-there}
use Rattle.engine.proofs.engine.has_number.Goals as goal

pub returns-then-number-clause-has : goal.returns-then-number-clause-has
returns-then-number-clause-has g c = λ e.
    let clients : List Known = c.args.clients.now in
    let i = c.loop-client.client-index in
    let h : i < length clients = omega arith in
    let more : take (i + 1) clients ≡ take i clients ++ c.client-item.result ∷ [] =
    take_more clients i c.client-item.result h ∙ ap (λ (x : Known). take i clients ++ x ∷ []) (sym c.client-item.is) in
    let parts : clients ≡ (take i clients ++ c.client-item.result ∷ []) ++ drop (i + 1) clients =
    sym (take-append-drop (i + 1) clients) ∙ ap (λ (ks : List Known). ks ++ drop (i + 1) clients) more in
    some-there c.args.number clients (take i clients) (drop (i + 1) clients) c.client-item.result parts (sym c.if-number.true ∙ c.number.ensures.number)

pub loop-client-preserved : goal.loop-client-preserved
loop-client-preserved g c =
    let clients : List Known = c.args.clients.now in
    let i = c.loop-client.client-index in
    let h : i < length clients = omega arith in
    let more : take (i + 1) clients ≡ take i clients ++ c.client-item.result ∷ [] =
    take_more clients i c.client-item.result h ∙ ap (λ (x : Known). take i clients ++ x ∷ []) (sym c.client-item.is) in
    subst (λ (ks : List Known). times_in c.args.number ks ≡ 0) (sym more)
    (none-snoc c.args.number (take i clients) c.client-item.result c.loop-client.invariant (λ e. c.if-number.false (c.number.ensures.number ∙ sym e)))

pub returns-clause-lacks : goal.returns-clause-lacks
returns-clause-lacks g c = λ e.
    let all : c.loop-client.client-index ≡ length c.args.clients.now = omega arith in
    subst (λ (ks : List Known). times_in c.args.number ks ≡ 0) (ap (λ n. take n c.args.clients.now) all ∙ take-length c.args.clients.now) c.loop-client.invariant

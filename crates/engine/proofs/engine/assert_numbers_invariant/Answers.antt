use Rattle.std.proofs.Common.{◌≡◌, ◌+◌, ◌<◌, ◌++◌, ◌∷◌, [], List, length, take, arith, ap, sym, subst, ◌∙◌}
use Rattle.std.proofs.Math.Seq.{take-length}
use Rattle.std.proofs.lemmas.List.{take_more}
use Rattle.engine.specs.Clients.{Known}
use Rattle.engine.specs.Ends.{Within}
use Rattle.engine.proofs.Totals.{within-snoc}
use Rattle.engine.proofs.engine.assert_numbers_invariant.Goals as goal

pub loop-client-preserved : goal.loop-client-preserved
loop-client-preserved g c =
    let clients : List Known = c.args.clients.now in
    let i = c.loop-client.client-index in
    let h : i < length clients = omega arith in
    let e : take (i + 1) clients ≡ take i clients ++ c.client-item.result ∷ [] =
    take_more clients i c.client-item.result h ∙ ap (λ (x : Known). take i clients ++ x ∷ []) (sym c.client-item.is) in
    subst (λ (ks : List Known). Within g.J.EngineId.clients ks) (sym e) (within-snoc _ (take i clients) _ c.loop-client.invariant c.number.ensures.below)

pub returns : goal.returns
returns g c =
    let all : c.loop-client.client-index ≡ length c.args.clients.now = omega arith in
    subst (λ (ks : List Known). Within g.J.EngineId.clients ks) (ap (λ n. take n c.args.clients.now) all ∙ take-length c.args.clients.now) c.loop-client.invariant

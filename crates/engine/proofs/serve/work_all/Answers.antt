use denote.Param.{param}
use denote.Param.Send.{sendable}
use Rattle.std.proofs.Common.{◌≡◌, ℕ, ◌<◌, List, length, slice_index_or, subst, sym, ap, ◌∙◌, arith}
use Rattle.std.proofs.Crossing.{crosses}
use Rattle.engine.specs.Clients.{Known}
use Rattle.engine.proofs.Sent.{client_send}
use Rattle.engine.proofs.Totals.{fresh-at, fresh-length}
use Rattle.engine.proofs.serve.work_all.Goals as goal

pub for_each_mut-requires-send-T : goal.for_each_mut-requires-send-T
for_each_mut-requires-send-T g c = λ κs lives. let a = client_send (param 0 g.row.J) g.J.EngineId in search (sendable, crosses) depth 20

pub for_each_mut-requires-clause-accepts : goal.for_each_mut-requires-clause-accepts
for_each_mut-requires-clause-accepts g c = λ κs lives i p h e.
    let n : ℕ = g.J.EngineId.clients in
    let lt : i < n = subst (λ m. i < m) (ap length c.requires ∙ fresh-length n) h in
    e ∙ ap (λ (ks : List Known). slice_index_or ks i p.now) c.requires ∙ fresh-at n i p.now lt

pub returns : goal.returns
returns g c =
    let n : ℕ = g.J.EngineId.clients in
    let all : length c.args.clients.now ≡ n = ap length c.requires ∙ fresh-length n in
    record {
      count = omega (arith, all);
      each = λ i d lt.
          let k = (c.for_each_mut.ensures i d (subst (λ m. i < m) (sym all) lt)).1 in
          let before = k.argument_is ∙ ap (λ (ks : List Known). slice_index_or ks i d) c.requires ∙ fresh-at n i d lt in
          subst (λ (x : Known × Known). g.W.ClientTask.does c.args.run.now g.J.EngineId.opening x.0 x.1) (λ j. (before j, k.left j)) k.call;
    }

use Rattle.std.proofs.Common.{◌≡◌, ℕ, List, ◌∙◌, sym, subst}
use Rattle.engine.specs.Histories.{Entry}
use Rattle.engine.specs.Clients.{Known}
use Rattle.engine.specs.Seats.{Shows}
use Rattle.engine.specs.Ends.{AllAgree, EachOnce}
use Rattle.engine.proofs.Totals.{all_made}
use Rattle.engine.proofs.engine.Engine.close.Goals as goal

pub returns-clause-ends : goal.returns-clause-ends
returns-clause-ends g c =
    let s = c.assert_all_prefixes.ensures in
    let h = c.assert_all_prefixes.new.state in
    let ks : List Known = c.args.clients in
    let once : EachOnce c.args.self ks = c.has_all.ensures.all c.if-not-has_all.false in
    let n : c.args.self ≡ g.J.EngineId.clients = sym c.self.view_is ∙ c.self.invariant.0 in
    let all : AllAgree h ks = subst (λ (x : List Entry × List Known). AllAgree x.0 x.1) (λ i. (sym s.same i, c.into_list.ensures i)) s.agree in (
      once,
      record {
        history = h;
        legal = c.count.ensures.history.0;
        agree = all;
        length_is = c.count.ensures.count;
        all_made = all_made g.J.EngineId.clients h ks c.count.ensures.history.1 (subst (λ (x : ℕ). EachOnce x ks) n once) all;
        leaves = subst (λ (l : List Entry). Shows g.J.EngineId.opening l c.in-Ok.tree) (sym s.same) c.in-Ok.ensures;
      },
    )

use Rattle.std.proofs.Common.{◌≡◌, ℕ, List, ◌∙◌, sym, subst}
use Rattle.engine.specs.Clients.{Known}
use Rattle.engine.specs.Ends.{Within, HasEach, EachOnce, LacksOne}
use Rattle.engine.proofs.Totals.{each_once}
use Rattle.engine.proofs.engine.Engine.has_all.Goals as goal

pub returns-clause-all : goal.returns-clause-all
returns-clause-all g c = λ e.
    let ks : List Known = c.args.clients.now in
    let n : g.J.EngineId.clients ≡ c.args.self.now = sym c.self.invariant.0 ∙ c.self.view_is in
    let within : Within g.J.EngineId.clients ks = subst (λ (l : List Known). Within g.J.EngineId.clients l) c.as_slice-list.ensures c.assert_numbers_invariant.ensures in
    let has : HasEach g.J.EngineId.clients ks = subst (λ (x : ℕ × List Known). HasEach x.0 x.1) (λ i. (c.self.invariant.0 i, c.as_slice-list.ensures i)) (c.has_each.ensures.all e) in
    subst (λ (x : ℕ). EachOnce x ks) n (each_once g.J.EngineId.clients ks within has c.assert_count_invariant.ensures)

pub returns-clause-lacks : goal.returns-clause-lacks
returns-clause-lacks g c = λ e. subst (λ (x : ℕ × List Known). LacksOne x.0 x.1) (λ i. (c.self.view_is i, c.as_slice-list.ensures i)) (c.has_each.ensures.lacks e)

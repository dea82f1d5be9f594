use Rattle.std.proofs.Common.{arith, refl, sym, ◌∙◌}
use Rattle.pathkey.proofs.OrderFacts.{same_true}
use Rattle.change_log.proofs.change_log.position_of.Goals as goal

pub returns-then-eq : goal.returns-then-eq
returns-then-eq c =
    let p = c.position-item.result in
    (p, (c.loop-position.position-index, omega arith, sym c.position-item.is), same_true p.name c.args.name.now (sym c.eq.ensures ∙ c.if-eq.true), refl, refl)

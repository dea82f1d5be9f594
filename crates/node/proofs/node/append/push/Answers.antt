use Rattle.std.proofs.Common.{[], ◌∷◌, subst}
use Rattle.message.specs.Effects.{Takes}
use Rattle.node.proofs.node.append.push.Goals as goal

pub returns-clause-ok : goal.returns-clause-ok
returns-clause-ok g c = subst (λ ms. Takes g.U.Update.means ms (c.args.msg ∷ []) c.push_reserved.new.self.0) c.reserve.ensures.messages c.push_reserved.ensures.takes

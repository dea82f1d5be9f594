use Rattle.std.proofs.Common.{sym, ◌∙◌}
use Rattle.node.specs.See.{seen_slots}
use Rattle.node.proofs.Placing.{first_piece}
use Rattle.node.proofs.node.count.pieces_of_oldest.Goals as goal

pub returns-in-Some-clause-exact : goal.returns-in-Some-clause-exact
returns-in-Some-clause-exact g c = c.pieces_at.ensures.exact ∙ sym (first_piece c.args.list.now.0 c.in-Some.key.now (seen_slots c.args.slots.now) c.in-Some.ensures c.requires)

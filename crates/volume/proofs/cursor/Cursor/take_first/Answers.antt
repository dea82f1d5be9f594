use Rattle.std.proofs.Common.{◌∙◌, sym}
use Rattle.node.specs.Meaning.{value}
use Rattle.volume.proofs.Cursors.{given_none, stands_ended, stands_new}
use Rattle.volume.proofs.cursor.Cursor.take_first.Goals as goal

pub returns-in-Ok-None-clause-stands : goal.returns-in-Ok-None-clause-stands
returns-in-Ok-None-clause-stands g c =
    let f = value g.U.Update.means c.args.tree.now.root in
    let r = c.args.self.now.range in
    stands_ended f r c.args.self.now.first c.new.result.items (sym c.is_some.ensures ∙ c.if-is_some.false) c.new.ensures.items
    (given_none f r.lo r.hi c.in-Ok-None.field-0 _ _ c.in-Ok-None.field-0-is c.in-Ok-None.ensures.given)

pub returns-in-Err-clause-stands : goal.returns-in-Err-clause-stands
returns-in-Err-clause-stands g c =
    let f = value g.U.Update.means c.args.tree.now.root in
    stands_new f c.args.self.now.range c.args.self.now.first c.new-in-Err.result.all c.new-in-Err.result.pairs.items (sym c.is_some.ensures ∙ c.if-is_some.false) c.new-in-Err.ensures.1 c.new-in-Err.ensures.0

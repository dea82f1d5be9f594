use Rattle.std.proofs.Common.{◌++◌, ◌∷◌, [], ap, ◌∙◌}
use Rattle.node.specs.Meaning.{value as value_at}
use Rattle.pathkey.specs.Keys.{Key}
use Rattle.delta.proofs.DifferingFacts.{adds_other, adds_same}
use Rattle.delta.proofs.differing.add_key.Goals as goal

pub returns-then-branch : goal.returns-then-branch
returns-then-branch g c = adds_same g.U.Compare.alike (value_at g.U.Update.means c.args.old.now.root) (value_at g.U.Update.means c.args.new.now.root) c.args.key.now c.args.out.now.items (c.in_ok-is_same_at.ensures.yes c.if-branch.true)

pub returns : goal.returns
returns g c = adds_other g.U.Compare.alike (value_at g.U.Update.means c.args.old.now.root) (value_at g.U.Update.means c.args.new.now.root) c.args.key.now c.args.out.now.items c.push.new.self.items (c.in_ok-is_same_at.ensures.no c.if-branch.false)
    (c.in_ok-push.ensures.items ∙ ap (λ (k : Key). c.args.out.now.items ++ k ∷ []) c.in_ok-copy.ensures)

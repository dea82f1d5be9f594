use Rattle.std.proofs.Common.{◌∙◌, ap, sym, cond, Some, None, Bool}
use Rattle.node.proofs.LeafChanges.{is_edited, is_edited_away}
use Rattle.node.proofs.node.leaf.edit_entry.Goals as goal

pub returns-then-not-branch-clause-ok : goal.returns-then-not-branch-clause-ok
returns-then-not-branch-clause-ok g c = λ k entry.
    is_edited_away (g.U.Update.means c.args.update.now) k c.args.entries.now.items c.args.i c.index_mut.result.now c.apply_in_place.new.value entry c.requires.rising c.index_mut.ensures.value c.remove.new.self.items
    (sym (ap (λ (stays : Bool). cond stays (Some c.apply_in_place.new.value) None) c.if-not-branch.true) ∙ c.in_ok-apply_in_place.ensures.ok) c.remove.ensures.items

pub returns-else-not-branch-clause-ok : goal.returns-else-not-branch-clause-ok
returns-else-not-branch-clause-ok g c = λ k entry.
    is_edited (g.U.Update.means c.args.update.now) k c.args.entries.now.items c.args.i c.index_mut.result.now c.apply_in_place.new.value entry c.requires.rising c.index_mut.ensures.value
    (sym (ap (λ (stays : Bool). cond stays (Some c.apply_in_place.new.value) None) c.if-not-branch.false) ∙ c.in_ok-apply_in_place.ensures.ok)

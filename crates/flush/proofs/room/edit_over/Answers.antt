use Rattle.std.proofs.Common.{◌∙◌, ap, sym, cond, Some, None, Bool}
use Rattle.flush.proofs.PlaceChanges.{set_edited, set_edited_away}
use Rattle.flush.proofs.room.edit_over.Goals as goal

pub returns-then-stays-clause-some : goal.returns-then-stays-clause-some
returns-then-stays-clause-some g c = λ k e.
    set_edited k c.args.entries.now.items c.args.i c.index_mut.result.now c.apply_in_place.new.value e c.requires.rising c.index_mut.ensures.value (g.U.Update.means c.args.update.now)
    (sym (ap (λ (stays : Bool). cond stays (Some c.apply_in_place.new.value) None) c.if-stays.true) ∙ c.in-Ok.ensures.ok)

pub returns-clause-some : goal.returns-clause-some
returns-clause-some g c = λ k e.
    set_edited_away k c.args.entries.now.items c.args.i c.index_mut.result.now c.apply_in_place.new.value e c.requires.rising c.index_mut.ensures.value (g.U.Update.means c.args.update.now) c.remove.new.self.items
    (sym (ap (λ (stays : Bool). cond stays (Some c.apply_in_place.new.value) None) c.if-stays.false) ∙ c.in-Ok.ensures.ok) c.remove.ensures.items

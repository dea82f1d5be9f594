use Rattle.std.proofs.Common.{sym, ◌∙◌, subst, length, ◌<◌}
use Rattle.std.specs.Prelude.{◌⊎◌}
use Rattle.message.proofs.Results.{done}
use Rattle.flush.specs.Leaf.{AddsNone}
use Rattle.node.proofs.Roots.{when_err}
use Rattle.flush.proofs.LeafFlush.{stays_within}
use Rattle.flush.proofs.room.apply_within.Goals as goal

pub returns-clause-applied : goal.returns-clause-applied
returns-clause-applied g c = λ t. done c.apply.result (sym c.is_ok.ensures.value ∙ t) c.apply.ensures.ok

pub returns-clause-few : goal.returns-clause-few
returns-clause-few g c = λ t.
    let es = c.args.entries.now.items in
    let room : (length es < c.args.most) ⊎ AddsNone g.U.Update.means es c.args.msg.now = subst (λ z. (length z < c.args.most) ⊎ AddsNone g.U.Update.means z c.args.msg.now) c.as_slice.ensures.value (c.has_room.ensures c.if-not-has_room.false c.args.msg.now (sym c.created_key.ensures)) in
    stays_within g.U.Update.means c.args.most c.args.msg.now es c.apply.new.entries.items c.requires (done c.apply.result (sym c.is_ok.ensures.value ∙ t) c.apply.ensures.ok) room

pub returns-clause-same : goal.returns-clause-same
returns-clause-same g c = λ f. when_err c.apply.result (sym c.is_ok.ensures.value ∙ f) c.apply.ensures.err

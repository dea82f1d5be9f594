use Rattle.std.proofs.Common.{◌≡◌, ap, sym, ◌∙◌, subst, false, [], ◌∷◌, ◌++◌}
use Rattle.pathkey.specs.Keys.{is_below}
use Rattle.message.specs.Effects.{Takes}
use Rattle.message.specs.declared.msg.Msg.TheVariants as msg
use Rattle.pending.specs.SortedMsgs.{sorted_msgs}
use Rattle.pending.proofs.Coming.{inserts_none, takes_range, takes_empty, takes_cleared}
use Rattle.pending.proofs.insert.del_range.Goals as goal

pub returns-then-not-is_before_end-clause-takes : goal.returns-then-not-is_before_end-clause-takes
returns-then-not-is_before_end-clause-takes g c =
    let empty : is_below c.args.range.lo c.args.range.hi ≡ false = sym (c.is_before_end.ensures ∙ ap (λ h. is_below c.args.range.lo h) c.as_ref.ensures.value) ∙ c.if-not-is_before_end.true in
    takes_empty g.U.Update.means c.args.range _ empty

pub returns-in_default-clause-refused : goal.returns-in_default-clause-refused
returns-in_default-clause-refused g c = inserts_none g.U.Update.means (msg.DelRange c.args.range) (sorted_msgs c.args.ranges.now c.args.points.now) (sorted_msgs c.args.ranges.now c.clear.new.self) (ap (λ es. sorted_msgs c.args.ranges.now es) c.in_default.ensures.err)

pub returns-in_default-insert-clause-refused : goal.returns-in_default-insert-clause-refused
returns-in_default-insert-clause-refused g c =
    let rs = c.args.ranges.now in
    let es = c.args.points.now in
    let fs = c.clear.new.self in
    let means = g.U.Update.means in
    let m = msg.DelRange c.args.range in
    let same = sym (ap (λ t. sorted_msgs t fs ++ m ∷ []) c.in_default-insert.ensures.err) in
    subst (λ t. Takes means (sorted_msgs rs es) (m ∷ []) t) same (takes_cleared means rs es fs c.args.range c.assert_invariant.ensures.rises c.assert_invariant-2.ensures.rises c.assert_invariant.ensures.runs c.in-Ok.ensures.ok c.clear.ensures.bound)

pub returns-clause-takes : goal.returns-clause-takes
returns-clause-takes g c = takes_range g.U.Update.means c.args.ranges.now c.insert.new.self c.args.points.now c.clear.new.self c.args.range c.assert_invariant.ensures.rises c.assert_invariant-2.ensures.rises c.assert_invariant.ensures.runs c.in-Ok-insert.ensures.covers c.in-Ok-insert.ensures.bound c.in-Ok.ensures.ok c.clear.ensures.bound

-- For each form of message: the entries that it makes, and that they rise.
use Rattle.node.proofs.Applying.{applied_put, applied_del, applied_del_range, applied_edit, rising_applied, rising_after}
use Rattle.std.proofs.Common.{◌∷◌, []}
use Rattle.std.proofs.lemmas.Result.{on_ok_weaker}
use Rattle.node.proofs.node.leaf.apply.Goals as goal

pub returns-in_ok-value-in-Put-clause-ok : goal.returns-in_ok-value-in-Put-clause-ok
returns-in_ok-value-in-Put-clause-ok g c = on_ok_weaker c.set.result (applied_put g.U.Update.means c.args.msg.now c.in-Put.key c.in-Put.value c.in_ok-value-in-Put.value c.args.entries.now.items c.set.new.entries.items c.in-Put.is c.in_ok-value-in-Put.ensures) c.set.ensures.ok

pub returns-in-Del-clause-ok : goal.returns-in-Del-clause-ok
returns-in-Del-clause-ok g c = on_ok_weaker c.set-in-Del.result (applied_del g.U.Update.means c.args.msg.now c.in-Del.key c.args.entries.now.items c.set-in-Del.new.entries.items c.in-Del.is) c.set-in-Del.ensures.ok

pub returns-in-DelRange-clause-ok : goal.returns-in-DelRange-clause-ok
returns-in-DelRange-clause-ok g c = applied_del_range g.U.Update.means c.args.msg.now c.in-DelRange.range c.args.entries.now.items c.clear.new.entries.items c.in-DelRange.is c.clear.ensures

pub returns-in-Edit-clause-ok : goal.returns-in-Edit-clause-ok
returns-in-Edit-clause-ok g c = on_ok_weaker c.edit.result (applied_edit g.U.Update.means c.args.msg.now c.in-Edit.key c.in-Edit.update c.args.entries.now.items c.edit.new.entries.items c.in-Edit.is) c.edit.ensures.ok

pub returns-in_ok-value-in-Put-clause-rising : goal.returns-in_ok-value-in-Put-clause-rising
returns-in_ok-value-in-Put-clause-rising g c = rising_after g.U.Update.means c.set.result c.args.msg.now c.args.entries.now.items c.set.new.entries.items (returns-in_ok-value-in-Put-clause-ok g c) c.set.ensures.err c.requires

pub returns-in-Del-clause-rising : goal.returns-in-Del-clause-rising
returns-in-Del-clause-rising g c = rising_after g.U.Update.means c.set-in-Del.result c.args.msg.now c.args.entries.now.items c.set-in-Del.new.entries.items (returns-in-Del-clause-ok g c) c.set-in-Del.ensures.err c.requires

pub returns-in-DelRange-clause-rising : goal.returns-in-DelRange-clause-rising
returns-in-DelRange-clause-rising g c = rising_applied g.U.Update.means (c.args.msg.now ∷ []) c.args.entries.now.items c.clear.new.entries.items (returns-in-DelRange-clause-ok g c) c.requires

pub returns-in-Edit-clause-rising : goal.returns-in-Edit-clause-rising
returns-in-Edit-clause-rising g c = rising_after g.U.Update.means c.edit.result c.args.msg.now c.args.entries.now.items c.edit.new.entries.items (returns-in-Edit-clause-ok g c) c.edit.ensures.err c.requires

use Rattle.std.proofs.Common.{refl, ap, ◌∙◌}
use Rattle.node.specs.Meaning.{value}
use Rattle.pathkey.specs.Keys.{next_key}
use Rattle.pathkey.proofs.KeyOrder.{reaches-refl}
use Rattle.message.specs.Ranges.{reaches}
use Rattle.scan.proofs.AtHand.{ahead_none, given_first, given_ahead}
use Rattle.call_compiler.proofs.Walking.{walk_starts, walk_ends, always_below, walk_goes_on}
use Rattle.call_compiler.proofs.subtrees.rekeyed_msgs.Goals as goal

pub pairs-init : goal.pairs-init
pairs-init g c = record {
  walked = walk_starts (value g.U.Update.means c.args.tree.now.root) c.args.old.now c.args.new.now c.args.first.items c.in_ok-rest.rest c.args.first.items c.in_ok-rest.ensures refl;
  ahead = ahead_none (value g.U.Update.means c.args.tree.now.root) c.in_ok-rest.rest.lo c.in_ok-rest.rest.hi c.new-pieces.result.all c.new-pieces.result.pairs.items c.new-pieces.ensures.1 c.new-pieces.ensures.0;
}

pub returns-in_default-2 : goal.returns-in_default-2
returns-in_default-2 g c = absurd
    (always_below (value g.U.Update.means c.args.tree.now.root) c.args.old.now c.args.new.now c.args.first.items c.pairs.rest c.pairs.msgs.items c.pairs.invariant.walked
    c.in_ok-key.field-0 (c.in-Some.key, c.in-Some.value) c.in-Some.is (given_first (value g.U.Update.means c.args.tree.now.root) c.pairs.rest.lo c.pairs.rest.hi c.in_ok-key.field-0 c.first.new.self.all c.first.new.self.pairs.items c.in_ok-key.ensures.given) c.in_ok-moved.field-0 c.in_ok-moved.ensures c.in_default-2.is)

pub pairs-preserved : goal.pairs-preserved
pairs-preserved g c =
    record {
      walked = walk_goes_on (value g.U.Update.means c.args.tree.now.root) c.args.old.now c.args.new.now c.args.first.items c.pairs.rest c.pairs.msgs.items c.pairs.invariant.walked
          c.in_ok-key.field-0 (c.in-Some.key, c.in-Some.value) c.in-Some.is (given_first (value g.U.Update.means c.args.tree.now.root) c.pairs.rest.lo c.pairs.rest.hi c.in_ok-key.field-0 c.first.new.self.all c.first.new.self.pairs.items c.in_ok-key.ensures.given) c.in_ok-moved.field-0 c.in-Some-2.moved c.in_ok-moved.ensures c.in-Some-2.is
          c.in_ok-rest-2.field-0 c.in_ok-rest-2.ensures c.push.new.self.items c.in_ok-push.ensures.items;
      ahead = given_ahead (value g.U.Update.means c.args.tree.now.root) c.pairs.rest.lo c.pairs.rest.hi c.in_ok-key.field-0 (c.in-Some.key, c.in-Some.value) c.first.new.self.all c.first.new.self.pairs.items c.in-Some.is c.in_ok-key.ensures.given
          c.in_ok-rest-2.field-0 (ap (reaches (next_key c.in-Some.key)) c.in_ok-rest-2.ensures ∙ reaches-refl (next_key c.in-Some.key));
    }

pub returns : goal.returns
returns g c = walk_ends (value g.U.Update.means c.args.tree.now.root) c.args.old.now c.args.new.now c.args.first.items c.pairs.rest c.pairs.msgs.items c.pairs.invariant.walked c.in_ok-key.field-0 c.in_default.is (given_first (value g.U.Update.means c.args.tree.now.root) c.pairs.rest.lo c.pairs.rest.hi c.in_ok-key.field-0 c.first.new.self.all c.first.new.self.pairs.items c.in_ok-key.ensures.given)

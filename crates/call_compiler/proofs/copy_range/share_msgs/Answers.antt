use Rattle.std.proofs.Common.{arith, ◌≤◌, ◌<◌, ◌+◌, ◌∙◌, length, ap}
use Rattle.std.proofs.lemmas.List.{length-append}
use Rattle.block_index.specs.Means.{blocks}
use Rattle.message.specs.Ranges.{reaches}
use Rattle.pathkey.specs.Keys.{block_key, next_key}
use Rattle.pathkey.specs.declared.range.KeyRange.{KeyRange}
use Rattle.pathkey.proofs.KeyOrder.{reaches-refl}
use Rattle.scan.proofs.AtHand.{ahead_none, given_first, given_ahead}
use Rattle.call_compiler.proofs.HoleBlocks.{one_takes}
use Rattle.call_compiler.proofs.OnHoles.{own_blocks}
use Rattle.call_compiler.proofs.Sharing.{found_first, found_none, share_ends, share_goes_on, share_starts, share_within, takes_none}
use Rattle.call_compiler.proofs.copy_range.share_msgs.Goals as goal

pub pairs-init : goal.pairs-init
pairs-init c = record {
  order = (omega arith, omega arith);
  end = ap (λ (r : KeyRange). r.hi) c.in_ok-rest.ensures;
  ahead = ahead_none (blocks c.args.index.now) c.in_ok-rest.rest.lo c.in_ok-rest.rest.hi c.new-stored.result.all c.new-stored.result.pairs.items c.new-stored.ensures.1 c.new-stored.ensures.0;
  few = omega (arith, one_takes c.args.to.now c.args.target (c.args.target + c.args.count) c.in_ok-msgs.msgs.items c.in_ok-msgs.ensures);
  none = takes_none c.args.to.now c.args.target c.args.count c.in_ok-msgs.msgs.items c.in_ok-msgs.ensures;
  shared = λ u means. share_starts (blocks c.args.index.now) c.args.from.now c.args.to.now c.key-from_key.ensures.valid c.key-to_key.ensures.valid c.args.source c.args.target c.args.count c.requires.short.0 c.requires.short.1
      c.in_ok-msgs.msgs.items (own_blocks u (blocks c.args.index.now) c.args.to.now c.key-to_key.ensures.valid means) c.in_ok-msgs.ensures c.in_ok-rest.rest.lo (ap (λ (r : KeyRange). r.lo) c.in_ok-rest.ensures);
}

pub returns-then-not-is_between-clause-shared : goal.returns-then-not-is_between-clause-shared
returns-then-not-is_between-clause-shared c = λ u means. absurd
    (share_within (blocks c.args.index.now) c.args.from.now c.args.to.now c.key-from_key.ensures.valid c.key-to_key.ensures.valid c.args.source c.args.target c.args.count c.requires.short.0 c.requires.short.1
    c.pairs.rest.lo c.pairs.next c.pairs.msgs.items (c.pairs.invariant.shared u means) c.pairs.invariant.order.0 c.pairs.invariant.order.1
    (own_blocks u (blocks c.args.index.now) c.args.from.now c.key-from_key.ensures.valid means) c.in-Some.key c.in-Some.block
    (found_first (blocks c.args.index.now) c.pairs.rest.lo c.pairs.rest.hi (block_key c.args.from.now (c.args.source + c.args.count)) c.pairs.invariant.end c.in_ok-key.field-0 (c.in-Some.key, c.in-Some.block) c.in-Some.is
    (given_first (blocks c.args.index.now) c.pairs.rest.lo c.pairs.rest.hi c.in_ok-key.field-0 c.first.new.self.all c.first.new.self.pairs.items c.in_ok-key.ensures.given))
    c.block_number-number.result c.block_number-number.ensures (c.is_between.ensures.no c.if-not-is_between.true))

pub returns-then-not-is_between-clause-few : goal.returns-then-not-is_between-clause-few
returns-then-not-is_between-clause-few c = omega (arith, c.pairs.invariant.few, c.pairs.invariant.order.1)

pub returns-then-not-is_between-clause-none : goal.returns-then-not-is_between-clause-none
returns-then-not-is_between-clause-none c = c.pairs.invariant.none

pub overflow_sub-number : goal.overflow_sub-number
overflow_sub-number c = omega (arith, c.pairs.invariant.order.0, (c.is_between.ensures.yes c.if-not-is_between.false).0)

pub overflow_add-target-in-Some : goal.overflow_add-target-in-Some
overflow_add-target-in-Some c = omega (arith, c.requires.short.1, c.pairs.invariant.order.0, (c.is_between.ensures.yes c.if-not-is_between.false).0, (c.is_between.ensures.yes c.if-not-is_between.false).1)

pub overflow_add-next : goal.overflow_add-next
overflow_add-next c = omega (arith, c.requires.short.0, (c.is_between.ensures.yes c.if-not-is_between.false).1)

pub pairs-smaller : goal.pairs-smaller
pairs-smaller c = omega (arith, c.pairs.invariant.order.1, (c.is_between.ensures.yes c.if-not-is_between.false).0, (c.is_between.ensures.yes c.if-not-is_between.false).1)

pub pairs-preserved : goal.pairs-preserved
pairs-preserved c =
    let low : c.pairs.next ≤ c.block_number-number.result = (c.is_between.ensures.yes c.if-not-is_between.false).0 in
    let high : c.block_number-number.result < c.args.source + c.args.count = (c.is_between.ensures.yes c.if-not-is_between.false).1 in
    record {
      order = (omega (arith, low, c.pairs.invariant.order.0), omega (arith, high));
      end = c.pairs.invariant.end;
      ahead = given_ahead (blocks c.args.index.now) c.pairs.rest.lo c.pairs.rest.hi c.in_ok-key.field-0 (c.in-Some.key, c.in-Some.block) c.first.new.self.all c.first.new.self.pairs.items c.in-Some.is c.in_ok-key.ensures.given
          c.in_ok-rest-2.field-0 (ap (reaches (next_key c.in-Some.key)) c.in_ok-rest-2.ensures ∙ reaches-refl (next_key c.in-Some.key));
      few = omega (arith, low, c.pairs.invariant.few, ap length c.in_ok-push.ensures.items ∙ length-append c.pairs.msgs.items _);
      none = λ e. absurd (omega (arith, e, low, high, c.pairs.invariant.order.0));
      shared = λ u means.
          share_goes_on (blocks c.args.index.now) c.args.from.now c.args.to.now c.key-from_key.ensures.valid c.key-to_key.ensures.valid c.args.source c.args.target c.args.count c.requires.short.0 c.requires.short.1
          c.pairs.rest.lo c.pairs.next c.pairs.msgs.items (c.pairs.invariant.shared u means) c.pairs.invariant.order.0 c.pairs.invariant.order.1
          (own_blocks u (blocks c.args.index.now) c.args.from.now c.key-from_key.ensures.valid means) c.in-Some.key c.in-Some.block
          (found_first (blocks c.args.index.now) c.pairs.rest.lo c.pairs.rest.hi (block_key c.args.from.now (c.args.source + c.args.count)) c.pairs.invariant.end c.in_ok-key.field-0 (c.in-Some.key, c.in-Some.block) c.in-Some.is
          (given_first (blocks c.args.index.now) c.pairs.rest.lo c.pairs.rest.hi c.in_ok-key.field-0 c.first.new.self.all c.first.new.self.pairs.items c.in_ok-key.ensures.given))
          c.block_number-number.result c.block_number-number.ensures c.in_ok-put.put c.in_ok-put.ensures c.in_ok-rest-2.field-0 c.in_ok-rest-2.ensures c.push.new.self.items c.in_ok-push.ensures.items;
    }

pub returns-clause-shared : goal.returns-clause-shared
returns-clause-shared c = λ u means.
    share_ends (blocks c.args.index.now) c.args.from.now c.args.to.now c.key-from_key.ensures.valid c.key-to_key.ensures.valid c.args.source c.args.target c.args.count c.requires.short.0 c.requires.short.1
    c.pairs.rest.lo c.pairs.next c.pairs.msgs.items (c.pairs.invariant.shared u means) c.pairs.invariant.order.0 c.pairs.invariant.order.1
    (found_none (blocks c.args.index.now) c.pairs.rest.lo c.pairs.rest.hi (block_key c.args.from.now (c.args.source + c.args.count)) c.pairs.invariant.end c.in_ok-key.field-0 c.in_default.is
    (given_first (blocks c.args.index.now) c.pairs.rest.lo c.pairs.rest.hi c.in_ok-key.field-0 c.first.new.self.all c.first.new.self.pairs.items c.in_ok-key.ensures.given))

pub returns-clause-few : goal.returns-clause-few
returns-clause-few c = omega (arith, c.pairs.invariant.few, c.pairs.invariant.order.1)

pub returns-clause-none : goal.returns-clause-none
returns-clause-none c = c.pairs.invariant.none

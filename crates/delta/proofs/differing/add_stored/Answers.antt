use Rattle.std.proofs.Common.{ap, subst, sym}
use Rattle.node.specs.Meaning.{value as value_at}
use Rattle.pathkey.specs.Keys.{Key}
use Rattle.pathkey.specs.declared.range.KeyRange.{KeyRange}
use Rattle.scan.specs.Pairs.{AreAhead, IsGiven}
use Rattle.scan.proofs.AtHand.{ahead_none}
use Rattle.delta.proofs.DifferingFacts.{Passed, ahead_next, passed_end, passed_on, passed_start}
use Rattle.delta.proofs.differing.add_stored.Goals as goal

pub first-requires : goal.first-requires
first-requires g c = ahead_none (value_at g.U.Update.means c.args.tree.now.root) c.in_ok-rest.rest.lo c.in_ok-rest.rest.hi c.new-pieces.result.all c.new-pieces.result.pairs.items c.new-pieces.ensures.1 c.new-pieces.ensures.0

pub loop-init : goal.loop-init
loop-init g c = record {
  passed = passed_start g.U.Compare.alike (value_at g.U.Update.means c.args.old.now.root) (value_at g.U.Update.means c.args.new.now.root) (value_at g.U.Update.means c.args.tree.now.root) c.args.range.now c.in_ok-rest.rest.lo c.args.out.now.items (ap (λ (r : KeyRange). r.lo) c.in_ok-rest.ensures);
  given = c.in_ok-next.ensures.given;
  end = ap (λ (r : KeyRange). r.hi) c.in_ok-rest.ensures;
}

pub returns-in_default : goal.returns-in_default
returns-in_default g c =
    let f = value_at g.U.Update.means c.args.tree.now.root in
    passed_end g.U.Compare.alike (value_at g.U.Update.means c.args.old.now.root) (value_at g.U.Update.means c.args.new.now.root) f c.args.range.now c.loop.rest.lo c.loop.rest.hi c.args.out.now.items c.loop.out.items c.loop.invariant.end
    (subst (λ o. IsGiven f c.loop.rest.lo c.loop.rest.hi o c.loop.pieces.all c.loop.pieces.pairs.items) c.in_default.is c.loop.invariant.given)
    c.loop.invariant.passed

pub first-requires-in-loop : goal.first-requires-in-loop
first-requires-in-loop g c =
    let f = value_at g.U.Update.means c.args.tree.now.root in
    subst (λ (k : Key). AreAhead f k c.loop.rest.hi c.loop.pieces.all c.loop.pieces.pairs.items) (sym c.in_ok-rest-2.ensures)
    (ahead_next g.U.Compare.alike f f f c.args.range.now c.loop.rest.lo c.loop.rest.hi (c.in-Some.key, c.in-Some.field-0-1) c.loop.pieces.all c.loop.pieces.pairs.items
    (subst (λ o. IsGiven f c.loop.rest.lo c.loop.rest.hi o c.loop.pieces.all c.loop.pieces.pairs.items) c.in-Some.is c.loop.invariant.given))

pub loop-preserved : goal.loop-preserved
loop-preserved g c =
    let f = value_at g.U.Update.means c.args.tree.now.root in
    let i = value_at g.U.Update.means c.args.old.now.root in
    let j = value_at g.U.Update.means c.args.new.now.root in
    record {
      passed = subst (λ (k : Key). Passed g.U.Compare.alike i j f c.args.range.now k c.args.out.now.items c.add_key.new.out.items) (sym c.in_ok-rest-2.ensures)
          (passed_on g.U.Compare.alike i j f c.args.range.now c.loop.rest.lo c.loop.rest.hi (c.in-Some.key, c.in-Some.field-0-1) c.args.out.now.items c.loop.out.items c.add_key.new.out.items
          (subst (λ o. IsGiven f c.loop.rest.lo c.loop.rest.hi o c.loop.pieces.all c.loop.pieces.pairs.items) c.in-Some.is c.loop.invariant.given).0 c.in_ok-add_key.ensures c.loop.invariant.passed);
      given = c.in_ok-next-2.ensures.given;
      end = c.loop.invariant.end;
    }

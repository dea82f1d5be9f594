use Rattle.std.proofs.Common.{refl, subst, Bool}
use Rattle.delta.specs.Walks.{Refills, TakesPart}
use Rattle.delta.proofs.WalkFacts.{line_ends, line_goes_on, line_is_last, line_starts, no_items, some_items}
use Rattle.delta.proofs.line_cursor.LineCursor.gather.Goals as goal

pub loop-init : goal.loop-init
loop-init c = line_starts c.args.self.now c.requires

pub returns-then-branch : goal.returns-then-branch
returns-then-branch c =
    let took = subst (λ (b : Bool). TakesPart b c.loop.self c.take_part.new.self) c.if-branch.true c.in_ok-take_part.ensures in
    line_ends c.args.self.now c.loop.self c.take_part.new.self _ c.loop.invariant took c.take_part.new.self.free refl refl refl refl

pub returns-then-not-branch : goal.returns-then-not-branch
returns-then-not-branch c =
    let took = subst (λ (b : Bool). TakesPart b c.loop.self c.take_part.new.self) c.if-branch.false c.in_ok-take_part.ensures in
    let filled = subst (λ (b : Bool). Refills b c.take_part.new.self c.refill.new.self) c.if-not-branch.true c.in_ok-refill.ensures in
    line_is_last c.args.self.now c.loop.self c.take_part.new.self c.refill.new.self _ c.loop.invariant took filled c.refill.new.self.free refl refl refl (some_items _ _ c.is_empty.result c.is_empty.ensures c.refill.new.self.line.ok.0) (no_items _ _ c.is_empty.result c.is_empty.ensures c.refill.new.self.line.ok.0)

pub loop-preserved : goal.loop-preserved
loop-preserved c =
    let took = subst (λ (b : Bool). TakesPart b c.loop.self c.take_part.new.self) c.if-branch.false c.in_ok-take_part.ensures in
    line_goes_on c.args.self.now c.loop.self c.take_part.new.self c.refill.new.self _ c.loop.invariant took c.in_ok-refill.ensures

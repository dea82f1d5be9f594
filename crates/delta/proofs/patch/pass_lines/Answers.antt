use Rattle.std.proofs.Common.{[], ◌∷◌, ◌++◌, refl, arith, length-append}
use Rattle.delta.proofs.WalkFacts.{ended_short, walks_more, walks_none}
use Rattle.delta.proofs.patch.pass_lines.Goals as goal

pub loop-init : goal.loop-init
loop-init c = ([], refl, walks_none c.args.walk.now)

pub returns-then-is_at_end-clause-no_image : goal.returns-then-is_at_end-clause-no_image
returns-then-is_at_end-clause-no_image c = λ t m e.
    let (gone, size, walks) = c.loop.invariant in
    ended_short gone t c.args.walk.now c.loop.walk c.loop.counter c.args.count walks size (c.is_at_end.ensures.end c.if-is_at_end.true) m c.loop-test.true

pub loop-preserved : goal.loop-preserved
loop-preserved c =
    let (gone, size, walks) = c.loop.invariant in
    let line = c.loop.walk.line.items in
    (gone ++ line ∷ [], omega (arith, size, length-append gone (line ∷ [])), walks_more gone line c.args.walk.now c.loop.walk c.step.new.self walks (rw c.in_default.is at c.step.ensures))

pub returns-clause-ok : goal.returns-clause-ok
returns-clause-ok c =
    let (gone, size, walks) = c.loop.invariant in
    (gone, omega (arith, size, c.loop.auto.counter-end, c.loop-test.false), walks)

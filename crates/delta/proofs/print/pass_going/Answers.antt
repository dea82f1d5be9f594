use Rattle.std.proofs.Common.{[], ◌∷◌, ◌++◌, refl, arith, length-append}
use Rattle.delta.proofs.PrintFacts.{patches_going}
use Rattle.delta.proofs.WalkFacts.{walks_more, walks_none}
use Rattle.delta.proofs.print.pass_going.Goals as goal

pub loop-count-init : goal.loop-count-init
loop-count-init c = ([], refl, walks_none c.args.old.now)

pub returns-then-not-is_deleted-clause-patches : goal.returns-then-not-is_deleted-clause-patches
returns-then-not-is_deleted-clause-patches c =
    let (gone, size, olds) = c.loop-count.invariant in
    patches_going c.loop-count.count gone c.args.old.now c.args.new.now c.loop-count.old size olds

pub loop-count-preserved : goal.loop-count-preserved
loop-count-preserved c =
    let (gone, size, olds) = c.loop-count.invariant in
    let line = c.loop-count.old.line.items in
    (gone ++ line ∷ [], omega (arith, size, length-append gone (line ∷ [])), walks_more gone line c.args.old.now c.loop-count.old c.step.new.self olds c.in_ok-step.ensures)

pub returns-clause-patches : goal.returns-clause-patches
returns-clause-patches c =
    let (gone, size, olds) = c.loop-count.invariant in
    patches_going 18446744073709551615 gone c.args.old.now c.args.new.now c.loop-count.old (omega (arith, size, c.loop-count.auto.count-end, c.loop-count-test.false)) olds

use Rattle.std.proofs.Common.{[], ◌∷◌, ◌++◌, refl, arith, length-append, subst}
use Rattle.delta.specs.Walks.{Walks}
use Rattle.delta.proofs.PrintFacts.{patches_same}
use Rattle.delta.proofs.WalkFacts.{walks_more, walks_none}
use Rattle.delta.proofs.print.pass_same.Goals as goal

pub loop-count-init : goal.loop-count-init
loop-count-init c = ([], refl, walks_none c.args.old.now, walks_none c.args.new.now)

pub returns-then-not-is_same-clause-patches : goal.returns-then-not-is_same-clause-patches
returns-then-not-is_same-clause-patches c =
    let (kept, size, olds, news) = c.loop-count.invariant in
    patches_same c.loop-count.count kept c.args.old.now c.args.new.now c.loop-count.old c.loop-count.new size olds news

pub loop-count-preserved : goal.loop-count-preserved
loop-count-preserved c =
    let (kept, size, olds, news) = c.loop-count.invariant in
    let line = c.loop-count.old.line.items in
    let same = c.is_same.ensures.line c.if-not-is_same.false in (
      kept ++ line ∷ [],
      omega (arith, size, length-append kept (line ∷ [])),
      walks_more kept line c.args.old.now c.loop-count.old c.step.new.self olds c.in_ok-step.ensures,
      walks_more kept line c.args.new.now c.loop-count.new c.step-in-loop-count.new.self news (subst (λ l. Walks (l ∷ []) c.loop-count.new c.step-in-loop-count.new.self) same c.in_ok-step-2.ensures),
    )

pub returns-clause-patches : goal.returns-clause-patches
returns-clause-patches c =
    let (kept, size, olds, news) = c.loop-count.invariant in
    patches_same 18446744073709551615 kept c.args.old.now c.args.new.now c.loop-count.old c.loop-count.new (omega (arith, size, c.loop-count.auto.count-end, c.loop-count-test.false)) olds news

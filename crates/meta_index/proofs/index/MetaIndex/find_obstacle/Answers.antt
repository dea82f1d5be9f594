use Rattle.std.proofs.Common.{subst, sym, ◌∙◌, Option}
use Rattle.pathkey.specs.Names.{Path}
use Rattle.meta_index.specs.Means.{Decides}
use Rattle.meta_index.proofs.Climbing.{decided, height_falls, parent_decides, parent_decides_for}
use Rattle.meta_index.proofs.index.MetaIndex.find_obstacle.Goals as goal

pub climb-init : goal.climb-init
climb-init c = subst (λ (a : Option Path). Decides c.args.self.now c.args.path.now a) (sym c.in_ok-ancestor.ensures) (parent_decides c.args.self.now c.args.path.now)

pub climb-smaller : goal.climb-smaller
climb-smaller c =
    height_falls c.in_ok-ancestor-2.ancestor c.climb.ancestor c.in-Some.above c.in_ok-ancestor-2.ensures c.in-Some.is

pub climb-preserved : goal.climb-preserved
climb-preserved c =
    let none = sym c.in_default-2.is ∙ c.in_ok-meta.ensures.value in
    let here = subst (λ (a : Option Path). Decides c.args.self.now c.args.path.now a) c.in-Some.is c.climb.invariant in
    subst (λ (a : Option Path). Decides c.args.self.now c.args.path.now a) (sym c.in_ok-ancestor-2.ensures)
    (parent_decides_for c.args.self.now c.args.path.now c.in-Some.above c.in_ok-meta.ensures.valid none here)

pub returns-in-Some-2-clause-reported : goal.returns-in-Some-2-clause-reported
returns-in-Some-2-clause-reported c =
    let some = sym c.in-Some-2.is ∙ c.in_ok-meta.ensures.value in
    let here = subst (λ (a : Option Path). Decides c.args.self.now c.args.path.now a) c.in-Some.is c.climb.invariant in
    decided c.args.self.now c.args.path.now c.in-Some.above c.in-Some-2.meta c.below.result c.in_ok-meta.ensures.valid some here c.below.ensures.reported

use Rattle.std.proofs.Common.{◌≡◌, ap, sym, ◌∙◌, subst, drop}
use Rattle.cow_map.specs.Places.{Rises}
use Rattle.cow_map.proofs.Parts.{rises_drop}
use Rattle.pending.proofs.Walking.{later_is}
use Rattle.pending.proofs.oldest_walk.OldestWalk.pass.Goals as goal

pub invariant_of-self : goal.invariant_of-self
invariant_of-self g c =
    let is : c.next.new.self ≡ drop 1 c.self.inside.rest = later_is _ c.self.inside.rest c.next.new.self c.next.result c.next.ensures.passed c.next.ensures.end in
    subst Rises (sym is) (rises_drop 1 c.self.inside.rest c.self.invariant)

pub returns : goal.returns
returns g c =
    let is : c.next.new.self ≡ drop 1 c.self.inside.rest = later_is _ c.self.inside.rest c.next.new.self c.next.result c.next.ensures.passed c.next.ensures.end in
    is ∙ ap (λ t. drop 1 t) c.self.view_is

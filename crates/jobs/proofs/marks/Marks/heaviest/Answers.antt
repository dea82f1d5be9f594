use Rattle.std.proofs.Common.{◌≡◌, ◌∙◌, ap, sym, subst, arith}
use Rattle.node.specs.Pure.{inner}
use Rattle.node.specs.See.{see, seen_slots}
use Rattle.jobs.specs.Heaviest.{IsFirstGreatest, movable_each}
use Rattle.jobs.proofs.Choosing.{few_slots, heaviest_in}
use Rattle.jobs.proofs.marks.Marks.heaviest.Goals as goal

pub overflow_cast-result : goal.overflow_cast-result
overflow_cast-result g c =
    let xs = c.as_slice-2.result.now in
    let was : inner (seen_slots xs) ≡ c.args.tree.now.root = ap (λ z. inner (seen_slots z)) c.as_slice-2.ensures.value ∙ ap see (sym c.in-Inner.is) ∙ c.body.ensures ∙ c.root-root.ensures.root in
    let few = few_slots c.args.tree.now xs c.root-root.ensures.lawful was in
    omega (arith, few, c.in_ok-busiest.ensures.bound)

pub returns : goal.returns
returns g c =
    let xs = c.as_slice-2.result.now in
    let was : inner (seen_slots xs) ≡ c.args.tree.now.root = ap (λ z. inner (seen_slots z)) c.as_slice-2.ensures.value ∙ ap see (sym c.in-Inner.is) ∙ c.body.ensures ∙ c.root-root.ensures.root in
    let marks : c.as_slice.result.now ≡ c.args.self.now = c.as_slice.ensures.value ∙ c.self.view_is in
    let room = c.shape-room.result.pending in
    let busiest = c.in_ok-busiest.busiest in
    heaviest_in c.args.self.now room busiest.messages busiest.number xs c.args.tree.now was (ap (λ s. s.pending) c.shape-room.ensures) c.in_ok-busiest.ensures.more
    (subst (λ ms. IsFirstGreatest busiest.number busiest.messages (movable_each ms room (seen_slots xs))) marks c.in_ok-busiest.ensures.first)

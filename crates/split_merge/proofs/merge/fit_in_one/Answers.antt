use Rattle.std.proofs.Common.{ap, sym, ◌∙◌, ◌≡◌}
use Rattle.node.specs.See.{see, seen_slots}
use Rattle.node.specs.Pure.{inner}
use Rattle.split_merge.proofs.Mergeable.{few_slots, many_slots}
use Rattle.split_merge.proofs.merge.fit_in_one.Goals as goal

pub returns-in-Inner-Inner-clause-yes : goal.returns-in-Inner-Inner-clause-yes
returns-in-Inner-Inner-clause-yes g c = λ t.
    let b = c.in-Inner-Inner in
    let l : inner (seen_slots c.as_slice.result.now) ≡ c.args.left.now = ap (λ z. inner (seen_slots z)) c.as_slice.ensures.value ∙ ap see (sym b.is-0) ∙ c.body.ensures in
    let r : inner (seen_slots c.as_slice-in-Inner-Inner.result.now) ≡ c.args.right.now = ap (λ z. inner (seen_slots z)) c.as_slice-in-Inner-Inner.ensures.value ∙ ap see (sym b.is-1) ∙ c.body-2.ensures in
    few_slots c.args.shape c.as_slice.result.now c.as_slice-in-Inner-Inner.result.now c.args.left.now c.args.right.now l r (c.slots_fit.ensures.few t) (c.slots_fit.ensures.light t)

pub returns-in-Inner-Inner-clause-no : goal.returns-in-Inner-Inner-clause-no
returns-in-Inner-Inner-clause-no g c = λ t.
    let b = c.in-Inner-Inner in
    let l : inner (seen_slots c.as_slice.result.now) ≡ c.args.left.now = ap (λ z. inner (seen_slots z)) c.as_slice.ensures.value ∙ ap see (sym b.is-0) ∙ c.body.ensures in
    let r : inner (seen_slots c.as_slice-in-Inner-Inner.result.now) ≡ c.args.right.now = ap (λ z. inner (seen_slots z)) c.as_slice-in-Inner-Inner.ensures.value ∙ ap see (sym b.is-1) ∙ c.body-2.ensures in
    many_slots c.args.shape c.as_slice.result.now c.as_slice-in-Inner-Inner.result.now c.args.left.now c.args.right.now l r (c.slots_fit.ensures.no t)

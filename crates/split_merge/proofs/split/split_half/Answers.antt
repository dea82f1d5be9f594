use Rattle.std.proofs.Common.{arith, ap, sym, ◌∙◌, ◌≡◌, ◌<◌, length}
use Rattle.node.specs.See.{see, seen_slots}
use Rattle.node.specs.Pure.{inner}
use Rattle.split_merge.proofs.Splittable.{divisible-few}
use Rattle.node.proofs.Placing.{slot_count-slots}
use Rattle.split_merge.proofs.InnerSplit.{slots-append, first_lo-get}
use Rattle.split_merge.proofs.split.split_half.Goals as goal

pub returns-then-half-eq0 : goal.returns-then-half-eq0
returns-then-half-eq0 g c =
    let was : inner (seen_slots c.in-Inner.slots.items) ≡ c.args.node.now = ap see (sym c.in-Inner.is) ∙ c.body.ensures in
    let few : length c.in-Inner.slots.items < 2 = omega (arith, c.in-Inner.slots.ok.0) in
    divisible-few c.in-Inner.slots.items c.args.node.now was few

pub returns : goal.returns
returns g c =
    let was : inner (seen_slots c.in-Inner.slots.items) ≡ c.args.node.now = ap see (sym c.in-Inner.is) ∙ c.body.ensures in
    let first = c.split_at.result.0.now in
    let second = c.split_at.result.1.now in
    let some : 0 < length second = omega arith in
    record {
      left = seen_slots first;
      right = seen_slots second;
      some_left = omega (arith, slot_count-slots first);
      some_right = omega (arith, slot_count-slots second);
      was = sym was ∙ ap (λ z. inner (seen_slots z)) (sym c.as_slice.ensures.value ∙ c.split_at.ensures.by_index.0) ∙ ap inner (slots-append first second);
      left_is = c.in_ok-node_over.ensures;
      right_is = c.in_ok-node_over-2.ensures;
      pivot_is = c.in_ok-copy.ensures ∙ first_lo-get second c.index-second-0.result some;
    }

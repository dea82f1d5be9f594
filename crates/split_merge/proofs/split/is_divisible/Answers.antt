use Rattle.std.proofs.Common.{ap, sym, ◌∙◌, ◌≡◌, length, arith}
use Rattle.std.proofs.Math.Dec.{leb}
use Rattle.node.specs.See.{see, seen_slots}
use Rattle.node.specs.Pure.{inner}
use Rattle.split_merge.proofs.Splittable.{divisible-count}
use Rattle.split_merge.proofs.split.is_divisible.Goals as goal

pub returns : goal.returns
returns g c =
    let xs = c.in-Inner.slots.items in
    let was : inner (seen_slots xs) ≡ c.args.node.now = ap see (sym c.in-Inner.is) ∙ c.body.ensures in
    let count : c.len.result ≡ length xs = omega (arith, c.len.ensures, c.in-Inner.slots.ok.0) in
    ap (λ n. leb 2 n) count ∙ sym (divisible-count xs c.args.node.now was)

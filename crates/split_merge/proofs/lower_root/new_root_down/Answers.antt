use Rattle.std.proofs.Common.{arith, ◌≡◌, length, ap, sym, ◌∙◌, subst}
use Rattle.node.specs.See.{see, seen_slots}
use Rattle.node.specs.Pure.{inner}
use Rattle.node.specs.Searchable.{IsRoot}
use Rattle.split_merge.proofs.RootDown.{not_one}
use Rattle.split_merge.proofs.lower_root.new_root_down.Goals as goal

pub returns-then-len-ne1-clause-err : goal.returns-then-len-ne1-clause-err
returns-then-len-ne1-clause-err g c =
    let items = c.in-Inner.slots.items in
    let was : inner (seen_slots items) ≡ c.args.root.now = ap see (sym c.in-Inner.is) ∙ c.body.ensures in
    not_one items c.args.root.now was (λ e. omega (arith, c.in-Inner.slots.ok.0))

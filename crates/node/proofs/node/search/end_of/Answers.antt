use Rattle.std.proofs.Common.{◌+◌, ap, ◌∙◌, add-one}
use Rattle.std.specs.Option.{option_copied}
use Rattle.std.proofs.lemmas.List.{take_rest}
use Rattle.node.specs.Lawful.{next_lo}
use Rattle.node.specs.See.{seen_slots}
use Rattle.node.proofs.StepPlaces.{end_of-drop}
use Rattle.node.proofs.node.search.end_of.Goals as goal

pub returns : goal.returns
returns g c =
    let hi = option_copied c.args.hi in
    let xs = c.args.slots.now in
    c.next_pivot.ensures ∙ ap (λ ys. next_lo hi (seen_slots ys)) (take_rest xs (c.args.i + 1)) ∙ rw add-one (end_of-drop xs c.args.i hi c.requires)

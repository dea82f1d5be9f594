use Rattle.std.proofs.Common.{ap, sym, ◌∙◌}
use Rattle.std.specs.Option.{option_map}
use Rattle.reference.specs.Plain.{tree_of}
use Rattle.reference.proofs.PlainSnapshots.{found_copied, get-snapshots_of}
use Rattle.reference.proofs.plain.world.World.frozen.Goals as goal

pub returns : goal.returns
returns c =
    found_copied c.get.result ∙ ap (option_map tree_of) c.get.ensures.value ∙ sym (get-snapshots_of c.args.self.now.snapshots c.args.name.now)

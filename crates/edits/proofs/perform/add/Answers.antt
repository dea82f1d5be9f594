use Rattle.std.proofs.Common.{◌∙◌, sym}
use Rattle.reference.specs.Reads.{sight}
use Rattle.edits.proofs.Looking.{nothing_seen}
use Rattle.edits.proofs.Performing.{entry_added}
use Rattle.edits.proofs.perform.add.Goals as goal

pub returns : goal.returns
returns c =
    entry_added c.args.path.now c.args.meta c.plant_entry.result c.was_done.result c.args.volume.now c.plant_entry.new.self
    (λ w m. nothing_seen c.in_ok-meta_at.field-0 (sight w.live c.args.path.now) (sym c.is_some.ensures ∙ c.if-is_some.false) (c.in_ok-meta_at.ensures w m))
    c.plant_entry.ensures c.was_done.ensures

use Rattle.std.proofs.Common.{◌∙◌, ap, sym}
use Rattle.edits.specs.declared.edit.Change.TheVariants.{Block}
use Rattle.edits.proofs.Performing.{one_change}
use Rattle.edits.proofs.perform.perform.Goals as goal

pub returns-in-Block : goal.returns-in-Block
returns-in-Block c =
    one_change c.args.edit.now.path c.args.edit.now.change _ c.rewrite.result c.args.volume.now c.rewrite.new.volume
    (c.in-Block.is ∙ ap (Block c.in-Block.number c.in-Block.old) (sym c.as_slice.ensures)) c.rewrite.ensures

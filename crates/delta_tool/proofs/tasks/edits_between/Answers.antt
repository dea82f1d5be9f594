use Rattle.std.proofs.Common.{true}
use Rattle.call_compiler.specs.declared.indexes.Indexes.{Indexes}
use Rattle.volume.specs.Differences.{AgreeOutside}
use Rattle.delta_tool.proofs.tasks.edits_between.Goals as goal

pub print_edits-requires : goal.print_edits-requires
print_edits-requires c = (c.args.old.now.indexes, nowhere c.args.old.now.indexes c.args.old.now.indexes, nowhere c.args.new.now.indexes c.args.old.now.indexes)
  where
    nowhere : (i j : Indexes) → AgreeOutside (λ k. true) (λ k. true) i j
    nowhere i j = record { meta = λ k h. absurd (cc); block = λ k h. absurd (cc) }

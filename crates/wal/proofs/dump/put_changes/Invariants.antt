use Rattle.std.proofs.Common.{take}
use Rattle.wal.specs.Added.{AddsAll}
use Rattle.wal.proofs.dump.put_changes.Given as goal

-- the changes so far have their lines
abbrev pub invariant-loop-change : goal.invariant-loop-change
invariant-loop-change l = AddsAll (take l.change-index l.changes) l.initial.text.items l.text.items

use Rattle.std.proofs.Common.{ap, not, sym}
use Rattle.call_compiler.proofs.remove.is_empty_dir.Goals as goal

pub returns-then-is_nonempty : goal.returns-then-is_nonempty
returns-then-is_nonempty c = λ t is_meant. sym (ap not (c.in_ok-is_nonempty.ensures c.if-is_nonempty.true t is_meant))

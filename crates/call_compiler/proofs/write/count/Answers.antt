use Rattle.call_compiler.proofs.OnFiles.{are_bytes}
use Rattle.call_compiler.proofs.write.count.Goals as goal

pub returns-clause-bytes : goal.returns-clause-bytes
returns-clause-bytes c = are_bytes c.args.bytes.now c.type_inv.bytes

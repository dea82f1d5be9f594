use Rattle.std.proofs.Common.{rules}
use Rattle.wal.proofs.Cuts.{word_read}
use Rattle.wal.proofs.u64_le.split_u64.Goals as goal

pub returns : goal.returns
returns c =
    (word_read c.args.bytes.now c.in-Some.front.now c.in-Some.rest.now c.from_le_bytes.result c.type_inv.bytes c.in-Some.ensures.cases.0 c.in-Some.ensures.cases.1 (search rules) c.from_le_bytes.ensures, search rules)

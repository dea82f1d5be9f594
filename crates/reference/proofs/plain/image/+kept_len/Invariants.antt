use Rattle.std.proofs.Common.{length}
use Rattle.reference.proofs.plain.image.+kept_len.Given as goal

-- how many bytes are left
abbrev pub decreases-kept_len : goal.decreases-kept_len
decreases-kept_len l = length l.bytes.now

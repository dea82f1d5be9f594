use Rattle.std.proofs.Common.{◌∙◌}
use Rattle.call_compiler.proofs.BlockNumbers.{number_read, short_key}
use Rattle.call_compiler.proofs.copy_range.block_number.Goals as goal

pub returns-in_default : goal.returns-in_default
returns-in_default c = λ p i fits is. absurd (short_key _ p i (c.as_bytes.ensures ∙ is) c.in_default.len_below)

pub returns-in-len4-up : goal.returns-in-len4-up
returns-in-len4-up c = λ p i fits is. c.from_be_bytes.ensures ∙ number_read _ p i fits (c.as_bytes.ensures ∙ is)

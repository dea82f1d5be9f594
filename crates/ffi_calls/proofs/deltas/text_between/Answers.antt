use Rattle.std.proofs.Common.{sym, ◌∙◌}
use Rattle.ffi_calls.proofs.Differing.{printed_text}
use Rattle.ffi_calls.proofs.deltas.text_between.Goals as goal

pub returns-clause-text : goal.returns-clause-text
returns-clause-text c = λ t u m n is.
    printed_text c.print_delta.result t u c.new-text.result.items c.print_delta.new.writer.items (sym c.is_err.ensures.value ∙ c.if-is_err.false) c.new-text.ensures.items (c.print_delta.ensures.ok t u m n is)

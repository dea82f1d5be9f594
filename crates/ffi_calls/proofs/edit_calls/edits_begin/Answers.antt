use Rattle.std.proofs.Common.{refl, sym, subst}
use Rattle.ffi_calls.specs.Edits.{BeginsBetween}
use Rattle.ffi_calls.proofs.edit_calls.edits_begin.Goals as goal

pub returns-in-Ok-clause-begun : goal.returns-in-Ok-clause-begun
returns-in-Ok-clause-begun c = λ w m.
    subst (BeginsBetween c.args.old.now c.args.new.now w) (sym c.printer_between.ensures)
    (record { from = c.in_ok-before.ensures.found w m; to = c.in-Ok.ensures.found w m; text = refl; handed = refl })

use Rattle.std.proofs.Common.{ap, ap₂, ◌≡◌, ◌∙◌, codes}
use Rattle.std.proofs.lemmas.Result.{IfOk-weaker}
use Rattle.std.specs.Prelude.{pos}
use Rattle.clap.specs.Words.{with_rule}
use Rattle.clap.specs.declared.builder.value_parser.ValueParser.TheVariants.{Signed}
use Rattle.shell.specs.CommandLine.{bare_betr, option_rule}
use Rattle.shell.proofs.command_line.with_work.Goals as goal

pub returns : goal.returns
returns c =
    let flushers_in : c.range.result ≡ Signed (pos 0) (pos 8) = rw (c.value_parser.ensures, c.new.ensures.start, c.new.ensures.end) at c.range.ensures in
    let steps_in : c.range-2.result ≡ Signed (pos 0) (pos 1000) = rw (c.value_parser-2.ensures, c.new-2.ensures.start, c.new-2.ensures.end) at c.range-2.ensures in
    IfOk-weaker c.with_option.result _ _
    (λ r is. is ∙ ap₂ with_rule (ap (with_rule bare_betr) (ap (option_rule (codes "flushers")) flushers_in)) (ap (option_rule (codes "steps")) steps_in))
    (c.with_option.ensures _ (c.with_option-flushed.ensures bare_betr c.program.ensures))

use Rattle.std.proofs.Common.{ap, ap₂, ◌≡◌, ◌∙◌, codes}
use Rattle.std.proofs.lemmas.Result.{IfOk-weaker}
use Rattle.std.specs.Prelude.{pos}
use Rattle.clap.specs.Words.{with_rule}
use Rattle.clap.specs.declared.builder.value_parser.ValueParser.TheVariants.{Signed}
use Rattle.shell.specs.CommandLine.{betr_of_work, option_rule}
use Rattle.shell.proofs.command_line.with_shape.Goals as goal

pub returns : goal.returns
returns c =
    let fanout_in : c.range.result ≡ Signed (pos 4) (pos 64) = rw (c.value_parser.ensures, c.new.ensures.start, c.new.ensures.end) at c.range.ensures in
    let pending_in : c.range-2.result ≡ Signed (pos 4) (pos 1024) = rw (c.value_parser-2.ensures, c.new-2.ensures.start, c.new-2.ensures.end) at c.range-2.ensures in
    let leaf_in : c.range-3.result ≡ Signed (pos 4) (pos 1024) = rw (c.value_parser-3.ensures, c.new-3.ensures.start, c.new-3.ensures.end) at c.range-3.ensures in
    IfOk-weaker c.with_option.result _ _
    (λ r is. is ∙ ap₂ with_rule (ap₂ with_rule (ap (with_rule betr_of_work) (ap (option_rule (codes "fanout")) fanout_in)) (ap (option_rule (codes "pending")) pending_in)) (ap (option_rule (codes "leaf")) leaf_in))
    (c.with_option.ensures _ (c.with_option-filled.ensures _ (c.with_option-wide.ensures betr_of_work c.with_work.ensures)))

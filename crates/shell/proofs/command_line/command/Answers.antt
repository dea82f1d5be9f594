use Rattle.std.proofs.Common.{◌≡◌, ◌∙◌}
use Rattle.std.proofs.lemmas.Result.{IfOk-weaker}
use Rattle.clap.specs.Words.{app_of}
use Rattle.clap.specs.Simple.{on_top}
use Rattle.shell.specs.CommandLine.{bare_betr, betr_of_numbers, rules}
use Rattle.shell.proofs.OptionFacts.{betr_is}
use Rattle.shell.proofs.command_line.command.Goals as goal

pub returns : goal.returns
returns c =
    IfOk-weaker c.with_script.result _ _
    (λ r is. let shape : app_of r ≡ on_top (λ s. record s { rules = rules }) bare_betr = is in shape ∙ betr_is)
    (c.with_script.ensures _ (c.with_explain-explaining.ensures _ (c.with_strict-ending.ensures _ (c.with_dot-drawing.ensures _ (c.with_image-printing.ensures _ (c.with_load-loading.ensures betr_of_numbers c.with_shape.ensures))))))

use Rattle.std.proofs.Common.{ap, ◌∙◌}
use Rattle.std.proofs.lemmas.Result.{IfOk-weaker}
use Rattle.clap.specs.Words.{with_rule}
use Rattle.shell.proofs.command_line.with_strict.Goals as goal

pub returns : goal.returns
returns c = λ app is. IfOk-weaker c.with_arg.result _ _ (λ r adds. adds ∙ ap (with_rule app) c.switch-strict.ensures.rule) (c.with_arg.ensures app is)

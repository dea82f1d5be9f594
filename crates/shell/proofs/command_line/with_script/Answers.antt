use Rattle.std.proofs.Common.{rules, ap, codes, ◌≡◌, ◌∙◌}
use Rattle.std.proofs.lemmas.Result.{IfOk-weaker}
use Rattle.clap.specs.Words.{new_rule, rule_of, with_rule}
use Rattle.shell.proofs.command_line.with_script.Goals as goal

pub returns : goal.returns
returns c = λ app is.
    let script_is : rule_of c.help-script.result ≡ new_rule (codes "SCRIPT") = search rules in
    IfOk-weaker c.with_arg.result _ _ (λ r adds. adds ∙ ap (with_rule app) script_is) (c.with_arg.ensures app is)

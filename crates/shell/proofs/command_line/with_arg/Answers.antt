use Rattle.std.proofs.Common.{ap, subst, ◌≡◌, ◌∙◌}
use Rattle.std.specs.Prelude.{IfOk}
use Rattle.std.proofs.lemmas.Result.{IfOk-weaker}
use Rattle.clap.specs.Words.{App, app_of, rule_of, with_rule}
use Rattle.shell.proofs.command_line.with_arg.Goals as goal

pub returns-in-Ok : goal.returns-in-Ok
returns-in-Ok c = λ app is.
    let same : app_of c.in-Ok.command ≡ app = subst (λ r. IfOk r (λ k. app_of k ≡ app)) c.in-Ok.is is in
    IfOk-weaker c.arg.result _ _ (λ r adds. adds.shape c.requires ∙ ap (λ (a : App). with_rule a (rule_of c.args.arg)) same) c.arg.ensures

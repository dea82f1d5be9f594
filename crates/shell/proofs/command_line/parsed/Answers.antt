use Rattle.std.proofs.Common.{ap, map, subst, List, ◌≡◌, ◌∙◌}
use Rattle.std.proofs.lemmas.Result.{IfErr-weaker, IfOk-weaker}
use Rattle.clap.specs.Words.{App, FailsBy, Text, app_of, fault_of, is_simple_and_free, is_simple, matches_of, takes}
use Rattle.shell.specs.CommandLine.{betr}
use Rattle.shell.proofs.OptionFacts.{betr_is_free, betr_is_simple, rows_are}
use Rattle.shell.proofs.command_line.parsed.Goals as goal

pub returns : goal.returns
returns c =
    let call = c.try_get_matches_from in
    let is : app_of c.in_ok-command.field-0 ≡ betr = c.in_ok-command.ensures in
    let ws : List Text = map (λ w. w.now) c.args.words.now in
    record {
      parse = IfOk-weaker call.result _ _ (λ m h. (c.in_ok-command.field-0, is, h)) call.ensures.parsed;
      rows = IfOk-weaker call.result _ _ (λ m h. (h (ap is_simple is ∙ betr_is_simple)).0 ∙ ap (λ (a : App). matches_of a ws) is ∙ rows_are ws) call.ensures.matches;
      memory = IfErr-weaker call.result _ _ (λ e h t. h (ap (λ (a : App). takes a ws) is ∙ t)) call.ensures.passes;
      kinds = subst (λ (a : App). FailsBy (fault_of a ws) call.result) is (call.ensures.kinds (ap is_simple_and_free is ∙ betr_is_free));
    }

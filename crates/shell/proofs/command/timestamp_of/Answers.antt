use Rattle.std.proofs.Common.{◌≡◌, ◌∙◌, ◌++◌, ap, eqb, sym}
use Rattle.std.proofs.lemmas.Slice.Eq.{strip_prefix_is}
use Rattle.std.proofs.lemmas.Option.{MatchOption-at_some}
use Rattle.std.proofs.lemmas.Bool.Decides.{Decides-eqb}
use Rattle.shell.specs.declared.request.Request.TheVariants.{Moment}
use Rattle.shell.specs.Requests.{with_value}
use Rattle.shell.proofs.Asking.{moment_line, timestamp_read}
use Rattle.shell.proofs.command.timestamp_of.Goals as goal

pub returns : goal.returns
returns c =
    let word = c.in_ok-strip_prefix.field-0.now in
    let split : c.args.line.now ≡ c.as_slice.result.now ++ word =
    MatchOption-at_some _ _ _ c.in_ok-strip_prefix.was (strip_prefix_is {E = eqb} Decides-eqb _ _ _ c.strip_prefix.ensures.cases) in
    timestamp_read c.args.line.now _ (moment_line _ _ word (sym c.is_overlong.ensures ∙ c.if-is_overlong.false) split c.as_slice.ensures ∙ ap (with_value Moment) (sym c.read_number.ensures))

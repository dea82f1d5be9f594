use Rattle.std.proofs.Common.{codes, eqb}
use Rattle.std.proofs.lemmas.Slice.Eq.{strip_prefix_is}
use Rattle.std.proofs.lemmas.Option.{MatchOption-at_some}
use Rattle.std.proofs.lemmas.Bool.Decides.{Decides-eqb}
use Rattle.delta.proofs.CommandFacts.{come_reported}
use Rattle.delta.proofs.command.read_command.Goals as goal

pub returns-in-Some : goal.returns-in-Some
returns-in-Some c =
    let begins = MatchOption-at_some _ _ _ c.in-Some.is (strip_prefix_is {E = eqb} Decides-eqb c.args.line.now (codes "+ ") c.strip_prefix.result c.strip_prefix.ensures.cases) in
    come_reported c.args.line.now c.in-Some.field-0.now c.requires begins

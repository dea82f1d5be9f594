use Rattle.std.proofs.Common.{Option, subst}
use Rattle.std.specs.Prelude.{IfOk}
use Rattle.reference.specs.Tree.{entry_at}
use Rattle.reference.specs.declared.reply.Meta.{Meta}
use Rattle.call_compiler.specs.Files.{TellsGrowth}
use Rattle.call_compiler.proofs.OnFiles.{short_there}
use Rattle.call_compiler.proofs.files.find_file.Goals as goal

pub returns-clause-reported : goal.returns-clause-reported
returns-clause-reported c = λ t means. c.file_of.ensures.reported (entry_at t c.args.path.now) (c.in_ok-at.ensures.reported t means) (short_there t c.args.path.now means.tree)

pub returns-clause-grown : goal.returns-clause-grown
returns-clause-grown c = subst (λ (m : Option Meta). IfOk c.file_of.result (TellsGrowth m)) c.in_ok-at.ensures.value c.file_of.ensures.grown

use Rattle.std.proofs.Common.{rules}
use Rattle.shell.proofs.Answering.{line_cut, line_ends, line_answered, then_kept}
use Rattle.shell.proofs.script.do_line.Goals as goal

pub returns-in_default-clause-err : goal.returns-in_default-clause-err
returns-in_default-clause-err g c = line_cut _ _ _ _ c.args.line.now (g.V.Watch.is_strict c.args.watch.now) c.in_default.ensures.err

pub returns-then-not-see-clause-err : goal.returns-then-not-see-clause-err
returns-then-not-see-clause-err g c = line_ends _ _ _ _ c.args.line.now _ _ _ c.see.ensures.goes (search rules) c.in-Ok.ensures.ok

pub returns-clause-ok : goal.returns-clause-ok
returns-clause-ok g c =
    then_kept _ _ _ _ _ _ (line_answered _ _ _ _ c.args.line.now _ _ _ c.see.ensures.goes (search rules) c.in-Ok.ensures.ok) c.run_steps.ensures

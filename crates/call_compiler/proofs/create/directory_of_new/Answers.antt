use Rattle.std.proofs.Common.{sym, ap, ◌∙◌}
use Rattle.std.specs.Result.{result_err}
use Rattle.meta_index.proofs.Parents.{parent_refused}
use Rattle.call_compiler.proofs.Faults.{new_refused, new_exists, new_may}
use Rattle.call_compiler.proofs.create.directory_of_new.Goals as goal

pub returns-in-Err-clause-fault : goal.returns-in-Err-clause-fault
returns-in-Err-clause-fault c = λ t means.
    new_refused t c.args.path.now c.in-Err.fault (sym (parent_refused t c.args.path.now c.in_ok-dated.field-0 means.tree.root (c.in_ok-dated.ensures.moment t means)) ∙ ap result_err c.in-Err.is)

pub returns-then-branch-clause-fault : goal.returns-then-branch-clause-fault
returns-then-branch-clause-fault c = λ t means.
    new_exists t c.args.path.now (sym (parent_refused t c.args.path.now c.in_ok-dated.field-0 means.tree.root (c.in_ok-dated.ensures.moment t means)) ∙ ap result_err c.in-Ok.is) (sym (c.in_ok-has.ensures t means) ∙ c.if-branch.true)

pub returns-clause-fault : goal.returns-clause-fault
returns-clause-fault c = λ t means.
    new_may t c.args.path.now (sym (parent_refused t c.args.path.now c.in_ok-dated.field-0 means.tree.root (c.in_ok-dated.ensures.moment t means)) ∙ ap result_err c.in-Ok.is) (sym (c.in_ok-has.ensures t means) ∙ c.if-branch.false)

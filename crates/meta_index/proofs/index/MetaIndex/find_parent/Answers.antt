use Rattle.std.proofs.Common.{sym, ap, ◌∙◌}
use Rattle.std.specs.Result.{result_err}
use Rattle.meta_index.proofs.Parents.{parent_refused}
use Rattle.meta_index.proofs.index.MetaIndex.find_parent.Goals as goal

pub returns-in-Ok-clause-fault : goal.returns-in-Ok-clause-fault
returns-in-Ok-clause-fault c = λ t means. ap result_err (sym c.in-Ok.is) ∙ parent_refused t c.args.path.now c.in_ok-parent.field-0 means.tree.root (c.in_ok-parent.ensures.moment t means)

pub returns-in-Err-clause-fault : goal.returns-in-Err-clause-fault
returns-in-Err-clause-fault c = λ t means. ap result_err (sym c.in-Err.is) ∙ parent_refused t c.args.path.now c.in_ok-parent.field-0 means.tree.root (c.in_ok-parent.ensures.moment t means)

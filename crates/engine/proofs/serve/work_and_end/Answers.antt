use Rattle.std.proofs.Common.{ℕ, ◌∙◌, subst}
use Rattle.engine.specs.Ends.{EachOnce}
use Rattle.engine.proofs.serve.work_and_end.Goals as goal

pub returns-in-Ok-clause-ends : goal.returns-in-Ok-clause-ends
returns-in-Ok-clause-ends g c = record {
  clients = c.work_beside-worked.result;
  worked = c.work_beside-worked.ensures;
  once = subst (λ (n : ℕ). EachOnce n c.work_beside-worked.result) (c.new_flushers-staff.ensures ∙ c.requires.all) c.in-Ok.ensures.ends.0;
  ends = c.in-Ok.ensures.ends.1;
}

pub returns-clause-back : goal.returns-clause-back
returns-clause-back g c = (c.work_beside-worked.result, c.work_beside-worked.ensures)

use Rattle.std.proofs.Common.{◌∙◌, sym}
use Rattle.images.proofs.TakenFacts.{bad_so_far, ended_bad, ended_loaded}
use Rattle.images.proofs.loader.ImageLoader.ended.Goals as goal

pub returns-in-Err-clause-bad : goal.returns-in-Err-clause-bad
returns-in-Err-clause-bad c = λ shape text n took e. bad_so_far shape text c.args.self.now n (sym c.answer.ensures ∙ c.in-Err.is ∙ e) took

pub returns-clause-ok : goal.returns-clause-ok
returns-clause-ok c = λ shape text took. ended_loaded shape text c.args.self.now c.end.result (sym c.answer.ensures ∙ c.in_default.is) (rw c.as_slice.ensures.value at c.end.ensures.ok) took

pub returns-clause-bad : goal.returns-clause-bad
returns-clause-bad c = λ shape text n took e. ended_bad shape text c.args.self.now n (sym c.answer.ensures ∙ c.in_default.is) (rw c.as_slice.ensures.value at c.end.ensures.bad n e) took

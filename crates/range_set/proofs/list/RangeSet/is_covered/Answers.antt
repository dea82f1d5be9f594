use Rattle.std.proofs.Common.{◌∙◌, ap, sym}
use Rattle.range_set.specs.Disjoint.{covered}
use Rattle.range_set.proofs.list.RangeSet.is_covered.Goals as goal

pub returns-then-is_empty : goal.returns-then-is_empty
returns-then-is_empty c = sym (ap (λ rs. covered rs c.args.key.now) (sym c.self.view_is ∙ c.is_empty.ensures.yes c.if-is_empty.true))

use Rattle.std.proofs.Common.{ap, length, arith}
use Rattle.range_set.proofs.Splicing.{gone_counted}
use Rattle.range_set.proofs.replace_overlapped.replace.Goals as goal

pub len-gone-requires : goal.len-gone-requires
len-gone-requires c = omega (arith, c.requires, ap (λ t. length t) c.in_ok-others.ensures, ap (λ t. length t) c.in_ok-inside.ensures.taken, gone_counted c.args.range c.in_ok-others.others)

pub overflow_add-result : goal.overflow_add-result
overflow_add-result c = omega (arith, c.requires, ap (λ t. length t) c.in_ok-others.ensures, c.len-gone.ensures, ap (λ t. length t) c.in_ok-inside.ensures.taken, ap (λ t. length t) c.in_ok-inside.ensures.kept, gone_counted c.args.range c.in_ok-others.others, c.in_ok-replaced.ensures.counted)

pub returns-clause-counted : goal.returns-clause-counted
returns-clause-counted c = omega (arith, ap (λ t. length t) c.in_ok-others.ensures, c.len-gone.ensures, ap (λ t. length t) c.in_ok-inside.ensures.taken, ap (λ t. length t) c.in_ok-inside.ensures.kept, gone_counted c.args.range c.in_ok-others.others, c.in_ok-replaced.ensures.counted)

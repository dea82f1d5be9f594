use Rattle.std.proofs.Common.{sym, ◌∙◌}
use Rattle.meta_index.specs.Means.{metadata}
use Rattle.meta_index.proofs.BelowPath.{pair_at}
use Rattle.meta_index.proofs.index.MetaIndex.has_in.Goals as goal

pub returns : goal.returns
returns c = λ there. pair_at (metadata c.args.self.now) c.args.range.now.lo c.args.range.now.hi c.args.key.now c.in_ok-meta.meta c.is_some.result (sym c.contains.ensures ∙ c.if-not-contains.false) c.in_ok-meta.ensures (let e = c.is_some.ensures in cc) there

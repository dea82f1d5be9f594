use Rattle.std.proofs.Common.{subst}
use Rattle.std.proofs.lemmas.Result.{IfOk-weaker}
use Rattle.pathkey.specs.declared.range.KeyRange.{KeyRange}
use Rattle.meta_index.specs.Below.{HasPair}
use Rattle.meta_index.specs.Means.{metadata}
use Rattle.meta_index.proofs.BelowPath.{occupied}
use Rattle.meta_index.proofs.index.MetaIndex.probe_nonempty.Goals as goal

pub returns : goal.returns
returns c = IfOk-weaker c.has_likely.result _ _ (λ there pair yes t is_meant. occupied t c.args.self.now c.args.path.now c.in_ok-range.ensures.valid is_meant (subst (λ (r : KeyRange). HasPair (metadata c.args.self.now) r.lo r.hi) c.in_ok-range.ensures.value (pair yes))) c.has_likely.ensures

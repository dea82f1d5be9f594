use Rattle.std.proofs.Common.{rules, ◌∙◌}
use Rattle.attributes.proofs.PrintFacts.{rise_kept}
use Rattle.attributes.proofs.record.assert_invariant.Goals as goal

pub loop-one-preserved : goal.loop-one-preserved
loop-one-preserved c =
    rise_kept c.loop-one.last.now c.as_slice-name.result.now c.args.attributes.now c.loop-one.one-index c.one-item.result
    (search rules) (search rules) c.as_slice-name.ensures (search rules) (search rules) ∙ c.loop-one.invariant

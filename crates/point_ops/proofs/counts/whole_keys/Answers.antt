use Rattle.std.proofs.Common.{◌∙◌, sym, arith}
use Rattle.point_ops.proofs.Counting.{all_passed, next_entry}
use Rattle.point_ops.proofs.counts.whole_keys.Goals as goal

pub loop-run-preserved : goal.loop-run-preserved
loop-run-preserved g c =
    let step = next_entry c.args.rows.now c.loop-run.keys c.in-Some.field-0-0.now c.in-Some.run'.now c.loop-run.walk c.next.new.self c.loop-run.invariant.walk c.in-Some.ensures.passed in
    record {
      walk = step.rest;
      within = step.within;
      counted = omega (arith, step.counted, c.loop-run.invariant.counted, c.len-len.ensures.len);
      few = omega (arith, c.loop-run.invariant.few, c.len-len.ensures.some);
    }

pub returns-clause-left : goal.returns-clause-left
returns-clause-left g c = all_passed c.args.rows.now c.loop-run.keys c.loop-run.left c.args.count (sym c.loop-run.invariant.walk ∙ c.in_default.ensures.end) c.loop-run.invariant.counted c.requires

use Rattle.std.proofs.Common.{rules}
use Rattle.attributes.specs.Text.{basic_lines}
use Rattle.attributes.proofs.PrintFacts.{line_more}
use Rattle.attributes.proofs.printing.put_all.Goals as goal

pub loop-one-preserved : goal.loop-one-preserved
loop-one-preserved c =
    let a = c.args.attributes.now in
    line_more c.args.text.now.items (basic_lines a.basic) c.loop-one.text.items c.put_extended.new.text.items a.extended c.loop-one.one-index c.one-item.result
    (search rules) (search rules) c.loop-one.invariant c.in_ok-put_extended.ensures

use Rattle.std.proofs.Common.{◌++◌, codes}
use Rattle.textio.specs.Texts.{number_line}
use Rattle.attributes.specs.Text.{basic_lines, kind_text, octal, time_lines}
use Rattle.attributes.proofs.PrintFacts.{seven_parts}
use Rattle.attributes.proofs.printing.put_basic.Goals as goal

pub returns : goal.returns
unfolding basic_lines
returns c =
    let b = c.args.basic.now in
    seven_parts _ _ _ _ _ _ _ _
    (codes "doorvervain record 1\n") (codes "kind " ++ kind_text b.kind ++ codes "\n") (codes "mode " ++ octal b.mode ++ codes "\n")
    (number_line (codes "user ") b.user) (number_line (codes "group ") b.group) (number_line (codes "names ") b.names) (time_lines b.modified)
    c.in_ok-put.ensures.ok c.in_ok-put_kind.ensures c.in_ok-put_mode.ensures
    (rw c.from.ensures at c.in_ok-put_number_line.ensures.ok) (rw c.from-2.ensures at c.in_ok-put_number_line-2.ensures.ok) c.in_ok-put_number_line-3.ensures.ok c.in_ok-put_time.ensures

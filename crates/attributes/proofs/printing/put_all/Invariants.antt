use Rattle.std.proofs.Common.{◌≡◌, ◌++◌, flat_map, take}
use Rattle.attributes.specs.Text.{basic_lines, extended_line}
use Rattle.attributes.proofs.printing.put_all.Given as goal

abbrev pub invariant-loop-one : goal.invariant-loop-one
invariant-loop-one l = l.text.items ≡ l.fn.text.items ++ (basic_lines l.attributes.basic ++ flat_map extended_line (take l.one-index l.attributes.extended))

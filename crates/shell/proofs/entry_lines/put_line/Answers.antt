use Rattle.std.proofs.Common.{◌++◌, codes, ap, ◌∙◌, List, ℕ}
use Rattle.shell.proofs.Listing.{plain_line}
use Rattle.shell.proofs.entry_lines.put_line.Goals as goal

pub returns-then-is_plain : goal.returns-then-is_plain
returns-then-is_plain c = plain_line c.args.text.now.items c.push.new.self.items c.name_word.result.now c.args.name.now c.args.kind (c.is_plain.ensures.0 c.if-is_plain.true) c.name_word.ensures
    (c.in_ok-push.ensures.items ∙ ap (λ (t : List ℕ). t ++ codes "\n") (c.in_ok-extend_from_slice-2.ensures.items ∙ ap (λ (t : List ℕ). t ++ c.args.name.now) c.in_ok-extend_from_slice.ensures.items))

use Rattle.std.proofs.Common.{rules}
use Rattle.shell.proofs.Listing.{line_added, line_grows}
use Rattle.shell.proofs.entry_lines.EntryLinesEntrySink.receive.Goals as goal

pub returns-clause-has : goal.returns-clause-has
returns-clause-has c = λ es are. line_added c.args.self.now (record { text = c.put_line.new.text; count = c.saturating_add-self.result }) (c.args.kind, c.args.name.now) c.in_ok-put_line.ensures es are c.saturating_add-self.ensures (search rules)

pub returns-clause-grows : goal.returns-clause-grows
returns-clause-grows c = line_grows c.args.self.now (record { text = c.put_line.new.text; count = c.saturating_add-self.result }) (c.args.kind, c.args.name.now) c.in_ok-put_line.ensures

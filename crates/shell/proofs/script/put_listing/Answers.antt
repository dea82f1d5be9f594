use Rattle.std.proofs.Common.{Result, codes, length, sym, subst, ap, ◌∙◌}
use Rattle.std.specs.List.{flat_map}
use Rattle.std.specs.Io.KnownBytes.{Appends}
use Rattle.pathkey.specs.declared.errno.Errno.{Errno}
use Rattle.textio.specs.Parts.{AppendsPart}
use Rattle.textio.specs.Texts.{number_line}
use Rattle.textio.proofs.Known.{on_err, part_after, part_before}
use Rattle.shell.specs.declared.entry_lines.EntryLines.{EntryLines}
use Rattle.shell.specs.Listings.{Shows}
use Rattle.shell.specs.Replies.{entry_line, reply_text}
use Rattle.shell.proofs.script.put_listing.Goals as goal

pub returns-in_err-put_number_line-in-Ok-clause-err : goal.returns-in_err-put_number_line-in-Ok-clause-err
returns-in_err-put_number_line-in-Ok-clause-err g c = λ r shows.
    let s = subst (λ (l : Result EntryLines Errno). Shows l r) c.in-Ok.is shows in
    let part = subst (AppendsPart _ _) (ap (number_line (codes "names ")) s.2.count) c.in_err-put_number_line-in-Ok.ensures.err in
    on_err _ _ (subst (AppendsPart _ _) (ap reply_text (sym s.1)) (part_before _ _ (number_line (codes "names ") (length s.0)) (flat_map entry_line s.0) part))

pub returns-in_err-put-in-Ok-clause-err : goal.returns-in_err-put-in-Ok-clause-err
returns-in_err-put-in-Ok-clause-err g c = λ r shows.
    let s = subst (λ (l : Result EntryLines Errno). Shows l r) c.in-Ok.is shows in
    let head = subst (Appends _ _) (ap (number_line (codes "names ")) s.2.count) c.in_ok-put_number_line-in-Ok.ensures.ok in
    let part = subst (AppendsPart _ _) (c.as_slice.ensures.value ∙ s.2.text) c.in_err-put-in-Ok.ensures.err in
    on_err _ _ (subst (AppendsPart _ _) (ap reply_text (sym s.1)) (part_after _ _ _ (number_line (codes "names ") (length s.0)) (flat_map entry_line s.0) head part))

use Rattle.std.proofs.Common.{sym, subst, ap, codes, length}
use Rattle.std.specs.List.{flat_map}
use Rattle.std.specs.Io.KnownBytes.{Appends}
use Rattle.reference.specs.Pairs.{pairs_of}
use Rattle.textio.specs.Parts.{AppendsPart}
use Rattle.shell.specs.Replies.{entry_line}
use Rattle.textio.specs.Texts.{number_line}
use Rattle.textio.proofs.Known.{on_err, part_after, part_before}
use Rattle.shell.proofs.Texts.{length_of_pairs}
use Rattle.shell.proofs.reply.put_names.Goals as goal

pub returns-in_err-put_number_line-clause-err : goal.returns-in_err-put_number_line-clause-err
returns-in_err-put_number_line-clause-err g c =
    let same = ap (number_line (codes "names ")) (sym (length_of_pairs c.args.entries.now)) in
    let part = subst (AppendsPart _ _) same c.in_err-put_number_line.ensures.err in
    on_err _ _ (part_before _ _ (number_line (codes "names ") (length (pairs_of c.args.entries.now))) (flat_map entry_line (pairs_of c.args.entries.now)) part)

pub returns-in_err-put_entries-clause-err : goal.returns-in_err-put_entries-clause-err
returns-in_err-put_entries-clause-err g c =
    let same = ap (number_line (codes "names ")) (sym (length_of_pairs c.args.entries.now)) in
    let head = subst (Appends _ _) same c.in_ok-put_number_line.ensures.ok in
    on_err _ _ (part_after _ _ _ (number_line (codes "names ") (length (pairs_of c.args.entries.now))) (flat_map entry_line (pairs_of c.args.entries.now)) head
    c.in_err-put_entries.ensures.err)

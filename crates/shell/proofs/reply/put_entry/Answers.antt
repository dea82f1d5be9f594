use Rattle.std.proofs.Common.{◌++◌, codes, subst}
use Rattle.std.specs.List.{flat_map}
use Rattle.std.specs.Io.KnownBytes.{Appends}
use Rattle.std.proofs.KnownBytes.{Appends-trans}
use Rattle.reference.specs.Image.{percent}
use Rattle.textio.specs.Parts.{AppendsPart}
use Rattle.shell.specs.Replies.{name_word}
use Rattle.textio.proofs.Known.{on_err, part_after, part_before}
use Rattle.shell.proofs.reply.put_entry.Goals as goal

pub returns-in_err-put-clause-err : goal.returns-in_err-put-clause-err
returns-in_err-put-clause-err g c =
    let part = subst (AppendsPart _ _) c.name_word.ensures c.in_err-put.ensures.err in
    on_err _ _ (part_before _ _ (name_word c.args.kind ++ flat_map percent c.args.name.now) (codes "\n")
    (part_before _ _ (name_word c.args.kind) (flat_map percent c.args.name.now) part))

pub returns-in_err-put_percent-clause-err : goal.returns-in_err-put_percent-clause-err
returns-in_err-put_percent-clause-err g c =
    let word = subst (Appends _ _) c.name_word.ensures c.in_ok-put.ensures.ok in
    on_err _ _ (part_before _ _ (name_word c.args.kind ++ flat_map percent c.args.name.now) (codes "\n")
    (part_after _ _ _ (name_word c.args.kind) (flat_map percent c.args.name.now) word c.in_err-put_percent.ensures.err))

pub returns-in_err-put-2-clause-err : goal.returns-in_err-put-2-clause-err
returns-in_err-put-2-clause-err g c =
    let word = subst (Appends _ _) c.name_word.ensures c.in_ok-put.ensures.ok in
    on_err _ _ (part_after _ _ _ (name_word c.args.kind ++ flat_map percent c.args.name.now) (codes "\n")
    (Appends-trans _ _ _ (name_word c.args.kind) (flat_map percent c.args.name.now) word c.in_ok-put_percent.ensures.ok) c.in_err-put-2.ensures.err)

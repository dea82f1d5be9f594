use Rattle.std.proofs.Common.{sym, subst, ap, ◌∙◌}
use Rattle.std.specs.List.{flat_map}
use Rattle.std.specs.Io.KnownBytes.{Appends}
use Rattle.std.proofs.KnownBytes.{Appends-trans}
use Rattle.std.proofs.lemmas.List.{take_all}
use Rattle.textio.specs.Parts.{AppendsPart}
use Rattle.textio.proofs.Known.{on_err}
use Rattle.textio.proofs.Texts.{each_part, taken_more}
use Rattle.shell.specs.Replies.{entry_line}
use Rattle.shell.proofs.Texts.{entry_text, entries_text}
use Rattle.shell.proofs.reply.put_entries.Goals as goal

pub returns-in_err-put_entry-clause-err : goal.returns-in_err-put_entry-clause-err
returns-in_err-put_entry-clause-err g c =
    let a = g.W.Write.contents c.args.writer.now in
    let b = g.W.Write.contents c.loop-kind.writer in
    let d = g.W.Write.contents c.put_entry.new.writer in
    let same = ap (λ n. entry_line (c.loop-kind-item.result.0, n)) c.as_slice.ensures.value ∙ ap entry_text c.loop-kind-item.is in
    let part = subst (AppendsPart b d) same c.in_err-put_entry.ensures.err in
    on_err _ _ (subst (AppendsPart a d) (sym (entries_text c.args.entries.now))
    (each_part entry_text c.loop-kind-item.result a b d c.args.entries.now _ c.loop-kind-test.true c.loop-kind.invariant part))

pub loop-kind-preserved : goal.loop-kind-preserved
loop-kind-preserved g c =
    let a = g.W.Write.contents c.args.writer.now in
    let b = g.W.Write.contents c.loop-kind.writer in
    let d = g.W.Write.contents c.put_entry.new.writer in
    let same = ap (λ n. entry_line (c.loop-kind-item.result.0, n)) c.as_slice.ensures.value ∙ ap entry_text c.loop-kind-item.is in
    let line = subst (Appends b d) same c.in_ok-put_entry.ensures.ok in
    subst (Appends a d) (sym (taken_more entry_text c.loop-kind-item.result c.args.entries.now _ c.loop-kind-test.true)) (Appends-trans a b d _ _ c.loop-kind.invariant line)

pub returns-clause-ok : goal.returns-clause-ok
returns-clause-ok g c =
    subst (Appends _ _) (ap (flat_map entry_text) (take_all _ c.args.entries.now c.loop-kind-test.false) ∙ sym (entries_text c.args.entries.now)) c.loop-kind.invariant

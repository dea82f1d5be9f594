use Rattle.std.proofs.Common.{[], refl, ap, ◌∙◌}
use Rattle.std.proofs.KnownBytes.{Appends-nil}
use Rattle.reference.specs.Worlds.{TakeSnapshot, DropSnapshot as DropNamed, RestoreSnapshot}
use Rattle.shell.specs.declared.request.Request.TheVariants.{Past, Wanted}
use Rattle.std.proofs.lemmas.Result.{IfOk-weaker, on_err_weaker}
use Rattle.shell.proofs.Answering.{answers_as, answers_kept, answers_moment, answers_call, answers_look, answers_settled}
use Rattle.shell.proofs.script.answer.Goals as goal

pub returns-in-Overlong-clause-ok : goal.returns-in-Overlong-clause-ok
returns-in-Overlong-clause-ok g c = IfOk-weaker c.put_line.result _ _ (λ v. answers_kept _ _ _ _ _ c.in-Overlong.is (λ w. (refl, refl))) c.put_line.ensures.ok

pub returns-in-Overlong-clause-err : goal.returns-in-Overlong-clause-err
returns-in-Overlong-clause-err g c = on_err_weaker _ (answers_kept _ _ _ _ _ c.in-Overlong.is (λ w. (refl, refl))) c.put_line.ensures.err

pub returns-in-Malformed-clause-ok : goal.returns-in-Malformed-clause-ok
returns-in-Malformed-clause-ok g c = IfOk-weaker c.put_line-in-Malformed.result _ _ (λ v. answers_kept _ _ _ _ _ c.in-Malformed.is (λ w. (refl, refl))) c.put_line-in-Malformed.ensures.ok

pub returns-in-Malformed-clause-err : goal.returns-in-Malformed-clause-err
returns-in-Malformed-clause-err g c = on_err_weaker _ (answers_kept _ _ _ _ _ c.in-Malformed.is (λ w. (refl, refl))) c.put_line-in-Malformed.ensures.err

pub returns-in-Refused-clause-ok : goal.returns-in-Refused-clause-ok
returns-in-Refused-clause-ok g c = IfOk-weaker c.put_refusal.result _ _ (λ v. answers_kept _ _ _ _ _ c.in-Refused.is (λ w. (refl, refl))) c.put_refusal.ensures.ok

pub returns-in-Refused-clause-err : goal.returns-in-Refused-clause-err
returns-in-Refused-clause-err g c = on_err_weaker _ (answers_kept _ _ _ _ _ c.in-Refused.is (λ w. (refl, refl))) c.put_refusal.ensures.err

pub returns-in-Moment-clause-ok : goal.returns-in-Moment-clause-ok
returns-in-Moment-clause-ok g c = IfOk-weaker c.put_line-in-Moment.result _ _ (λ v. answers_moment _ _ _ _ _ c.in-Moment.is) c.put_line-in-Moment.ensures.ok

pub returns-in-Moment-clause-err : goal.returns-in-Moment-clause-err
returns-in-Moment-clause-err g c = on_err_weaker _ (answers_moment _ _ _ _ _ c.in-Moment.is) c.put_line-in-Moment.ensures.err

pub returns-in-Wanted-Readdir-clause-ok : goal.returns-in-Wanted-Readdir-clause-ok
returns-in-Wanted-Readdir-clause-ok g c =
    let call = rw c.in-Wanted-Readdir.is at c.in-Wanted-Readdir.field-0-is in
    let l = c.list-listed.ensures in
    IfOk-weaker c.put_listing.result _ _ (λ v. answers_call _ _ _ _ _ _ _ (c.in-Wanted-Readdir.is ∙ ap Wanted call) l.2) (c.put_listing.ensures.ok l.0 l.1)

pub returns-in-Wanted-Readdir-clause-err : goal.returns-in-Wanted-Readdir-clause-err
returns-in-Wanted-Readdir-clause-err g c =
    let call = rw c.in-Wanted-Readdir.is at c.in-Wanted-Readdir.field-0-is in
    let l = c.list-listed.ensures in
    on_err_weaker _ (answers_call _ _ _ _ _ _ _ (c.in-Wanted-Readdir.is ∙ ap Wanted call) l.2) (c.put_listing.ensures.err l.0 l.1)

pub returns-in-Wanted-clause-ok : goal.returns-in-Wanted-clause-ok
returns-in-Wanted-clause-ok g c = IfOk-weaker c.put_reply.result _ _ (λ v. answers_call _ _ _ _ _ _ _ c.in-Wanted.is c.call-reply.ensures) c.put_reply.ensures.ok

pub returns-in-Wanted-clause-err : goal.returns-in-Wanted-clause-err
returns-in-Wanted-clause-err g c = on_err_weaker _ (answers_call _ _ _ _ _ _ _ c.in-Wanted.is c.call-reply.ensures) c.put_reply.ensures.err

pub returns-in-Snapshot-clause-ok : goal.returns-in-Snapshot-clause-ok
returns-in-Snapshot-clause-ok g c = IfOk-weaker c.put_settled.result _ _ (λ v. answers_settled _ _ _ _ _ (TakeSnapshot c.in-Snapshot.name) _ (λ w text w'. answers_as _ _ w text w' c.in-Snapshot.is) c.snapshot-settled.ensures) c.put_settled.ensures.ok

pub returns-in-Snapshot-clause-err : goal.returns-in-Snapshot-clause-err
returns-in-Snapshot-clause-err g c = on_err_weaker _ (answers_settled _ _ _ _ _ (TakeSnapshot c.in-Snapshot.name) _ (λ w text w'. answers_as _ _ w text w' c.in-Snapshot.is) c.snapshot-settled.ensures) c.put_settled.ensures.err

pub returns-in-DropSnapshot-clause-ok : goal.returns-in-DropSnapshot-clause-ok
returns-in-DropSnapshot-clause-ok g c = IfOk-weaker c.put_settled-in-DropSnapshot.result _ _ (λ v. answers_settled _ _ _ _ _ (DropNamed c.in-DropSnapshot.name) _ (λ w text w'. answers_as _ _ w text w' c.in-DropSnapshot.is) c.drop_snapshot-settled.ensures) c.put_settled-in-DropSnapshot.ensures.ok

pub returns-in-DropSnapshot-clause-err : goal.returns-in-DropSnapshot-clause-err
returns-in-DropSnapshot-clause-err g c = on_err_weaker _ (answers_settled _ _ _ _ _ (DropNamed c.in-DropSnapshot.name) _ (λ w text w'. answers_as _ _ w text w' c.in-DropSnapshot.is) c.drop_snapshot-settled.ensures) c.put_settled-in-DropSnapshot.ensures.err

pub returns-in-Restore-clause-ok : goal.returns-in-Restore-clause-ok
returns-in-Restore-clause-ok g c = IfOk-weaker c.put_settled-in-Restore.result _ _ (λ v. answers_settled _ _ _ _ _ (RestoreSnapshot c.in-Restore.name) _ (λ w text w'. answers_as _ _ w text w' c.in-Restore.is) c.restore-settled.ensures) c.put_settled-in-Restore.ensures.ok

pub returns-in-Restore-clause-err : goal.returns-in-Restore-clause-err
returns-in-Restore-clause-err g c = on_err_weaker _ (answers_settled _ _ _ _ _ (RestoreSnapshot c.in-Restore.name) _ (λ w text w'. answers_as _ _ w text w' c.in-Restore.is) c.restore-settled.ensures) c.put_settled-in-Restore.ensures.err

pub returns-in-Past-clause-ok : goal.returns-in-Past-clause-ok
returns-in-Past-clause-ok g c = IfOk-weaker c.put_reply-in-Past.result _ _ (λ v. answers_look _ _ _ _ _ _ _ _ c.in-Past.is c.read_snapshot-reply.ensures) c.put_reply-in-Past.ensures.ok

pub returns-in-Past-clause-err : goal.returns-in-Past-clause-err
returns-in-Past-clause-err g c = on_err_weaker _ (answers_look _ _ _ _ _ _ _ _ c.in-Past.is c.read_snapshot-reply.ensures) c.put_reply-in-Past.ensures.err

pub returns-in-Silent-clause-ok : goal.returns-in-Silent-clause-ok
returns-in-Silent-clause-ok g c = answers_kept _ _ _ _ [] c.in-Silent.is (λ w. (refl, refl)) (Appends-nil _, refl)

pub returns-in-Past-default-Readdir-clause-ok : goal.returns-in-Past-default-Readdir-clause-ok
returns-in-Past-default-Readdir-clause-ok g c =
    let read = rw c.in-Past-default-Readdir.is at c.in-Past-default-Readdir.field-1-is in
    let l = rw c.in-Past-default-Readdir.field-1-is at c.list_snapshot-listed.ensures in
    IfOk-weaker c.put_listing-in-Past-default-Readdir.result _ _ (λ v. answers_look _ _ _ _ _ _ _ _ (c.in-Past-default-Readdir.is ∙ ap (Past c.in-Past-default-Readdir.name) read) l.2) (c.put_listing-in-Past-default-Readdir.ensures.ok l.0 l.1)

pub returns-in-Past-default-Readdir-clause-err : goal.returns-in-Past-default-Readdir-clause-err
returns-in-Past-default-Readdir-clause-err g c =
    let read = rw c.in-Past-default-Readdir.is at c.in-Past-default-Readdir.field-1-is in
    let l = rw c.in-Past-default-Readdir.field-1-is at c.list_snapshot-listed.ensures in
    on_err_weaker _ (answers_look _ _ _ _ _ _ _ _ (c.in-Past-default-Readdir.is ∙ ap (Past c.in-Past-default-Readdir.name) read) l.2) (c.put_listing-in-Past-default-Readdir.ensures.err l.0 l.1)

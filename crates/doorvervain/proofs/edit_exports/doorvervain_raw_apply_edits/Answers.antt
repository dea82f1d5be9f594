use Rattle.std.proofs.Common.{◌≡◌, Result, IfErr, IfOk, sym, subst}
use Rattle.volume.specs.Volumes.{Means, PVolume}
use Rattle.pathkey.specs.declared.errno.Errno.{Errno}
use Rattle.doorvervain.specs.Edits.{NotEdited}
use Rattle.doorvervain.proofs.Editing.{edited_line, edited_refused}
use Rattle.doorvervain.proofs.edit_exports.doorvervain_raw_apply_edits.Goals as goal

pub returns-clause-line : goal.returns-clause-line
returns-clause-line c =
    subst (λ (r : Result (Unit {0}) Errno). IfOk r (λ _. c.answer.new.line ≡ 0)) (sym c.number.ensures.reported) (edited_line c.apply_edits.result c.answer.result c.answer.new.line c.answer.ensures)

pub returns-clause-refused : goal.returns-clause-refused
returns-clause-refused c = λ w n.
    let m : Means c.volume.result.now w = subst (λ (v : PVolume). Means v w) (sym c.volume.ensures.value) n in
    subst (λ (r : Result (Unit {0}) Errno). IfErr r (λ e. NotEdited c.args.text.now w.live e c.answer.new.line)) (sym c.number.ensures.reported)
    (edited_refused c.args.text.now w.live c.apply_edits.result c.answer.result c.answer.new.line c.answer.ensures
    (λ line is. (c.apply_edits.ensures.bad line is, c.apply_edits.ensures.fitting line w m is)) (λ line is. c.apply_edits.ensures.unfit line w m is))

use Rattle.std.proofs.Common.{inl, refl, sym}
use Rattle.std.proofs.lemmas.Result.{IfOk-weaker, on_err_weaker}
use Rattle.shell.specs.declared.request.Request.TheVariants.{Moment}
use Rattle.shell.proofs.Answering.{answers_moment, line_done}
use Rattle.shell.proofs.script.answer_line.Goals as goal

pub returns-in-Some-clause-ok : goal.returns-in-Some-clause-ok
returns-in-Some-clause-ok g c =
    let at = c.in-Some.timestamp in
    IfOk-weaker c.put_line.result _ _ (λ v wrote. line_done _ _ _ c.args.line.now (Moment at) (inl (sym c.in-Some.ensures)) (answers_moment _ _ at _ (Moment at) refl wrote)) c.put_line.ensures.ok

pub returns-in-Some-clause-err : goal.returns-in-Some-clause-err
returns-in-Some-clause-err g c =
    let at = c.in-Some.timestamp in
    on_err_weaker c.put_line.result (line_done _ _ _ c.args.line.now (Moment at) (inl (sym c.in-Some.ensures))) (on_err_weaker c.put_line.result (answers_moment _ _ at _ (Moment at) refl) c.put_line.ensures.err)

pub returns-clause-ok : goal.returns-clause-ok
returns-clause-ok g c =
    IfOk-weaker c.answer.result _ _ (λ v. line_done _ _ _ c.args.line.now _ c.read_request.ensures) c.answer.ensures.ok

pub returns-clause-err : goal.returns-clause-err
returns-clause-err g c = on_err_weaker _ (line_done _ _ _ c.args.line.now _ c.read_request.ensures) c.answer.ensures.err

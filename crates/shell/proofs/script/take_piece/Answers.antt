use Rattle.std.proofs.Common.{◌∙◌, refl, rules}
use Rattle.std.proofs.lemmas.List.{nil_from_length}
use Rattle.textio.proofs.HeldFacts.{hold_first, hold_more}
use Rattle.shell.proofs.Answering.{error_kept}
use Rattle.shell.proofs.Cutting.{does_line, fails_at_line, fails_line, takes_line, takes_nothing, takes_rest}
use Rattle.shell.proofs.script.take_piece.Goals as goal

pub loop-end-init : goal.loop-end-init
loop-end-init g c = record {
  room = c.requires.room;
  same = refl;
  takes = takes_nothing _ _ _ _ _;
}

pub returns-in_err-do_line-clause-err : goal.returns-in_err-do_line-clause-err
returns-in_err-do_line-clause-err g c =
    let ended = rw c.loop-end.invariant.same at c.in_err-do_line.ensures.err in
    error_kept c.from_residual.result _ _ c.from_residual.ensures
    (fails_at_line _ _ _ _ _ _ _ _ _ _ _ _ _ _ c.loop-end.invariant.takes c.in-Some.ensures.0
    (fails_line _ _ _ _ _ _ c.in-Some.end.now _ _ (λ held holds. hold_first held _ _ holds c.in-Some.ensures.1 (search rules)) ended))

pub returns-in_err-do_line-2-clause-err : goal.returns-in_err-do_line-2-clause-err
returns-in_err-do_line-2-clause-err g c =
    let answered = rw c.as_slice.ensures.value at c.in_err-do_line-2.ensures.err in
    let ended = rw c.loop-end.invariant.same at answered in
    error_kept c.from_residual-in_err-do_line-2.result _ _ c.from_residual-in_err-do_line-2.ensures
    (fails_at_line _ _ _ _ _ _ _ _ _ _ _ _ _ _ c.loop-end.invariant.takes c.in-Some.ensures.0
    (fails_line _ _ _ _ _ _ c.in-Some.end.now _ _ (λ held holds. hold_more held _ _ _ holds c.in-Some.ensures.1 c.push_limited.ensures.short c.push_limited.ensures.long) ended))

pub loop-end-preserved-in_ok-do_line : goal.loop-end-preserved-in_ok-do_line
loop-end-preserved-in_ok-do_line g c =
    let answered = rw c.loop-end.invariant.same at c.in_ok-do_line.ensures.ok in record {
      room = c.loop-end.invariant.room;
      same = c.in_ok-do_line.ensures.same ∙ c.loop-end.invariant.same;
      takes = takes_line _ _ _ _ _ _ _ _ _ _ _ _ _ _ c.loop-end.invariant.takes c.in-Some.ensures.0
          (does_line _ _ _ _ _ c.in-Some.end.now _ _ _ (λ held holds. hold_first held _ _ holds c.in-Some.ensures.1 (search rules)) (nil_from_length _ (search rules)) answered);
    }

pub loop-end-preserved : goal.loop-end-preserved
loop-end-preserved g c =
    let whole = rw c.as_slice.ensures.value at c.in_ok-do_line-2.ensures.ok in
    let answered = rw c.loop-end.invariant.same at whole in record {
      room = search rules;
      same = c.in_ok-do_line-2.ensures.same ∙ c.loop-end.invariant.same;
      takes = takes_line _ _ _ _ _ _ _ _ _ _ _ _ _ _ c.loop-end.invariant.takes c.in-Some.ensures.0
          (does_line _ _ _ _ _ c.in-Some.end.now _ _ _ (λ held holds. hold_more held _ _ _ holds c.in-Some.ensures.1 c.push_limited.ensures.short c.push_limited.ensures.long)
          c.clear.ensures.items answered);
    }

pub returns-clause-ok : goal.returns-clause-ok
returns-clause-ok g c =
    takes_rest _ _ _ _ _ _ _ _ _ _ c.loop-end.invariant.takes c.in_default.ensures c.push_limited-2.ensures.short c.push_limited-2.ensures.long

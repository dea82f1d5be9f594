use Rattle.std.proofs.Common.{sym, ◌∙◌, arith}
use Rattle.edits.proofs.ApplyFacts.{begun, ended, few_lines, line_failed, no_heading, one_done, stopped}
use Rattle.edits.proofs.WordFacts.{not_same, same_word}
use Rattle.edits.proofs.apply.apply_lines.Goals as goal

pub returns-in_default-clause-does : goal.returns-in_default-clause-does
returns-in_default-clause-does c = no_heading c.args.text.now c.args.volume.now c.args.volume.now c.in_default.ensures

pub lines-init : goal.lines-init
lines-init c = begun c.args.text.now c.in-Some.lines.now c.args.volume.now c.in-Some.ensures

pub overflow_add-number : goal.overflow_add-number
overflow_add-number c = omega (arith, few_lines c.args.text.now c.lines.rest.now c.lines.number c.args.volume.now c.lines.volume c.lines.invariant)

pub returns-then-eq-clause-does : goal.returns-then-eq-clause-does
returns-then-eq-clause-does c =
    ended c.args.text.now c.lines.rest.now c.lines.number c.args.volume.now c.lines.volume c.lines.invariant c.in-Some-split_line.line.now c.in-Some-split_line.behind.now c.in-Some-split_line.ensures.0
    (same_word c.in-Some-split_line.line.now c.as_slice.result.now (sym c.eq.ensures ∙ c.if-eq.true) ∙ c.as_slice.ensures) c.check_end.result c.check_end.ensures

pub returns-in-Err-clause-does : goal.returns-in-Err-clause-does
returns-in-Err-clause-does c =
    line_failed c.args.text.now c.lines.rest.now c.lines.number c.args.volume.now c.lines.volume c.lines.invariant c.in-Some-split_line.line.now c.in-Some-split_line.behind.now c.in-Some-split_line.ensures.0
    c.apply_line.new.volume c.in-Err.fault c.in-Some-split_line.ensures.1 (λ e. not_same c.in-Some-split_line.line.now c.as_slice.result.now (sym c.eq.ensures ∙ c.if-eq.false) (e ∙ sym c.as_slice.ensures))
    c.in-Err.ensures

pub overflow_add-number-in-Some-split_line : goal.overflow_add-number-in-Some-split_line
overflow_add-number-in-Some-split_line c = omega (arith, few_lines c.args.text.now c.lines.rest.now c.lines.number c.args.volume.now c.lines.volume c.lines.invariant)

pub lines-preserved : goal.lines-preserved
lines-preserved c =
    one_done c.args.text.now c.lines.rest.now c.lines.number c.args.volume.now c.lines.volume c.lines.invariant c.in-Some-split_line.line.now c.in-Some-split_line.behind.now c.in-Some-split_line.ensures.0
    c.apply_line.new.volume c.in_default-apply_line.ensures

pub returns-clause-does : goal.returns-clause-does
returns-clause-does c = stopped c.args.text.now c.lines.rest.now c.lines.number c.args.volume.now c.lines.volume c.lines.invariant c.in_default-split_line.ensures

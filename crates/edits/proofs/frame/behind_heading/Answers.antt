use Rattle.std.proofs.Common.{sym, ◌∙◌}
use Rattle.edits.proofs.BadFacts.{bad_heading, bad_start}
use Rattle.edits.proofs.WordFacts.{not_same}
use Rattle.edits.proofs.frame.behind_heading.Goals as goal

pub returns-in_default : goal.returns-in_default
returns-in_default c = bad_start c.args.text.now c.in_default.ensures

pub returns-else-eq : goal.returns-else-eq
returns-else-eq c =
    bad_heading c.args.text.now c.in-Some.line.now c.in-Some.behind.now c.in-Some.ensures.0 c.in-Some.ensures.1
    (λ e. not_same c.in-Some.line.now c.as_slice.result.now (sym c.eq.ensures ∙ c.if-eq.false) (e ∙ sym c.as_slice.ensures))

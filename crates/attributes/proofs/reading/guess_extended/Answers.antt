use Rattle.std.proofs.Common.{List, ◌++◌, ap, sym, subst}
use Rattle.attributes.specs.declared.record.ExtendedAttribute.{ExtendedAttribute}
use Rattle.attributes.specs.Attributes.{AreBytesOf}
use Rattle.attributes.specs.Text.{extended_line}
use Rattle.attributes.proofs.ReadFacts.{Continues, continues_more, continues_none, line_reported, no_line, some_bytes}
use Rattle.attributes.proofs.reading.guess_extended.Goals as goal

pub loop-line-init : goal.loop-line-init
loop-line-init c = λ es are is. record { others = es; keep = are; split = ap (λ (l : List ExtendedAttribute). l ++ es) (sym c.new-extended.ensures); here = is }

pub loop-line-preserved : goal.loop-line-preserved
loop-line-preserved c = λ es are is.
    let rest = c.loop-line.rest.now in
    let line = c.in-Some.line.now in
    let after = c.in-Some.after.now in
    subst (λ (done : List ExtendedAttribute). Continues AreBytesOf extended_line es done after) (sym c.in_ok-push.ensures)
    (continues_more AreBytesOf extended_line es c.loop-line.extended rest after c.in_ok-one.one (c.loop-line.invariant es are is)
    (some_bytes rest line after 10 c.in-Some.ensures.0)
    (line_reported rest line after c.in_ok-one.one c.in-Some.ensures.0 c.in-Some.ensures.1 c.in_ok-one.ensures))

pub returns : goal.returns
returns c = λ es are is. continues_none AreBytesOf extended_line es c.loop-line.extended c.loop-line.rest.now (c.loop-line.invariant es are is) (no_line c.loop-line.rest.now c.in_default.ensures)

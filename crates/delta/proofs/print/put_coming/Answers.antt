use Rattle.std.proofs.Common.{[], ◌∷◌, ◌++◌, subst}
use Rattle.std.specs.Io.KnownBytes.{Appends}
use Rattle.textio.specs.Parts.{AppendsPart}
use Rattle.textio.proofs.Known.{all_is_part, on_err}
use Rattle.delta.specs.Deltas.{Come, commands_text}
use Rattle.delta.proofs.BeginFacts.{begun_come, begun_none, begun_then, some_come, some_put, some_then}
use Rattle.delta.proofs.PrintFacts.{puts_come, puts_none, puts_then}
use Rattle.delta.proofs.print.put_coming.Goals as goal

pub loop-init : goal.loop-init
loop-init g c = ([], puts_none _ c.args.old.now c.args.new.now)

pub loop-preserved : goal.loop-preserved
loop-preserved g c =
    let (cs, puts) = c.loop.invariant in
    let line = c.loop.new.line.items in
    let text = subst (λ l. Appends (g.W.Write.contents c.loop.writer) (g.W.Write.contents c.print_insert.new.writer) (commands_text (Come l ∷ []))) c.as_slice.ensures.value c.in_ok-print_insert.ensures.ok in
    (cs ++ Come line ∷ [], puts_then cs (Come line ∷ []) _ _ _ _ _ _ _ _ _ puts (puts_come line _ _ _ _ _ c.loop.new.free text c.in_ok-step.ensures))

pub returns-in_err-print_insert-clause-err : goal.returns-in_err-print_insert-clause-err
returns-in_err-print_insert-clause-err g c =
    let (cs, puts) = c.loop.invariant in
    let there = c.is_inserted.ensures c.if-not-is_inserted.false in
    let text = subst (λ l. AppendsPart (g.W.Write.contents c.loop.writer) (g.W.Write.contents c.print_insert.new.writer) (commands_text (Come l ∷ []))) c.as_slice.ensures.value c.in_err-print_insert.ensures.err in
    on_err _ _ (begun_then cs _ _ _ _ _ _ _ puts (begun_come _ _ c.args.old.now c.loop.new there text))

pub returns-in_err-step-clause-err : goal.returns-in_err-step-clause-err
returns-in_err-step-clause-err g c =
    let (cs, puts) = c.loop.invariant in
    let there = c.is_inserted.ensures c.if-not-is_inserted.false in
    let text = subst (λ l. Appends (g.W.Write.contents c.loop.writer) (g.W.Write.contents c.print_insert.new.writer) (commands_text (Come l ∷ []))) c.as_slice.ensures.value c.in_ok-print_insert.ensures.ok in
    on_err _ _ (begun_then cs _ _ _ _ _ _ _ puts (begun_come _ _ c.args.old.now c.loop.new there (all_is_part _ _ _ text)))

pub returns-clause-err : goal.returns-clause-err
returns-clause-err g c =
    let (cs, puts) = c.loop.invariant in
    begun_then cs _ _ _ _ _ _ _ puts (begun_none _ c.args.old.now c.loop.new)

pub returns-in_err-step-clause-memory : goal.returns-in_err-step-clause-memory
returns-in_err-step-clause-memory g c = λ e.
    let (cs, puts) = c.loop.invariant in
    let there = c.is_inserted.ensures c.if-not-is_inserted.false in
    let text = subst (λ l. Appends (g.W.Write.contents c.loop.writer) (g.W.Write.contents c.print_insert.new.writer) (commands_text (Come l ∷ []))) c.as_slice.ensures.value c.in_ok-print_insert.ensures.ok in
    some_then cs _ _ _ _ _ _ _ puts (some_come _ _ c.args.old.now c.loop.new there text)

pub returns-clause-memory : goal.returns-clause-memory
returns-clause-memory g c = λ e.
    let (cs, puts) = c.loop.invariant in
    some_put cs _ _ _ _ _ _ puts

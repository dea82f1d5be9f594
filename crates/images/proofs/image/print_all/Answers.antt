use Rattle.std.proofs.Common.{◌∙◌, sym, arith}
use Rattle.textio.proofs.Known.{on_err}
use Rattle.images.proofs.Printed.{printed_all, printed_lines, printed_more, printed_more_part, printed_part, printed_root, root_part}
use Rattle.images.proofs.image.print_all.Goals as goal

pub returns-in_err-put_number_line-clause-err : goal.returns-in_err-put_number_line-clause-err
returns-in_err-put_number_line-clause-err g c = λ t mean.
    on_err _ _ (root_part _ _ t c.args.spot.now c.modified.result mean.indexes.tree (mean.root ∙ sym c.modified.ensures) c.requires.place c.in_err-put_number_line.ensures.err)

pub loop-init : goal.loop-init
loop-init g c = record {
  tree = c.new-blocks.ensures;
  printed = λ t mean. printed_root _ _ t c.args.spot.now c.modified.result mean.indexes.tree (mean.root ∙ sym c.modified.ensures) c.requires.place c.in_ok-put_number_line.ensures.ok;
  ahead = λ t mean. c.requires.ahead t c.args.spot.now.last;
}

pub returns-in_err-print-clause-err : goal.returns-in_err-print-clause-err
returns-in_err-print-clause-err g c = λ t mean. on_err _ _ (printed_part _ _ t c.loop.spot (c.loop.invariant.printed t mean))

pub returns-in_err-print-clause-memory : goal.returns-in_err-print-clause-memory
returns-in_err-print-clause-memory g c = λ t mean e. printed_lines _ _ t c.loop.spot (c.loop.invariant.printed t mean)

pub returns-in_err-put-clause-err : goal.returns-in_err-put-clause-err
returns-in_err-put-clause-err g c = λ t mean.
    let so_far = c.loop.invariant.printed t mean in
    let on = c.in_ok-print.ensures.passes t mean so_far.3 (c.loop.invariant.ahead t mean) in
    on_err _ _ (printed_more_part _ _ _ t c.loop.spot _ _ so_far (rw c.clear.ensures.items at on) (rw c.as_slice.ensures.value at c.in_err-put.ensures.err))

pub returns-then-len-lt-ENOUGH-clause-ok : goal.returns-then-len-lt-ENOUGH-clause-ok
returns-then-len-lt-ENOUGH-clause-ok g c = λ t mean.
    let so_far = c.loop.invariant.printed t mean in
    let ahead = c.loop.invariant.ahead t mean in
    let on = c.in_ok-print.ensures.passes t mean so_far.3 ahead in
    printed_all _ _ t c.print.new.self (c.in_ok-print.ensures.rest t mean so_far.3 ahead (omega (arith, c.if-len-lt-ENOUGH.true, c.len.ensures)))
    (printed_more _ _ _ t c.loop.spot _ _ so_far (rw c.clear.ensures.items at on) (rw c.as_slice.ensures.value at c.in_ok-put.ensures.ok))

pub loop-preserved : goal.loop-preserved
loop-preserved g c = record {
  tree = c.in_ok-print.ensures.tree ∙ c.loop.invariant.tree;
  printed = λ t mean.
      let so_far = c.loop.invariant.printed t mean in
      let on = c.in_ok-print.ensures.passes t mean so_far.3 (c.loop.invariant.ahead t mean) in
      printed_more _ _ _ t c.loop.spot _ _ so_far (rw c.clear.ensures.items at on) (rw c.as_slice.ensures.value at c.in_ok-put.ensures.ok);
  ahead = λ t mean. c.in_ok-print.ensures.ahead t mean (c.loop.invariant.printed t mean).3 (c.loop.invariant.ahead t mean);
}

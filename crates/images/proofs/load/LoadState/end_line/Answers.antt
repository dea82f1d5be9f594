use Rattle.std.proofs.Common.{◌≡◌, ◌∙◌, length, rules}
use Rattle.std.proofs.lemmas.List.{nil_from_length}
use Rattle.textio.proofs.Known.{on_ok_both}
use Rattle.images.proofs.LoadCutting.{line_loaded, line_refused}
use Rattle.textio.proofs.HeldFacts.{hold_first, hold_more}
use Rattle.images.proofs.load.LoadState.end_line.Goals as goal

pub returns-then-is_empty-clause-ok : goal.returns-then-is_empty-clause-ok
returns-then-is_empty-clause-ok c =
    let none : length c.args.held.now.items ≡ 0 = search rules in
    on_ok_both _ _ _ _
    (line_loaded c.args.end.now _ _ _ _ _ (λ held holds. hold_first held _ _ holds c.requires.free none) (nil_from_length _ none))
    c.take_line.ensures.short
    c.take_line.ensures.ok

pub returns-then-is_empty-clause-bad : goal.returns-then-is_empty-clause-bad
returns-then-is_empty-clause-bad c = λ n e.
    let none : length c.args.held.now.items ≡ 0 = search rules in
    let reported = c.take_line.ensures.bad n e in
    line_refused c.args.end.now _ _ n _ (λ held holds. hold_first held _ _ holds c.requires.free none) (reported.0 ∙ c.in_ok-number.ensures.ok) reported.1

pub returns-in-Err-clause-bad : goal.returns-in-Err-clause-bad
returns-in-Err-clause-bad c = λ n e.
    let reported = c.take_line-2.ensures.bad n (c.in-Err.is ∙ e) in
    line_refused c.args.end.now _ _ n _ (λ held holds. hold_more held _ _ _ holds c.requires.free c.push_limited.ensures.short c.push_limited.ensures.long)
    (reported.0 ∙ c.in_ok-number.ensures.ok)
    (rw c.as_slice.ensures.value at reported.1)

pub returns-clause-ok : goal.returns-clause-ok
returns-clause-ok c =
    let loads = rw c.as_slice.ensures.value at c.in_default.ensures.ok in
    let short = rw c.as_slice.ensures.value at c.in_default.ensures.short in
    line_loaded c.args.end.now _ _ _ _ _ (λ held holds. hold_more held _ _ _ holds c.requires.free c.push_limited.ensures.short c.push_limited.ensures.long)
    c.clear.ensures.items short loads

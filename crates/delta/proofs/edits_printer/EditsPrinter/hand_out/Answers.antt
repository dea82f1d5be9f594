use Rattle.std.proofs.Common.{◌≡◌, ◌+◌, ◌-◌, ◌++◌, List, ℕ, ap, arith, subst, drop, take, ◌∙◌}
use Rattle.delta.specs.Printers.{HandsOn, PEdits, text_items}
use Rattle.delta.proofs.PrinterFacts.{handed_on}
use Rattle.delta.proofs.edits_printer.EditsPrinter.hand_out.Goals as goal

pub returns : goal.returns
returns c =
    let i = c.self.inside in
    let size : i.handed + c.min-count.result - i.handed ≡ c.min-count.result = omega arith in
    subst (λ (p : PEdits). HandsOn p c.min-count.result (record { from = i.from; to = i.to; text = text_items i.text; handed = i.handed + c.min-count.result }) c.args.out.now (c.copy_from_slice.new.self ++ drop c.min-count.result c.args.out.now)) c.self.view_is
    (handed_on i.from i.to i.text c.in-Some.text i.handed c.min-count.result c.args.out.now c.copy_from_slice.new.self c.in-Some.is c.self.invariant.1
    (omega arith)
    (c.copy_from_slice.ensures.after ∙ ap (λ (n : ℕ). take n (drop i.handed c.as_slice.result.now)) size ∙ ap (λ (x : List ℕ). take c.min-count.result (drop i.handed x)) c.as_slice.ensures.value))

use Rattle.std.proofs.Common.{arith, refl, sym, ◌≡◌, true, false, ◌-◌, ◌+◌}
use borrow.Author.Rules.{of_calls}
use Rattle.std.proofs.lemmas.List.Elements.{at_read}
use Rattle.std.proofs.lemmas.Fn.{called}
use Rattle.cow_map.proofs.Striding.{risen, fallen, answers_next}
use Rattle.cow_map.proofs.strides.narrow.Goals as goal

pub returns-then-not-pred-clause-between : goal.returns-then-not-pred-clause-between
returns-then-not-pred-clause-between g c =
    let xs = c.args.xs.now in let low = c.loop-low.low in let high = c.args.within.high in let last = low + (c.args.stride - 1) in
    let k = called g.P.FnMut c.if-not-pred.ensures refl in
    λ p h b. let i = c.loop-low.invariant.3 p h b in let n = answers_next g.P.FnMut (λ a r. r ≡ p a.0.now) _ _ _ _ k i.0 in (n.1, fallen p xs low high last (at_read xs (λ y. p y ≡ false) last c.index-xs-last.result (omega arith) c.index-xs-last.is (sym n.0)) i.1)

pub loop-low-preserved : goal.loop-low-preserved
loop-low-preserved g c =
    let xs = c.args.xs.now in let low = c.loop-low.low in let high = c.args.within.high in let last = low + (c.args.stride - 1) in
    let k = called g.P.FnMut c.if-not-pred.ensures refl in
    (omega arith, omega arith, search of_calls, λ p h b. let i = c.loop-low.invariant.3 p h b in let n = answers_next g.P.FnMut (λ a r. r ≡ p a.0.now) _ _ _ _ k i.0 in (n.1, risen p xs low high last (omega arith) (at_read xs (λ y. p y ≡ true) last c.index-xs-last.result (omega arith) c.index-xs-last.is (sym n.0)) i.1))

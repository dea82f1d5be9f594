use Rattle.std.proofs.Common.{sym, ◌≤◌, ◌/◌, ◌-◌, ◌+◌, subst, length, drop, arith}
use Rattle.node.specs.Leaves.{IsDivided}
use Rattle.node.proofs.Halves.{is_divided}
use Rattle.node.proofs.node.leaf.split_half.Goals as goal

pub returns-clause-ok : goal.returns-clause-ok
returns-clause-ok g c =
    let es = c.args.entries.now.items in
    let m = c.len-middle.result / 2 in
    let low : m ≤ length es - m = omega (arith, c.len-middle.ensures) in
    let high : length es - m ≤ m + 1 = omega (arith, c.len-middle.ensures) in
    let halves = is_divided es m c.index.result.now c.requires.rising c.requires.two low high c.index.ensures in
    let front = subst (λ xs. IsDivided es xs (drop m es) c.index.result.now.0) (sym c.in_ok-back.ensures.items) halves in
    let back = subst (λ xs. IsDivided es c.split_off.new.self.items xs c.index.result.now.0) (sym c.in_ok-back.ensures.tail) front in
    subst (λ k. IsDivided es c.split_off.new.self.items c.in_ok-back.back.items k) (sym c.in_ok-pivot.ensures) back

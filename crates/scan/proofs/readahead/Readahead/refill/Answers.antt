use Rattle.std.proofs.Common.{◌≤◌, ◌<◌, arith, ap, sym, subst, length, max, nat_lt}
use Rattle.std.proofs.lemmas.Bool.Decides.{nat_tests}
use Rattle.std.proofs.lemmas.List.{nil_from_length}
use Rattle.node.specs.Meaning.{value}
use Rattle.scan.specs.Pairs.{IsScan}
use Rattle.scan.proofs.AtHand.{piece_given}
use Rattle.scan.proofs.Sizes.{piece_of}
use Rattle.scan.proofs.readahead.Readahead.refill.Goals as goal

pub returns-clause-given : goal.returns-clause-given
returns-clause-given g c =
    let f = value g.U.Update.means c.args.tree.now.root in
    let lo = c.args.range.now.lo in
    let hi = c.args.range.now.hi in
    let some : 0 < c.max-most.result = omega (arith, c.max-most.ensures) in
    piece_given f lo hi c.max-most.result c.pop_front.result (nat_lt c.len.result c.max-most.result) c.from_vec.result.items c.pop_front.new.self.items some
    (subst (IsScan f lo hi c.max-most.result) (sym c.from_vec.ensures.items) c.in_ok-piece.ensures)
    (λ t. let same = ap length c.from_vec.ensures.items in let few : c.len.result < c.max-most.result = grind (arith, nat_tests, t) in omega (arith, same, few, c.len.ensures, c.in_ok-piece.piece.ok.0))
    c.pop_front.ensures.items
    (λ none. let z = rw none at c.pop_front.ensures.cases in nil_from_length c.pop_front.new.self.items (omega (arith, z.1, c.pop_front.new.self.ok.0)))

pub returns-clause-piece : goal.returns-clause-piece
returns-clause-piece g c =
    let same = ap length c.from_vec.ensures.items in
    piece_of (max c.args.self.now.most 1) c.max-most.result c.pop_front.result (nat_lt c.len.result c.max-most.result) c.from_vec.result.items c.pop_front.new.self.items c.max-most.ensures
    (omega (arith, same, c.in_ok-piece.ensures.few))
    c.pop_front.ensures.items
    (λ t. let full : c.max-most.result ≤ c.len.result = grind (arith, nat_tests, t) in omega (arith, same, full, c.len.ensures, c.in_ok-piece.piece.ok.0))

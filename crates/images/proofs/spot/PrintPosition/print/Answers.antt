use Rattle.std.proofs.Common.{◌∙◌, sym, subst, arith}
use Rattle.pathkey.specs.Names.{Path}
use Rattle.images.specs.Spots.{IsAhead, IsNext}
use Rattle.images.proofs.Spots.{ends_by_all, prints_end, prints_on}
use Rattle.volume.specs.Volumes.{MeanRooted}
use Rattle.images.proofs.spot.PrintPosition.print.Goals as goal

pub loop-init : goal.loop-init
loop-init c = record {
  tree = c.in_ok-print_blocks.ensures.tree ∙ c.requires.tree;
  prints = λ t mean at ahead.
      let here = subst (λ r. MeanRooted r t) (sym c.requires.tree) mean in
      record {
        passes = c.in_ok-print_blocks.ensures.passes t here at;
        passed = c.in_ok-print_blocks.ensures.rest t here at (ends_by_all t c.args.self.now.last _ (omega arith));
        ahead = subst (λ (p : Path). IsAhead t p c.args.ahead.now) (sym c.in_ok-print_blocks.ensures.last) ahead;
      };
}

pub loop-preserved : goal.loop-preserved
loop-preserved c = record {
  tree = c.in_ok-print_entry.ensures.tree ∙ c.loop.invariant.tree;
  prints = λ t mean at ahead.
      let so_far = c.loop.invariant.prints t mean at ahead in
      let here = subst (λ r. MeanRooted r t) (sym c.loop.invariant.tree) mean in
      let next = c.in_ok-path.ensures t so_far.passes.at.0 mean so_far.passes.at.1 so_far.ahead in
      prints_on t c.args.self.now c.loop.self c.print_entry.new.self c.args.text.now.items c.loop.text.items c.print_entry.new.text.items c.loop.ahead c.next.new.self (c.in-Some.path, c.in-Some.meta)
      so_far (omega (arith, c.if-len-ge-ENOUGH.false, c.len.ensures)) (subst (λ r. IsNext t c.loop.self.last r c.next.new.self) c.in-Some.is next)
      (c.in_ok-print_entry.ensures.passes t here) (c.in_ok-print_entry.ensures.rest t here) c.in_ok-print_entry.ensures.last;
}

pub returns-then-len-ge-ENOUGH-clause-passes : goal.returns-then-len-ge-ENOUGH-clause-passes
returns-then-len-ge-ENOUGH-clause-passes c = λ t mean at ahead. (c.loop.invariant.prints t mean at ahead).passes

pub returns-then-len-ge-ENOUGH-clause-ahead : goal.returns-then-len-ge-ENOUGH-clause-ahead
returns-then-len-ge-ENOUGH-clause-ahead c = λ t mean at ahead. (c.loop.invariant.prints t mean at ahead).ahead

pub returns-in_default-clause-passes : goal.returns-in_default-clause-passes
returns-in_default-clause-passes c = λ t mean at ahead. (c.loop.invariant.prints t mean at ahead).passes

pub returns-in_default-clause-ahead : goal.returns-in_default-clause-ahead
returns-in_default-clause-ahead c = λ t mean at ahead.
    let so_far = c.loop.invariant.prints t mean at ahead in
    let next = c.in_ok-path.ensures t so_far.passes.at.0 mean so_far.passes.at.1 so_far.ahead in
    (subst (λ r. IsNext t c.loop.self.last r c.next.new.self) c.in_default.is next).1

pub returns-in_default-clause-rest : goal.returns-in_default-clause-rest
returns-in_default-clause-rest c = λ t mean at ahead short.
    let so_far = c.loop.invariant.prints t mean at ahead in
    let next = c.in_ok-path.ensures t so_far.passes.at.0 mean so_far.passes.at.1 so_far.ahead in
    prints_end t c.args.self.now c.loop.self c.args.text.now.items c.loop.text.items c.loop.ahead c.next.new.self so_far (subst (λ r. IsNext t c.loop.self.last r c.next.new.self) c.in_default.is next) short

use Rattle.std.proofs.Common.{rules, sym, subst}
use Rattle.message.specs.Ranges.{before}
use Rattle.scan.specs.Pairs.{AreAhead}
use Rattle.scan.proofs.AtHand.{taken_by_test, ahead_taken}
use Rattle.scan.proofs.Sizes.{sized_by_test}
use Rattle.scan.proofs.readahead.Readahead.take_from.Goals as goal

pub returns-clause-taken : goal.returns-clause-taken
returns-clause-taken g c = taken_by_test (λ k. before k c.args.lo.now) c.args.self.now.pairs.items c.take_unless.result _ c.take_unless.ensures.taken (λ a r q h. search rules)

pub returns-clause-most : goal.returns-clause-most
returns-clause-most g c = sized_by_test (λ k. before k c.args.lo.now) c.args.self.now.pairs.items c.args.self.now.most _ c.take_unless.ensures.most (λ a r q h. search rules)

pub returns-clause-given : goal.returns-clause-given
returns-clause-given g c = λ f hi ahead.
    let lo = c.args.lo.now in
    let old = c.args.self.now.pairs.items in
    let taken = taken_by_test (λ k. before k lo) old c.take_unless.result _ c.take_unless.ensures.taken (λ a r q h. search rules) in
    ahead_taken f lo hi _ old c.take_unless.result _ taken (subst (λ b. AreAhead f lo hi b old) (sym c.take_unless.ensures.all) ahead)

use Rattle.std.proofs.Common.{rules, eqb, sym, subst}
use Rattle.std.specs.List.{starts_with}
use Rattle.pathkey.specs.Keys.{next_key}
use Rattle.scan.specs.Pairs.{AreFrom}
use Rattle.scan.proofs.AtHand.{taken_by_test, past_taken}
use Rattle.scan.proofs.Sizes.{sized_by_test}
use Rattle.scan.proofs.readahead.Readahead.next_past.Goals as goal

pub returns-clause-taken : goal.returns-clause-taken
returns-clause-taken g c = taken_by_test (λ k. starts_with eqb k c.args.front.now) c.args.self.now.pairs.items c.take_unless.result _ c.take_unless.ensures.taken (λ a r q h. search rules)

pub returns-clause-most : goal.returns-clause-most
returns-clause-most g c = sized_by_test (λ k. starts_with eqb k c.args.front.now) c.args.self.now.pairs.items c.args.self.now.most _ c.take_unless.ensures.most (λ a r q h. search rules)

pub returns-clause-given : goal.returns-clause-given
returns-clause-given g c = λ f hi end is_end from.
    let front = c.args.front.now in
    let old = c.args.self.now.pairs.items in
    let taken = taken_by_test (λ k. starts_with eqb k front) old c.take_unless.result _ c.take_unless.ensures.taken (λ a r q h. search rules) in
    past_taken f front end hi _ is_end old c.take_unless.result _ taken (subst (λ b. AreFrom f (next_key front) hi b old) (sym c.take_unless.ensures.all) from)

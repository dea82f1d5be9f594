use Rattle.std.proofs.Common.{sym, subst, true, ◌≡◌}
use Rattle.pathkey.specs.Keys.{is_below}
use Rattle.range_set.proofs.Last.{first_some, first_none}
use Rattle.range_set.proofs.list.RangeSet.take_first.Goals as goal

pub unreachable-requires : goal.unreachable-requires
unreachable-requires c = c.requires.some (first_none c.args.from.now c.in_default.ensures)

pub fits-requires-clause-some : goal.fits-requires-clause-some
fits-requires-clause-some c = subst (λ h. is_below c.in-Some.lo.now h ≡ true) (sym c.as_ref-hi.ensures.value) (first_some c.args.from.now (c.in-Some.lo.now, c.in-Some.hi.now) c.assert_invariant.ensures c.in-Some.ensures)

pub insert_between-requires-clause-some : goal.insert_between-requires-clause-some
insert_between-requires-clause-some c = subst (λ h. is_below c.in-Some.lo.now h ≡ true) (sym c.as_ref-hi.ensures.value) (first_some c.args.from.now (c.in-Some.lo.now, c.in-Some.hi.now) c.assert_invariant.ensures c.in-Some.ensures)

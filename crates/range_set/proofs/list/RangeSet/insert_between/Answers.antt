use Rattle.std.proofs.Common.{sym, subst}
use Rattle.std.specs.Option.{option_copied}
use Rattle.std.proofs.lemmas.Result.{on_ok_weaker}
use Rattle.range_set.specs.Disjoint.{AreApart, CoversMore}
use Rattle.range_set.specs.Ends.{Widens}
use Rattle.range_set.proofs.Splicing.{wide_covers}
use Rattle.range_set.proofs.list.RangeSet.insert_between.Goals as goal

pub returns-clause-covers : goal.returns-clause-covers
returns-clause-covers c =
    let rs = c.args.self.now in
    let lo = c.args.lo.now in
    let hi = option_copied c.args.hi in
    let wide = c.in_ok-wide.wide in
    let apart = subst (λ t. AreApart t) c.self.view_is c.self.invariant.apart in
    let widens = subst (λ t. Widens t lo hi wide) c.self.view_is c.in_ok-wide.ensures in
    on_ok_weaker c.replace_overlapped.result (λ e. subst (λ t. CoversMore lo hi rs t) (sym e) (wide_covers lo hi rs wide apart widens)) c.replace_overlapped.ensures.ok

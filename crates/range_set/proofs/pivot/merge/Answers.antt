use Rattle.std.proofs.Common.{◌++◌, sym, subst}
use Rattle.range_set.specs.Disjoint.{AreApart}
use Rattle.range_set.proofs.Ends.{apart_rises}
use Rattle.range_set.proofs.Sides.{AreSides, beside}
use Rattle.range_set.proofs.pivot.merge.Goals as goal

pub append-requires : goal.append-requires
append-requires g c =
    let both = beside g.row.U.Denot g.row.U-Value.Denot c.args.pivot.now c.args.front c.args.back c.requires.front_apart c.requires.back_apart c.requires.before c.requires.from c.merge_touching.new.front c.merge_touching.new.back c.in_ok-merge_touching.ensures in
    apart_rises (c.merge_touching.new.front ++ c.merge_touching.new.back) both.apart

pub returns-clause-merged : goal.returns-clause-merged
returns-clause-merged g c =
    let both = beside g.row.U.Denot g.row.U-Value.Denot c.args.pivot.now c.args.front c.args.back c.requires.front_apart c.requires.back_apart c.requires.before c.requires.from c.merge_touching.new.front c.merge_touching.new.back c.in_ok-merge_touching.ensures in
    subst (λ t. AreSides g.row.U.Denot g.row.U-Value.Denot c.args.pivot.now c.args.front c.args.back t) (sym c.in_ok-append.ensures.entries) both.sides

pub returns-clause-apart : goal.returns-clause-apart
returns-clause-apart g c =
    let both = beside g.row.U.Denot g.row.U-Value.Denot c.args.pivot.now c.args.front c.args.back c.requires.front_apart c.requires.back_apart c.requires.before c.requires.from c.merge_touching.new.front c.merge_touching.new.back c.in_ok-merge_touching.ensures in
    subst (λ t. AreApart t) (sym c.in_ok-append.ensures.entries) both.apart

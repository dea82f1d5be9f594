use Rattle.range_set.proofs.Sides.{parted_all}
use Rattle.range_set.proofs.pivot.split.Goals as goal

pub returns-clause-sides : goal.returns-clause-sides
returns-clause-sides g c =
    let parts = c.in_ok-back.ensures in
    (parted_all g.row.U.Denot g.row.U-Value.Denot c.args.pivot.now c.args.rows c.split_off.new.self c.in_ok-back.back parts.parts c.requires parts.front parts.back c.split_last.new.front c.split_last.new.back c.in_ok-split_last.ensures).sides

pub returns-clause-apart : goal.returns-clause-apart
returns-clause-apart g c =
    let parts = c.in_ok-back.ensures in
    let both = parted_all g.row.U.Denot g.row.U-Value.Denot c.args.pivot.now c.args.rows c.split_off.new.self c.in_ok-back.back parts.parts c.requires parts.front parts.back c.split_last.new.front c.split_last.new.back c.in_ok-split_last.ensures in
    (both.front_apart, both.back_apart)

pub returns-clause-few : goal.returns-clause-few
returns-clause-few g c =
    let parts = c.in_ok-back.ensures in
    (parted_all g.row.U.Denot g.row.U-Value.Denot c.args.pivot.now c.args.rows c.split_off.new.self c.in_ok-back.back parts.parts c.requires parts.front parts.back c.split_last.new.front c.split_last.new.back c.in_ok-split_last.ensures).few

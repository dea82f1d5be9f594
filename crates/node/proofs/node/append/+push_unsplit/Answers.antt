use Rattle.std.proofs.Common.{rules, arith, ap, ◌<◌, length}
use Rattle.node.specs.See.{seen_slots}
use Rattle.node.proofs.Homes.{is_there, has_room, left_homes, all_taken, all_kept, none_taken, none_kept}
use Rattle.node.proofs.node.append.+push_unsplit.Goals as goal

pub returns-in_default-clause-taken : goal.returns-in_default-clause-taken
returns-in_default-clause-taken g t c = none_taken g.U.Update.means c.args.msgs.now (seen_slots c.args.slots.now) c.in_default.ensures.end

pub returns-in_default-clause-kept : goal.returns-in_default-clause-kept
returns-in_default-clause-kept g t c = none_kept c.args.kept.now c.args.msgs.now (seen_slots c.args.slots.now) c.in_default.ensures.end

pub prove-unreachable-requires : goal.prove-unreachable-requires
prove-unreachable-requires g t c =
    let b = is_there c.args.msgs.now c.in-Some.msg c.next.new.self c.args.homes.now c.in-Some-split_first.home.now c.in-Some-split_first.homes.now c.args.slots.now c.in-Some.ensures.moved c.in-Some-split_first.ensures.cases.0 c.requires in
    omega (arith, b)

pub push_msg-requires : goal.push_msg-requires
push_msg-requires g t c = has_room g.U.Update.means c.args.msgs.now c.in-Some.msg c.next.new.self c.args.homes.now c.in-Some-split_first.home.now c.in-Some-split_first.homes.now c.args.slots.now c.index-slots-i.result c.in-Some.ensures.moved c.in-Some-split_first.ensures.cases.0 c.requires

pub push_unsplit-requires : goal.push_unsplit-requires
push_unsplit-requires g t c κs within =
    let all = c.args.msgs.now in
    let ms = c.next.new.self in
    let short : length ms < length all = omega (arith, ap length c.in-Some.ensures.moved) in
    let left = left_homes g.U.Update.means all c.in-Some.msg ms c.args.homes.now c.in-Some-split_first.home.now c.in-Some-split_first.homes.now c.args.slots.now c.index-slots-i.result c.push_msg.new.pending c.in-Some.ensures.moved c.in-Some-split_first.ensures.cases.0 c.push_msg.ensures.room c.requires in
    (omega (arith, short), (search rules, (search rules, left)))

pub returns-clause-taken : goal.returns-clause-taken
returns-clause-taken g t c = all_taken g.U.Update.means c.args.msgs.now c.in-Some.msg c.next.new.self c.args.homes.now c.in-Some-split_first.home.now c.in-Some-split_first.homes.now c.args.slots.now c.index-slots-i.result c.push_msg.new.pending (seen_slots c.push_unsplit.new.slots) c.in-Some.ensures.moved c.in-Some-split_first.ensures.cases.0 c.requires c.push_msg.ensures.takes c.push_unsplit.ensures.taken

pub returns-clause-kept : goal.returns-clause-kept
returns-clause-kept g t c = all_kept g.U.Update.means c.args.msgs.now c.in-Some.msg c.next.new.self c.args.homes.now c.in-Some-split_first.home.now c.in-Some-split_first.homes.now c.args.slots.now c.index-slots-i.result c.args.kept.now c.push_msg.new.pending (seen_slots c.push_unsplit.new.slots) c.in-Some.ensures.moved c.in-Some-split_first.ensures.cases.0 c.requires c.push_msg.ensures.takes (λ z. c.push_msg.ensures.kept (c.is_kept-plain.ensures.0 z)) c.push_unsplit.ensures.kept

use Rattle.std.proofs.Common.{rules, arith, ap, subst, get_or, ◌≡◌, ◌∙◌, ◌<◌, ◌≤◌, true, length}
use Rattle.std.specs.Prelude.{IfOk}
use Rattle.node.specs.Batches.{HaveHomes}
use Rattle.node.proofs.Wholes.{room-set, see-pending}
use Rattle.node.proofs.Homes.{home-relisted, home_alike, homes_more, relisted, room-relisted, root_alike}
use Rattle.node.proofs.node.batch.+reserve_targets.Goals as goal

pub returns-in_err-reserve-clause-same : goal.returns-in_err-reserve-clause-same
returns-in_err-reserve-clause-same g t c = see-pending c.args.slots.now c.in-Some-target_slot.i c.index-slots-i.result c.reserve.new.self c.reserve.ensures.messages

pub returns-in_err-reserve-clause-stays : goal.returns-in_err-reserve-clause-stays
returns-in_err-reserve-clause-stays g t c = λ j h. room-relisted c.args.slots.now c.in-Some-target_slot.i j c.args.count c.args.count c.index-slots-i.result c.reserve.new.self (omega arith) (omega (arith, c.reserve.ensures.kept)) h

pub reserve_targets-requires : goal.reserve_targets-requires
reserve_targets-requires g t c κs within =
    let xs = c.args.slots.now in
    let i = c.in-Some-target_slot.i in
    let d = c.index-slots-i.result in
    let p = c.reserve.new.self in
    let short : length c.in-Some.later.now < length c.args.msgs.now = omega (arith, ap length c.in-Some.ensures.cases.0) in
    let root = root_alike xs (relisted xs i d p) (see-pending xs i d p c.reserve.ensures.messages) c.requires in
    (omega (arith, short), (search rules, (search rules, root)))

pub returns-clause-same : goal.returns-clause-same
returns-clause-same g t c = c.reserve_targets.ensures.same ∙ see-pending c.args.slots.now c.in-Some-target_slot.i c.index-slots-i.result c.reserve.new.self c.reserve.ensures.messages

pub returns-clause-stays : goal.returns-clause-stays
returns-clause-stays g t c = λ j h. c.reserve_targets.ensures.stays j (room-relisted c.args.slots.now c.in-Some-target_slot.i j c.args.count c.args.count c.index-slots-i.result c.reserve.new.self (omega arith) (omega (arith, c.reserve.ensures.kept)) h)

pub returns-clause-room : goal.returns-clause-room
returns-clause-room g t c =
    let xs = c.args.slots.now in
    let n = c.args.count in
    let m = c.in-Some.msg.now in
    let i = c.in-Some-target_slot.i in
    let d = c.index-slots-i.result in
    let p = c.reserve.new.self in
    let ys = c.reserve_targets.new.slots in
    let all = c.args.msgs.now in
    let later = c.reserve_targets.new.homes in
    let room : n ≤ p.1 = search rules in
    let first = room-set xs i n (record { lo = (get_or xs i d).lo; pending = p; child = (get_or xs i d).child }) c.in-Some-target_slot.ensures.bound room in
    let home = home_alike i m (relisted xs i d p) ys c.reserve_targets.ensures.same (home-relisted i m xs i d p c.in-Some-target_slot.ensures.home) in
    subst (λ z. IfOk c.reserve_targets.result (λ b. b ≡ true → HaveHomes n ys all z)) (search rules) (homes_more c.reserve_targets.result n ys all m c.in-Some.later.now i later c.in-Some.ensures.cases.0 home (c.reserve_targets.ensures.stays i first) c.reserve_targets.ensures.room)

use Rattle.std.proofs.Common.{ap, refl, ◌≡◌, ◌≤◌, ◌<◌, length, arith, false}
use Rattle.node.specs.See.{seen_slots}
use Rattle.node.specs.Site.{slots_from}
use Rattle.node.specs.StepRows.{can_split_inner}
use Rattle.node.proofs.Splice.{slots_from-past}
use Rattle.split_merge.proofs.Splittable.{some_room, no_room}
use Rattle.split_merge.proofs.split.InnerSplitSlotStep.has_room.Goals as goal

pub returns-then-i-slots-clause-yes : goal.returns-then-i-slots-clause-yes
returns-then-i-slots-clause-yes g c = λ t h lo hi l able full.
    let past : length c.args.slots.now ≤ c.args.i = omega arith in
    let never : can_split_inner (slots_from c.args.i (seen_slots c.args.slots.now)) ≡ false = ap can_split_inner (slots_from-past c.args.slots.now c.args.i past) in
    (cc)

pub returns-clause-yes : goal.returns-clause-yes
returns-clause-yes g c = λ t h lo hi l able full.
    let xs = c.args.slots.now in
    let b : c.args.i < length xs = omega arith in
    some_room g.U.Update.means c.args.shape c.args.root c.args.i xs c.index-slots-i.result c.index-slots-i.result.pending.0 b c.index-slots-i.is refl (c.can_split.ensures.room t) full

pub returns-clause-no : goal.returns-clause-no
returns-clause-no g c = λ t.
    let xs = c.args.slots.now in
    let b : c.args.i < length xs = omega arith in
    no_room g.U.Update.means c.args.shape c.args.root c.args.i xs c.index-slots-i.result c.index-slots-i.result.pending.0 b c.index-slots-i.is refl (c.can_split.ensures.none t)

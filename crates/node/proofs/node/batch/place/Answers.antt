use Rattle.node.proofs.Placing.{placed-set}
use Rattle.node.proofs.node.batch.place.Goals as goal

pub returns-in_ok-push-in-Some : goal.returns-in_ok-push-in-Some
returns-in_ok-push-in-Some g c = placed-set _ c.args.msg c.in-Some.key.now c.args.slots.now c.args.batches_by_slot.now c.slot_of-i.result c.index-batches_by_slot-i.result c.push.new.self c.in-Some.ensures c.requires.rising c.requires.fits c.requires.pairs c.slot_of-i.ensures.bound c.slot_of-i.ensures.number c.in_ok-push-in-Some.ensures.items

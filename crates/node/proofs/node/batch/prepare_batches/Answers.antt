use Rattle.node.specs.See.{seen_slots}
use Rattle.node.proofs.Placing.{all_fit}
use Rattle.node.proofs.node.batch.prepare_batches.Goals as goal

pub batches_by_slot-requires-clause-fits : goal.batches_by_slot-requires-clause-fits
batches_by_slot-requires-clause-fits g c = all_fit (seen_slots c.args.slots.now) c.args.msgs.items c.requires.0

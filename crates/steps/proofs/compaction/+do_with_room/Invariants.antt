use Rattle.steps.proofs.compaction.+do_with_room.Given as goal

abbrev pub decreases-do_with_room : goal.decreases-do_with_room
decreases-do_with_room g l = l.tries

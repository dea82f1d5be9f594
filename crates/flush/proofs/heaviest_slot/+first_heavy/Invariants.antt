use Rattle.flush.proofs.heaviest_slot.+first_heavy.Given as goal

abbrev pub decreases-first_heavy : goal.decreases-first_heavy
decreases-first_heavy g l = l.levels

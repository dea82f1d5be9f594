use Rattle.shell.proofs.flushers.run_with_flushers.Given as goal

abbrev pub ghosts-run_in : goal.ghosts-run_in
ghosts-run_in g a = record { table = a.room.0; opening = a.room.1; clients = 1 }

use Rattle.engine_tests.proofs.closed.run.Given as goal

abbrev pub ghosts-ends_in : goal.ghosts-ends_in
ghosts-ends_in g a = record { table = a.room.0; opening = a.room.1; clients = 1 }

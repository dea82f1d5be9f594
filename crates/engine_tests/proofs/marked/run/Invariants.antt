use Rattle.engine_tests.proofs.marked.run.Given as goal

abbrev pub ghosts-installs_in : goal.ghosts-installs_in
ghosts-installs_in g a = record { table = a.room.0; opening = a.room.1; clients = 1 }

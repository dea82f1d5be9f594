use Rattle.engine_tests.proofs.ends.run_without_one.Given as goal

abbrev pub ghosts-without_one : goal.ghosts-without_one
ghosts-without_one g a = record { table = a.room.0; opening = a.room.1; clients = 2 }

use Rattle.engine_tests.proofs.scene.run.Given as goal

abbrev pub ghosts-plays_in : goal.ghosts-plays_in
ghosts-plays_in g a = record { table = a.room.0; opening = a.room.1; clients = 1 }

use Rattle.oom.proofs.engines.named.Given as goal

abbrev pub ghosts-in_room : goal.ghosts-in_room
ghosts-in_room g a = record { table = a.room.0; opening = a.room.1; clients = 1 }

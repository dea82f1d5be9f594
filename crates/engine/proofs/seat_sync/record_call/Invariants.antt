use Rattle.engine.proofs.seat_sync.record_call.Given as goal

abbrev pub ghosts-record : goal.ghosts-record
ghosts-record g a = record { event = g.A.Operation.event a.execute.now; answer = g.A.Operation.answer a.reply.now }

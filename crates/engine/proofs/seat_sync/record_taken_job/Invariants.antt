use Rattle.engine.proofs.seat_sync.record_taken_job.Given as goal

abbrev pub ghosts-record_take : goal.ghosts-record_take
ghosts-record_take g a = record { job = a.job.now }

use Rattle.engine.proofs.engine.EngineBuilder.serve.Given as goal

abbrev pub ghosts-serve_in : goal.ghosts-serve_in
ghosts-serve_in g a = record { table = a.builder.0; opening = a.builder.1; clients = a.clients }

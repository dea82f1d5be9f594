use denote.Param.{param}
use denote.Param.Send.{param_send, sendable}
use Rattle.std.proofs.Crossing.{crosses}
use Rattle.engine.proofs.Sent.{client_send, flusher_send}
use Rattle.engine_tests.proofs.tally.Tally.TheSendSync as tallies
use Rattle.engine_tests.proofs.stress.start.Lts as lts
use Rattle.engine_tests.proofs.stress.start.Goals as goal

pub spawn-requires-send-F : goal.spawn-requires-send-F
spawn-requires-send-F g c = λ κs lives. let a = flusher_send (param 0 g.row.J) g.J.EngineId in let b = client_send (param 0 g.row.J) g.J.EngineId in param_send 1 (lts.arg-0-1 g.row.E g.row.J g.row.R g.E.laws g.J.laws g.R.laws g.J.EngineId g.J.EngineId-dict g.R.Wait g.R.Wait-dict κs) (search (tallies.the_sync, sendable, crosses) depth 20)

use denote.Param.{param}
use denote.Param.Send.{sendable}
use Rattle.std.proofs.Crossing.{crosses}
use Rattle.engine.proofs.Sent.{flusher_send}
use Rattle.engine_tests.proofs.lists.flush_both.Goals as goal

pub join-requires-send-F : goal.join-requires-send-F
join-requires-send-F g c = λ κs lives. let a = flusher_send (param 0 g.row.J) g.J.EngineId in search (sendable, crosses) depth 20

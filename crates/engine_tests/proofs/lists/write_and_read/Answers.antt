use denote.Param.{param}
use denote.Param.Send.{sendable}
use Rattle.std.proofs.Crossing.{crosses}
use Rattle.engine.proofs.Sent.{client_send}
use Rattle.engine_tests.proofs.lists.write_and_read.Goals as goal

pub join-requires-send-F : goal.join-requires-send-F
join-requires-send-F g c = λ κs lives. let a = client_send (param 0 g.row.J) g.J.EngineId in search (sendable, crosses) depth 20

pub join-requires-send-A : goal.join-requires-send-A
join-requires-send-A g c = λ κs lives. let a = client_send (param 0 g.row.J) g.J.EngineId in search (sendable, crosses) depth 20

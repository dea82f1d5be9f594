use denote.Param.{param}
use denote.Param.Send.{sendable}
use Rattle.std.proofs.Crossing.{crosses}
use Rattle.engine.proofs.Sent.{client_send}
use Rattle.engine_tests.proofs.lists.in_room.Goals as goal

pub join-done-requires-send-F : goal.join-done-requires-send-F
join-done-requires-send-F g c = λ κs lives. let a = client_send (param 0 g.row.J) g.J.EngineId in search (sendable, crosses) depth 20

pub join-done-requires-send-A : goal.join-done-requires-send-A
join-done-requires-send-A g c = λ κs lives. let a = client_send (param 0 g.row.J) g.J.EngineId in search (sendable, crosses) depth 20

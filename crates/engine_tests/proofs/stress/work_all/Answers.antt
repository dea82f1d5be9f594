use denote.Param.{param}
use denote.Param.Send.{sendable}
use Rattle.std.proofs.Crossing.{crosses}
use Rattle.engine.proofs.Sent.{client_send}
use Rattle.engine_tests.proofs.stress.work_all.Goals as goal

pub for_each_mut-requires-send-T : goal.for_each_mut-requires-send-T
for_each_mut-requires-send-T g c = λ κs lives. let a = client_send (param 0 g.row.J) g.J.EngineId in search (sendable, crosses) depth 20

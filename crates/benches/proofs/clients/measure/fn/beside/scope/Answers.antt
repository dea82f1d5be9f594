use denote.Param.{param}
use denote.Param.Send.{sendable}
use Rattle.std.proofs.Crossing.{crosses}
use Rattle.engine.proofs.Sent.{client_send}
use Rattle.benches.proofs.clients.measure.fn.beside.scope.Goals as goal

pub time_all-figures-requires-send-S : goal.time_all-figures-requires-send-S
time_all-figures-requires-send-S g c = λ κs lives. let a = client_send (param 0 g.row.J) g.J.EngineId in search (sendable, crosses) depth 20

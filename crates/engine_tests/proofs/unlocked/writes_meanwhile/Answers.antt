use denote.Param.{param}
use denote.Param.Send.{sendable}
use Rattle.std.proofs.Crossing.{crosses}
use Rattle.engine.proofs.Sent.{client_send, flusher_send}
use Rattle.engine_tests.proofs.unlocked.Flags.TheSendSync as flags
use Rattle.engine_tests.proofs.unlocked.writes_meanwhile.Goals as goal

pub join-built-requires-send-F : goal.join-built-requires-send-F
join-built-requires-send-F g c = λ κs lives. let a = flusher_send (param 0 g.row.J) g.J.EngineId in let b = client_send (param 0 g.row.J) g.J.EngineId in search (flags.the_sync, sendable, crosses) depth 20

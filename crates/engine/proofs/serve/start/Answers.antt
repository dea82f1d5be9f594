use denote.Param.{param}
use denote.Param.Send.{sendable}
use Rattle.std.proofs.Crossing.{crosses}
use Rattle.std.proofs.sync.atomic.AtomicBool.TheSendSync as flags
use Rattle.engine.proofs.Sent.{flusher_send}
use Rattle.engine.proofs.serve.start.Goals as goal

pub spawn-requires-send-F : goal.spawn-requires-send-F
spawn-requires-send-F g c = λ κs lives. let a = flusher_send (param 0 g.row.J) g.J.EngineId in search (flags.the_sync, sendable, crosses) depth 20

use denote.Param.Send.{sendable}
use Rattle.std.proofs.Crossing.{crosses}
use Rattle.engine.proofs.Sent.{volume_send}
use Rattle.benches.proofs.clients.measure.volume_alone.Goals as goal

pub alone-requires-send-S : goal.alone-requires-send-S
alone-requires-send-S g c = λ κs lives. search (volume_send, sendable, crosses) depth 20

use Rattle.std.proofs.Common.{◌≡◌, ◌+◌, ◌≤◌, ◌++◌, take}
use Rattle.engine.specs.Histories.{LegalFrom, own}
use Rattle.engine.specs.Lists.{entries}
use Rattle.engine.specs.Seats.{IsClientSeat, IsEngineSeat}
use Rattle.engine.proofs.seat_sync.record_all.Given as goal

abbrev pub invariant-loop-number : goal.invariant-loop-number
invariant-loop-number g l = record {
  engine : IsEngineSeat g.J.EngineId.table g.J.EngineId.opening l.engine;
  takings : l.engine.me.0.takings ≡ l.fn.engine.me.0.takings;
  history : l.engine.me.0.history ≡ l.fn.engine.me.0.history ++ entries l.fn.client.me.0.client (take l.number l.calls) (take l.number l.replies);
  client : IsClientSeat g.J.EngineId.table g.J.EngineId.opening l.client;
  same : l.client.me.0.client ≡ l.fn.client.me.0.client;
  more : l.client.me.0.announced ≡ l.fn.client.me.0.announced + l.number;
  announced : own l.client.me.0.client l.engine.me.0.history ≤ l.client.me.0.announced;
  seen : l.client.me.0.seen ≡ l.engine.me.0.history;
  legal : LegalFrom g.J.EngineId.opening l.client.me.0.seen;
}

use Rattle.std.proofs.Common.{◌≡◌, ◌≤◌, [], length, vec_capacity}
use Rattle.engine.specs.Views.{keeper}
use Rattle.engine.specs.Clients.{fresh}
use Rattle.engine.proofs.engine.new_clients.Given as goal

abbrev pub invariant-loop-i : goal.invariant-loop-i
invariant-loop-i g l = (l.clients.items ≡ fresh l.i) × (length l.clients.items ≡ l.i) × (l.count ≤ vec_capacity l.clients) × (l.engine.table_id ≡ g.J.EngineId.table) × (l.engine.me ≡ (keeper g.J.EngineId.opening l.i [] [], []))

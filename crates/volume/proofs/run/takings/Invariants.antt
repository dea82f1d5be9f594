use Rattle.std.proofs.Common.{◌≡◌, ◌+◌, ◌≤◌, drop}
use Rattle.volume.specs.Runs.{takings}
use Rattle.volume.proofs.run.takings.Given as goal

abbrev pub invariant-loop-event : goal.invariant-loop-event
invariant-loop-event l = record {
  all : l.count + takings (drop l.event-index l.events) ≡ takings l.events;
  bound : l.count ≤ l.event-index;
}

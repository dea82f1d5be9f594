use Rattle.std.proofs.Common.{◌≡◌, ℕ, [], ap, rules}
use Rattle.atomic_table.specs.Seated.{TableId}
use Rattle.volume.specs.Marked.{no_marks}
use Rattle.volume.specs.Volumes.{PVolume, IsVolume, live_of}
use Rattle.engine.specs.Seats.{Seat, IsEngineSeat, Holds}
use Rattle.engine.specs.Takings.{KnowsMarks}
use Rattle.engine.proofs.Histories.{holds-new, holds-same}
use Rattle.engine.proofs.Takings.{knows-new}
use Rattle.engine.proofs.locked_state.LockedState.new.Goals as goal

-- what the desk keeps, before any call and any taking, of a volume without its marks
unmarked : (z : TableId) (o : PVolume) (n : ℕ) (s : Seat) (v now : PVolume) → IsEngineSeat z o s × (s.me.0.history ≡ []) × (s.me.0.takings ≡ []) → (v ≡ o) × IsVolume o → now ≡ record v { marks = no_marks v.marks.given } → IsEngineSeat z o s × Holds o n s.me.0.history now 0 × KnowsMarks s.me.0.takings (live_of now)
unmarked z o n s v now seat volume marks = (
  seat.0,
  holds-same o n [] s.me.0.history now 0 seat.1 (holds-new o v now n (no_marks v.marks.given) volume.0 marks volume.1),
  knows-new v.marks.given s.me.0.takings (live_of now) seat.2 (ap (λ (x : PVolume). x.marks) marks),
)

pub invariant_of-result : goal.invariant_of-result
invariant_of-result g c = unmarked g.J.EngineId.table g.J.EngineId.opening g.J.EngineId.clients c.args.seat c.args.volume _ c.requires.seat c.requires.volume (search rules)

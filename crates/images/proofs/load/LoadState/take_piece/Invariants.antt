use Rattle.std.proofs.Common.{◌≡◌, ◌<◌, length, vec_capacity}
use Rattle.images.specs.Loads.{form_of}
use Rattle.images.proofs.LoadCutting.{LoadsFront}
use Rattle.images.proofs.load.LoadState.take_piece.Given as goal

abbrev pub invariant-loop-end : goal.invariant-loop-end
invariant-loop-end l = record {
  room : 65536 < vec_capacity l.held;
  form : form_of l.self.volume ≡ form_of l.initial.self.volume;
  loads : LoadsFront l.piece l.rest l.initial.held.items l.held.items l.initial.self l.self;
}

abbrev pub decreases-loop-end : goal.decreases-loop-end
decreases-loop-end l = length l.rest

use Rattle.std.proofs.Common.{◌≡◌, length}
use Rattle.images.specs.Taken.{IsFresh, TakesSoFar}
use Rattle.node.specs.declared.shape.Shape.{Shape}
use Rattle.images.proofs.load.take_all.Given as goal

abbrev pub invariant-loop : goal.invariant-loop
invariant-loop g l = record {
  size : length l.piece ≡ length l.initial.piece;
  takes : (s : Shape) → IsFresh s l.initial.loader → TakesSoFar s (g.R.Read.remaining l.initial.reader) (g.R.Read.remaining l.reader) l.loader;
}

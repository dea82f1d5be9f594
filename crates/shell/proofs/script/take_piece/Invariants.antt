use Rattle.std.proofs.Common.{◌≡◌, ◌<◌, length, vec_capacity}
use Rattle.shell.specs.Runs.{Meant}
use Rattle.shell.specs.Script.{Answered}
use Rattle.shell.proofs.Cutting.{TakesFront}
use Rattle.shell.proofs.script.take_piece.Given as goal

abbrev pub invariant-loop-end : goal.invariant-loop-end
invariant-loop-end g l = record {
  room : 65536 < vec_capacity l.line;
  same : g.V.Watch.is_strict l.watch ≡ g.V.Watch.is_strict l.initial.watch;
  takes : TakesFront (Answered (g.V.Watch.is_strict l.initial.watch)) (Meant (g.S.Session.means l.initial.session) l.initial.at) (Meant (g.S.Session.means l.session) l.at) (g.W.Write.contents l.initial.writer) (g.W.Write.contents l.writer)
      l.piece l.rest l.initial.line.items l.line.items;
}

abbrev pub decreases-loop-end : goal.decreases-loop-end
decreases-loop-end g l = length l.rest

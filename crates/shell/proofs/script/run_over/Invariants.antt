use Rattle.std.proofs.Common.{◌≡◌, ◌<◌, length, vec_capacity}
use Rattle.std.specs.Io.KnownBytes.{Appends}
use Rattle.shell.specs.Runs.{Leads, Meant}
use Rattle.shell.specs.Script.{Answered}
use Rattle.shell.proofs.Reading.{Reads}
use Rattle.shell.proofs.script.run_over.Given as goal

abbrev pub invariant-loop : goal.invariant-loop
invariant-loop g l = record {
  room : 65536 < vec_capacity l.line;
  same : g.V.Watch.is_strict l.watch ≡ g.V.Watch.is_strict l.initial.watch;
  size : length l.piece ≡ length l.initial.piece;
  went : Leads (Meant (g.S.Session.means l.initial.session) l.initial.at) (Meant (g.S.Session.means l.session) l.at)
      (Reads (Answered (g.V.Watch.is_strict l.initial.watch)) (g.R.Read.remaining l.initial.reader) (g.R.Read.remaining l.reader) l.line.items)
      (Appends (g.W.Write.contents l.initial.writer) (g.W.Write.contents l.writer));
}

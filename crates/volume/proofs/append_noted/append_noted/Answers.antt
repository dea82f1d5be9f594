use Rattle.call_compiler.specs.Compiled.{messages}
use Rattle.volume.proofs.Differing.{tracks_appended}
use Rattle.volume.proofs.append_noted.append_noted.Goals as goal

pub returns-clause-appended : goal.returns-clause-appended
returns-clause-appended c =
    let e = c.append.ensures in
    record { taken = e.done; no_meta = e.no_meta; no_block = e.no_block; lists = e.lists; err = e.err; marks = e.marks; kept = e.kept }

pub returns-clause-noted : goal.returns-clause-noted
returns-clause-noted c = λ snapshots is.
    let e = c.append.ensures in
    tracks_appended (messages c.args.batch) c.as_slice.result.now c.as_slice-2.result.now c.args.changes.now c.note.new.self snapshots c.args.live.now c.append.new.self c.append.result
    c.as_slice.ensures.value c.as_slice-2.ensures.value c.note.ensures e.done e.err is

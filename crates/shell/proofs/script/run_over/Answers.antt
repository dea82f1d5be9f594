use Rattle.std.proofs.Common.{◌≡◌, ◌∙◌, [], arith, refl, rules}
use Rattle.std.proofs.KnownBytes.{Appends-nil, Consumes-nil, Keeps-refl}
use Rattle.textio.proofs.HeldFacts.{holds_nothing}
use Rattle.shell.proofs.Progress.{answered_held, went_nothing}
use Rattle.shell.proofs.Reading.{cut_at_end, ends, end_fails, flush_fails, halts_at_end, piece_fails, read_fails, reads_more}
use Rattle.shell.proofs.script.run_over.Goals as goal

pub loop-init : goal.loop-init
loop-init g c = record {
  room = c.requires.room;
  same = refl;
  size = refl;
  went = λ first means. ([], first, ([], [], Consumes-nil _, rw c.requires.empty holds_nothing, went_nothing _ [] first), means, Appends-nil _);
}

pub returns-in-Err-clause-write : goal.returns-in-Err-clause-write
returns-in-Err-clause-write g c = λ _. flush_fails _ _ _ _ _ _ _ _ _ c.loop.invariant.went c.flush.ensures

pub returns-in_default-read_some-clause-read : goal.returns-in_default-read_some-clause-read
returns-in_default-read_some-clause-read g c = λ _. read_fails _ _ _ _ _ _ _ _ _ _ c.loop.invariant.went c.in_default-read_some.ensures.err c.flush.ensures

pub returns-in-Ok-finish-clause-done : goal.returns-in-Ok-finish-clause-done
returns-in-Ok-finish-clause-done g c =
    let n : c.in-Ok.n ≡ 0 = c.if-n-eq0.true in
    let end = c.in-Ok.ensures.end n (omega (arith, c.loop.invariant.size, c.requires.piece)) in
    let last = rw c.loop.invariant.same at c.in-Ok-finish.ensures.ok in
    ends _ (answered_held _) _ _ _ _ _ _ _ _ _ _ _ _ c.loop.invariant.went c.in-Ok.ensures.ok (rw n refl) end c.flush.ensures (rw c.as_slice.ensures.value at last)

pub returns-in-Err-finish-clause-write : goal.returns-in-Err-finish-clause-write
returns-in-Err-finish-clause-write g c =
    let n : c.in-Ok.n ≡ 0 = c.if-n-eq0.true in
    let end = c.in-Ok.ensures.end n (omega (arith, c.loop.invariant.size, c.requires.piece)) in
    let last = rw c.loop.invariant.same at c.in-Err-finish.ensures.err in
    λ _. cut_at_end _ _ _ _ _ _ _ _
    (end_fails _ _ _ _ _ _ _ _ _ _ _ _ _ _ c.loop.invariant.went c.in-Ok.ensures.ok (rw n refl) end c.flush.ensures (rw c.as_slice.ensures.value at last))
    c.end_early.ensures.keeps

pub returns-in-Err-finish-clause-fault : goal.returns-in-Err-finish-clause-fault
returns-in-Err-finish-clause-fault g c =
    let n : c.in-Ok.n ≡ 0 = c.if-n-eq0.true in
    let end = c.in-Ok.ensures.end n (omega (arith, c.loop.invariant.size, c.requires.piece)) in
    let last = rw c.loop.invariant.same at c.in-Err-finish.ensures.err in
    λ k is. halts_at_end _ _ _ _ _ _ _ _ _ (c.end_early.ensures.fault k cc)
    (end_fails _ _ _ _ _ _ _ _ _ _ _ _ _ _ c.loop.invariant.went c.in-Ok.ensures.ok (rw n refl) end c.flush.ensures (rw c.as_slice.ensures.value at last))
    c.end_early.ensures.keeps

pub returns-in-Err-take_piece-clause-write : goal.returns-in-Err-take_piece-clause-write
returns-in-Err-take_piece-clause-write g c =
    let failed = rw c.loop.invariant.same at c.in-Err-take_piece.ensures.err in
    λ _. cut_at_end _ _ _ _ _ _ _ _ (piece_fails _ _ _ _ _ _ _ _ _ _ _ _ _ _ c.loop.invariant.went c.in-Ok.ensures.ok c.flush.ensures failed) c.end_early-in-Err-take_piece.ensures.keeps

pub returns-in-Err-take_piece-clause-fault : goal.returns-in-Err-take_piece-clause-fault
returns-in-Err-take_piece-clause-fault g c =
    let failed = rw c.loop.invariant.same at c.in-Err-take_piece.ensures.err in
    λ k is. halts_at_end _ _ _ _ _ _ _ _ _ (c.end_early-in-Err-take_piece.ensures.fault k cc)
    (piece_fails _ _ _ _ _ _ _ _ _ _ _ _ _ _ c.loop.invariant.went c.in-Ok.ensures.ok c.flush.ensures failed) c.end_early-in-Err-take_piece.ensures.keeps

pub loop-preserved : goal.loop-preserved
loop-preserved g c =
    let took = rw c.loop.invariant.same at c.in_default-take_piece.ensures.ok in record {
      room = c.take_piece.ensures.room;
      same = c.take_piece.ensures.same ∙ c.loop.invariant.same;
      size = search rules;
      went = reads_more _ _ _ _ _ _ _ _ _ _ _ _ _ _ c.loop.invariant.went c.in-Ok.ensures.ok c.flush.ensures took;
    }

pub returns-clause-read : goal.returns-clause-read
returns-clause-read g c = λ _. read_fails _ _ _ _ _ _ _ _ _ _ c.loop.invariant.went (Keeps-refl _) (Keeps-refl _)

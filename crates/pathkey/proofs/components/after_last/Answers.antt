use Rattle.std.proofs.Common.{arith}
use Rattle.pathkey.proofs.Pieces.{after_last_all, after_last_cut}
use Rattle.pathkey.proofs.components.after_last.Goals as goal
use Rattle.pathkey.proofs.components.after_last.Goals.{then-loop-start-test+else-bytes-start, else-loop-start-test}

pub returns : goal.returns
returns c =
    elim c.loop-start-test.branch [
      | then-loop-start-test+else-bytes-start w ↦
          after_last_cut c.args.separator c.args.bytes.now c.loop-start.start w.loop-start-test.true c.loop-start.invariant.within w.if-bytes-start.false c.loop-start.invariant.lacks
      | else-loop-start-test w ↦ after_last_all c.args.separator c.args.bytes.now c.loop-start.start (omega (arith, w.loop-start-test.false)) c.loop-start.invariant.lacks
    ]

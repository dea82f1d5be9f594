use Rattle.std.proofs.Common.{Result, IfErr, IfOk, inl, sym, subst}
use Rattle.pathkey.specs.declared.errno.Errno.{Errno}
use Rattle.volume.specs.Volumes.{Means, PVolume}
use Rattle.ffi_calls.proofs.Differing.{memory_lacks}
use Rattle.ffi_calls.specs.Differences.{LacksOne}
use Rattle.ffi_calls.specs.Edits.{BeginsBetween}
use Rattle.doorvervain.specs.Handed.{Given}
use Rattle.doorvervain.proofs.Handed.{anyway, given_out, refused_out}
use Rattle.doorvervain.proofs.edit_exports.doorvervain_raw_edits_begin.Goals as goal

pub returns-clause-begun : goal.returns-clause-begun
returns-clause-begun c = λ w n.
    let m : Means c.volume.result.now w = subst (λ (v : PVolume). Means v w) (sym c.volume.ensures.value) n in
    subst (λ (r : Result (Unit {0}) Errno). IfOk r (λ _. Given (BeginsBetween c.args.old.now c.args.new.now w) c.hand_out.new.out.given)) (sym c.number.ensures.reported)
    (given_out (BeginsBetween c.args.old.now c.args.new.now w) c.edits_begin.result c.hand_out.result c.hand_out.new.out.given c.hand_out.ensures.handed (c.edits_begin.ensures.begun w m))

pub returns-clause-lacking : goal.returns-clause-lacking
returns-clause-lacking c = λ w n.
    let m : Means c.volume.result.now w = subst (λ (v : PVolume). Means v w) (sym c.volume.ensures.value) n in
    subst (λ (r : Result (Unit {0}) Errno). IfErr r (LacksOne c.args.old.now c.args.new.now w)) (sym c.number.ensures.reported)
    (refused_out (LacksOne c.args.old.now c.args.new.now w) c.edits_begin.result c.hand_out.result c.hand_out.new.out.given c.hand_out.ensures.handed (c.edits_begin.ensures.refused w m)
    (anyway c.edits_begin.result (inl (memory_lacks c.args.old.now w))))

use Rattle.std.proofs.Common.{◌≡◌, List, length, arith, subst, sym}
use Rattle.pathkey.specs.declared.errno.Errno.TheVariants.{ENOMEM}
use Rattle.reference.specs.declared.reply.Reply.{Reply}
use Rattle.volume.specs.Transactions.{FailsAt}
use Rattle.volume.specs.Volumes.{IsVolume}
use Rattle.volume.proofs.Transacting.{is_put_back, lacks_first, one_failed}
use Rattle.volume.proofs.volume.Volume.transact_into.Goals as goal

pub returns-then-calls-eq1-clause-fault : goal.returns-then-calls-eq1-clause-fault
returns-then-calls-eq1-clause-fault c =
    let one : length c.args.calls.now ≡ 1 = omega arith in
    one_failed c.args.calls.now c.call_until_fault.new.replies.items c.call_until_fault.result c.args.self.now c.call_until_fault.new.self one c.call_until_fault.ensures.fault c.call_until_fault.ensures.first

pub returns-in_default-clause-fault : goal.returns-in_default-clause-fault
returns-in_default-clause-fault c =
    subst (λ (rs : List Reply). FailsAt c.args.calls.now (length rs) ENOMEM c.args.self.now c.args.self.now) (sym c.requires.none) (lacks_first c.args.calls.now c.args.self.now c.requires.some)

pub put_back-requires : goal.put_back-requires
put_back-requires c =
    let now = c.call_until_fault-2.new.self in
    subst IsVolume (sym (is_put_back c.args.self.now now c.in-Ok.before c.in-Ok.ensures c.call_until_fault-2.ensures.snapshots c.call_until_fault-2.ensures.marks)) c.assert_invariant.ensures

use Rattle.std.proofs.Common.{◌≡◌, refl}
use Rattle.pathkey.specs.declared.errno.Errno.TheVariants.{ENOMEM}
use Rattle.volume.specs.Forks.{IsForkOf}
use Rattle.doorvervain.proofs.Handed.{anyway, given_out, refused_out, when_err, when_ok}
use Rattle.doorvervain.proofs.forks.fork.Goals as goal

pub returns-clause-forked : goal.returns-clause-forked
returns-clause-forked c =
    given_out (IsForkOf c.args.volume.now.live) c.fork-made.result c.hand_out.result c.hand_out.new.out.given c.hand_out.ensures.handed
    (when_ok (IsForkOf c.args.volume.now.live) (λ e. e ≡ ENOMEM) c.fork-made.result c.fork-made.ensures)

pub returns-clause-refused : goal.returns-clause-refused
returns-clause-refused c =
    refused_out (λ e. e ≡ ENOMEM) c.fork-made.result c.hand_out.result c.hand_out.new.out.given c.hand_out.ensures.handed
    (when_err (IsForkOf c.args.volume.now.live) (λ e. e ≡ ENOMEM) c.fork-made.result c.fork-made.ensures) (anyway c.fork-made.result refl)

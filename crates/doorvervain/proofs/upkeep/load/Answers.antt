use Rattle.std.proofs.Common.{◌≡◌}
use Rattle.pathkey.specs.declared.errno.Errno.TheVariants.{EINVAL}
use Rattle.images.specs.Taken.{LoadedIn}
use Rattle.doorvervain.specs.Handed.{NotLoaded}
use Rattle.doorvervain.proofs.Handed.{done_out, given_out, memory_reported, refused_out, reported_out}
use Rattle.doorvervain.proofs.upkeep.load.Goals as goal

pub returns-clause-loaded : goal.returns-clause-loaded
returns-clause-loaded c = given_out (LoadedIn c.args.shape c.args.text.now) c.volume_of-made.result c.hand_out.result c.hand_out.new.out.given c.hand_out.ensures.handed c.volume_of-made.ensures.loaded

pub returns-clause-line : goal.returns-clause-line
returns-clause-line c = done_out (c.volume_of-made.new.line ≡ 0) c.volume_of-made.result c.hand_out.result c.hand_out.new.out.given c.hand_out.ensures.handed c.volume_of-made.ensures.line

pub returns-clause-shape : goal.returns-clause-shape
returns-clause-shape c unfit =
    let reported = c.volume_of-made.ensures.shape unfit in
    (reported_out c.volume_of-made.result c.hand_out.result c.hand_out.new.out.given EINVAL c.hand_out.ensures.handed reported.0, reported.1)

pub returns-clause-refused : goal.returns-clause-refused
returns-clause-refused c =
    refused_out (λ e. NotLoaded c.args.shape c.args.text.now e c.volume_of-made.new.line) c.volume_of-made.result c.hand_out.result c.hand_out.new.out.given c.hand_out.ensures.handed
    c.volume_of-made.ensures.refused (memory_reported c.args.shape c.args.text.now c.volume_of-made.result c.volume_of-made.new.line c.volume_of-made.ensures.line)

use Rattle.std.proofs.Common.{◌≡◌, ◌⊎◌, false, inr, refl}
use Rattle.node.specs.Shapes.{is_shape}
use Rattle.pathkey.specs.declared.errno.Errno.TheVariants.{EINVAL, ENOMEM}
use Rattle.images.specs.Taken.{IsFresh}
use Rattle.doorvervain.proofs.Handed.{anyway, given_out, refused_out, shape_reported}
use Rattle.doorvervain.proofs.pieces.begin.Goals as goal

pub returns : goal.returns
returns c = record {
  new = given_out (IsFresh c.args.shape) c.new_loader-fresh.result c.hand_out.result c.hand_out.new.out.given c.hand_out.ensures.handed c.new_loader-fresh.ensures.fresh;
  no_shape = shape_reported (is_shape c.args.shape ≡ false) c.new_loader-fresh.result c.hand_out.result c.hand_out.new.out.given c.hand_out.ensures.handed c.new_loader-fresh.ensures.shape;
  refused = refused_out (λ e. (e ≡ EINVAL) ⊎ (e ≡ ENOMEM)) c.new_loader-fresh.result c.hand_out.result c.hand_out.new.out.given c.hand_out.ensures.handed
      c.new_loader-fresh.ensures.refused (anyway c.new_loader-fresh.result (inr refl));
  closed = c.hand_out.ensures.closed;
}

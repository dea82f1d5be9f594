use Rattle.std.proofs.Common.{◌≡◌, ◌⊎◌, false, inr, refl}
use Rattle.node.specs.Shapes.{is_shape}
use Rattle.pathkey.specs.declared.errno.Errno.TheVariants.{EINVAL, ENOMEM}
use Rattle.volume.specs.Volumes.{IsNew}
use Rattle.doorvervain.proofs.Handed.{anyway, given_out, refused_out, shape_reported, when_err, when_ok}
use Rattle.doorvervain.proofs.upkeep.open.Goals as goal

pub returns : goal.returns
returns c = record {
  new = given_out (IsNew c.args.shape) c.new-made.result c.hand_out.result c.hand_out.new.out.given c.hand_out.ensures.handed
      (when_ok (IsNew c.args.shape) (λ e. (e ≡ EINVAL) ⊎ (e ≡ ENOMEM)) c.new-made.result c.new-made.ensures.new);
  no_shape = shape_reported (is_shape c.args.shape ≡ false) c.new-made.result c.hand_out.result c.hand_out.new.out.given c.hand_out.ensures.handed c.new-made.ensures.shape;
  refused = refused_out (λ e. (e ≡ EINVAL) ⊎ (e ≡ ENOMEM)) c.new-made.result c.hand_out.result c.hand_out.new.out.given c.hand_out.ensures.handed
      (when_err (IsNew c.args.shape) (λ e. (e ≡ EINVAL) ⊎ (e ≡ ENOMEM)) c.new-made.result c.new-made.ensures.new) (anyway c.new-made.result (inr refl));
  closed = c.hand_out.ensures.closed;
}

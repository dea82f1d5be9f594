use Rattle.std.proofs.Common.{List, ℕ, refl, subst}
use Rattle.reference.specs.declared.call.Call.TheVariants.{Write}
use Rattle.reference.specs.declared.reply.Reply.TheVariants.{Count}
use Rattle.volume.specs.Changes.{Called}
use Rattle.volume.specs.Typed.{replied}
use Rattle.volume.specs.Volumes.{live_of}
use Rattle.volume.proofs.Leading.{lacks_call}
use Rattle.volume.proofs.volume.Volume.write.Goals as goal

pub returns-in-Ok : goal.returns-in-Ok
returns-in-Ok c = subst (λ (w : List ℕ). Called (Write c.args.path.now c.args.offset w) c.args.at (replied (λ (n : ℕ). Count n) c.write_shared.result) c.args.self.now c.write_shared.new.self) c.in-Ok.ensures c.write_shared.ensures

pub returns-in-Err : goal.returns-in-Err
returns-in-Err c = lacks_call c.args.self.now (Write c.args.path.now c.args.offset c.args.bytes.now) c.args.at (live_of c.args.self.now) refl

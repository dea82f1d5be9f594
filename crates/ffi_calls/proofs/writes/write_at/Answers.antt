use Rattle.std.proofs.Common.{◌≡◌, ℕ, Result, Ok, subst}
use Rattle.pathkey.specs.declared.errno.Errno.{Errno}
use Rattle.reference.specs.declared.call.Call.TheVariants.{Write}
use Rattle.reference.specs.declared.reply.Reply.TheVariants.{Count}
use Rattle.volume.specs.Changes.{Called}
use Rattle.volume.specs.Typed.{replied}
use Rattle.ffi_calls.proofs.Asking.{written}
use Rattle.ffi_calls.proofs.writes.write_at.Goals as goal

pub returns : goal.returns
returns c =
    let was : c.write.result ≡ Ok c.in_ok-_written._written = (cc) in
    written c.args.path.now c.args.offset c.args.bytes.now c.args.at c.in_ok-_written._written c.args.volume.now c.write.new.self c.assert_invariant.ensures
    (subst (λ (r : Result ℕ Errno). Called (Write c.args.path.now c.args.offset c.args.bytes.now) c.args.at (replied (λ n. Count n) r) c.args.volume.now c.write.new.self) was c.write.ensures)

use Rattle.std.proofs.Common.{◌≡◌, ℕ, true, Ok, Err, Result, sym, ◌∙◌}
use Rattle.std.specs.Result.{is_ok}
use Rattle.pathkey.specs.declared.errno.Errno.{Errno}
use Rattle.reference.specs.declared.call.Call.{Call}
use Rattle.reference.specs.declared.call.Call.TheVariants.{Write}
use Rattle.reference.specs.declared.reply.Reply.TheVariants.{Count}
use Rattle.volume.specs.Changes.{Called}
use Rattle.volume.specs.Typed.{replied}
use Rattle.volume.specs.Volumes.{PVolume}
use Rattle.images.specs.Loads.{Counts}
use Rattle.images.proofs.load.write_bytes.Goals as goal

-- a call whose answer is not a failure has a count as its answer
counted_ok : (r : Result ℕ Errno) (call : Call) (at : ℕ) (old new : PVolume) → is_ok r ≡ true → Called call at (replied (λ n. Count n) r) old new → Counts call at old new
counted_ok (Ok n) call at old new e h = (n, h)
counted_ok (Err f) call at old new e h = absurd (cc)

pub returns : goal.returns
returns c = λ e. counted_ok c.write_shared-counted.result (Write c.args.path.now c.args.offset c.args.bytes) c.args.at c.args.volume.now c.write_shared-counted.new.self (sym c.is_ok.ensures.value ∙ e) c.write_shared-counted.ensures

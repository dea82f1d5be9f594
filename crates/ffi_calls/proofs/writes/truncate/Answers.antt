use Rattle.std.proofs.lemmas.Result.{err_from_is_err_and}
use Rattle.pathkey.specs.Texts.{parsed}
use Rattle.reference.specs.declared.call.Call.TheVariants.{Truncate}
use Rattle.ffi_calls.proofs.Asking.{not_read}
use Rattle.ffi_calls.proofs.writes.truncate.Goals as goal

pub returns-in_err-path : goal.returns-in_err-path
returns-in_err-path c =
    let p = err_from_is_err_and c.from_residual.result c.from_residual.ensures.1 in
    not_read (λ p. Truncate p c.args.length) c.args.at (parsed c.args.path.now) _ p.0 c.from_residual.result c.args.volume.now c.in_err-path.ensures (cc) p.1

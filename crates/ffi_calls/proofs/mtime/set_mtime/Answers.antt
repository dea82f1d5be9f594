use Rattle.std.proofs.Common.{Result, sym, subst}
use Rattle.std.proofs.lemmas.Result.{err_from_is_err_and}
use Rattle.pathkey.specs.Texts.{parsed}
use Rattle.pathkey.specs.declared.errno.Errno.{Errno}
use Rattle.ffi_calls.specs.Mtimes.{SetsMtimeAt}
use Rattle.ffi_calls.proofs.MtimeTexts.{unread_mtime}
use Rattle.ffi_calls.proofs.mtime.set_mtime.Goals as goal

pub returns-in_err-path : goal.returns-in_err-path
returns-in_err-path c =
    let p = err_from_is_err_and c.from_residual.result c.from_residual.ensures.1 in
    subst (λ (r : Result (Unit {0}) Errno). SetsMtimeAt (parsed c.args.path.now) c.args.at r c.args.volume.now c.args.volume.now) (sym p.1)
    (unread_mtime c.args.at (parsed c.args.path.now) _ p.0 c.args.volume.now c.in_err-path.ensures (cc))

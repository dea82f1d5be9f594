use Rattle.std.proofs.Common.{ℕ, Result, sym, subst}
use Rattle.std.proofs.lemmas.Result.{err_from_is_err_and}
use Rattle.pathkey.specs.Texts.{parsed}
use Rattle.pathkey.specs.declared.errno.Errno.{Errno}
use Rattle.ffi_calls.specs.Holes.{PunchesAt}
use Rattle.ffi_calls.proofs.Punching.{unread_hole}
use Rattle.ffi_calls.proofs.holes.punch.Goals as goal

pub returns-in_err-path : goal.returns-in_err-path
returns-in_err-path c =
    let p = err_from_is_err_and c.from_residual.result c.from_residual.ensures.1 in
    subst (λ (r : Result ℕ Errno). PunchesAt (parsed c.args.path.now) c.args.offset c.args.count c.args.at r c.args.volume.now c.args.volume.now) (sym p.1)
    (unread_hole c.args.offset c.args.count c.args.at (parsed c.args.path.now) _ p.0 c.args.volume.now c.in_err-path.ensures (cc))

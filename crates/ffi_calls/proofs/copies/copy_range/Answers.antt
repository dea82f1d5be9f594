use Rattle.std.proofs.Common.{ℕ, Result, sym, subst}
use Rattle.std.proofs.lemmas.Result.{err_from_is_err_and}
use Rattle.pathkey.specs.Texts.{parsed}
use Rattle.pathkey.specs.declared.errno.Errno.{Errno}
use Rattle.ffi_calls.specs.Copies.{CopiesAt}
use Rattle.ffi_calls.proofs.CopyTexts.{unread_source, unread_target}
use Rattle.ffi_calls.proofs.copies.copy_range.Goals as goal

pub returns-in_err-source : goal.returns-in_err-source
returns-in_err-source c =
    let p = err_from_is_err_and c.from_residual.result c.from_residual.ensures.1 in
    subst (λ (r : Result ℕ Errno). CopiesAt (parsed c.args.from.now) c.args.offset (parsed c.args.to.now) c.args.target c.args.count c.args.at r c.args.volume.now c.args.volume.now) (sym p.1)
    (unread_source c.args.offset (parsed c.args.to.now) c.args.target c.args.count c.args.at (parsed c.args.from.now) _ p.0 c.args.volume.now c.in_err-source.ensures (cc))

pub returns-in_err-destination : goal.returns-in_err-destination
returns-in_err-destination c =
    let p = err_from_is_err_and c.from_residual-in_err-destination.result c.from_residual-in_err-destination.ensures.1 in
    subst (λ (r : Result ℕ Errno). CopiesAt (parsed c.args.from.now) c.args.offset (parsed c.args.to.now) c.args.target c.args.count c.args.at r c.args.volume.now c.args.volume.now) (sym p.1)
    (unread_target c.in_ok-source.source c.args.offset c.args.target c.args.count c.args.at (parsed c.args.from.now) (parsed c.args.to.now) _ p.0 c.args.volume.now c.in_ok-source.ensures c.in_err-destination.ensures (cc))

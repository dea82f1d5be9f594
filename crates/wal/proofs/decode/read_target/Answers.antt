use Rattle.std.proofs.Common.{◌≡◌, ⊎_elim, inl, inr, refl}
use Rattle.std.proofs.lemmas.Result.{err_from_is_err_and}
use Rattle.pathkey.specs.declared.errno.Errno.TheVariants.{EINVAL, ENOMEM}
use Rattle.wal.specs.Entries.{IsNoText}
use Rattle.wal.proofs.Changes.{no_offset, no_target}
use Rattle.wal.proofs.decode.read_target.Goals as goal

pub returns-in_default : goal.returns-in_default
returns-in_default c = inl (refl, no_offset c.args.text.now c.in_default.ensures)

pub returns-in_err-path : goal.returns-in_err-path
returns-in_err-path c =
    let p = err_from_is_err_and c.from_residual.result c.from_residual.ensures.1 in
    rw (p.1, p.2) (⊎_elim
    (λ (u : (c.in_err-path.field-0.0 ≡ EINVAL) × IsNoText c.in-Some.rest.now). inl (u.0, no_target c.args.text.now c.in-Some.rest.now c.in-Some.offset c.in-Some.ensures.0 c.in-Some.ensures.1 u.1))
    (λ (m : c.in_err-path.field-0.0 ≡ ENOMEM). inr m)
    c.in_err-path.ensures)

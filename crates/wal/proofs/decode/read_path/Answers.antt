use Rattle.std.proofs.Common.{◌≡◌, ◌≢◌, ⊎_elim, inl, inr}
use Rattle.pathkey.specs.declared.errno.Errno.TheVariants.{EINVAL, ENOMEM}
use Rattle.wal.proofs.Changes.{no_text, text_read}
use Rattle.wal.proofs.decode.read_path.Goals as goal

pub returns-in-Ok : goal.returns-in-Ok
returns-in-Ok c = text_read c.args.text.now c.in-Ok.path c.type_inv.text c.in-Ok.ensures

pub returns-in-Err : goal.returns-in-Err
returns-in-Err c = ⊎_elim
    (λ (u : (c.refusal.result ≡ EINVAL) × (c.in-Err.fault ≢ ENOMEM)). inl (u.0, no_text c.args.text.now c.in-Err.fault c.in-Err.ensures u.1))
    (λ (m : c.refusal.result ≡ ENOMEM). inr m)
    c.refusal.ensures

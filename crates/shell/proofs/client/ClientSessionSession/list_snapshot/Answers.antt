use Rattle.std.proofs.lemmas.Result.{err_from_is_err_and}
use Rattle.reference.specs.declared.reply.Reply.TheVariants.{Fault}
use Rattle.shell.proofs.Listing.{refused}
use Rattle.shell.proofs.client.ClientSessionSession.list_snapshot.Goals as goal

pub returns-in_err-frozen : goal.returns-in_err-frozen
returns-in_err-frozen g c =
    let p = err_from_is_err_and c.from_residual.result c.from_residual.ensures.1 in
    (Fault p.0, refused _ p.0 p.1, λ w none. absurd none)

pub returns : goal.returns
returns g c = (c.read_lines-lines.ensures.0, c.read_lines-lines.ensures.1, λ w none. absurd none)

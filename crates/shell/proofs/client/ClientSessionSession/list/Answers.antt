use Rattle.std.proofs.lemmas.Result.{err_from_is_err_and}
use Rattle.reference.specs.declared.reply.Reply.TheVariants.{Fault}
use Rattle.shell.proofs.Listing.{refused}
use Rattle.shell.proofs.client.ClientSessionSession.list.Goals as goal

pub returns-in_err-copy : goal.returns-in_err-copy
returns-in_err-copy g c =
    let p = err_from_is_err_and c.from_residual.result c.from_residual.ensures.1 in
    (Fault p.0, refused _ p.0 p.1, λ w none. absurd none)

pub returns-in_err-lines_of-in-Names : goal.returns-in_err-lines_of-in-Names
returns-in_err-lines_of-in-Names g c =
    let p = err_from_is_err_and c.from_residual-in_err-lines_of-in-Names.result c.from_residual-in_err-lines_of-in-Names.ensures.1 in
    (Fault p.0, refused _ p.0 p.1, λ w none. absurd none)

use Rattle.std.proofs.Common.{Result, inl, inr, refl, subst, ap, ◌∙◌}
use Rattle.std.proofs.lemmas.Result.{err_from_is_err_and}
use Rattle.call_compiler.specs.Listed.{TellsEntries}
use Rattle.pathkey.specs.declared.errno.Errno.{Errno}
use Rattle.reference.specs.declared.reply.Reply.TheVariants.{Fault, Names}
use Rattle.shell.specs.Listings.{AreLines}
use Rattle.shell.proofs.Listing.{refused}
use Rattle.shell.proofs.entry_lines.read_lines.Goals as goal

pub returns-in_err-lines : goal.returns-in_err-lines
returns-in_err-lines c =
    let p = err_from_is_err_and c.from_residual.result c.from_residual.ensures.1 in
    (Fault p.0, refused _ p.0 p.1, λ t at means. inr (ap Fault p.2))

pub returns-in_err-list : goal.returns-in_err-list
returns-in_err-list c =
    let p = err_from_is_err_and c.from_residual-in_err-list.result c.from_residual-in_err-list.ensures.1 in
    (Fault p.0, refused _ p.0 p.1, λ t at means. inr (ap Fault p.2))

pub returns-in_err-branch : goal.returns-in_err-branch
returns-in_err-branch c =
    let p = err_from_is_err_and c.from_residual-in_err-branch.result c.from_residual-in_err-branch.ensures.1 in
    let told = subst (λ (r : Result (Unit {0}) Errno). TellsEntries c.args.indexes.now c.args.path.now (λ es. AreLines c.list.new.sink es) r) c.in_err-branch.was (c.in_ok-list.ensures.entries c.in_ok-lines.ensures) in
    (Fault p.0, refused _ p.0 p.1, λ t at means. inl (ap Fault p.2 ∙ told t at means))

pub returns : goal.returns
returns c =
    let told = subst (λ (r : Result (Unit {0}) Errno). TellsEntries c.args.indexes.now c.args.path.now (λ es. AreLines c.list.new.sink es) r) c.in_ok-branch.was (c.in_ok-list.ensures.entries c.in_ok-lines.ensures) in
    (Names told.0, (told.0, refl, told.1), λ t at means. inl (told.2 t at means))

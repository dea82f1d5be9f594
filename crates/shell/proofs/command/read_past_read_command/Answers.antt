use Rattle.std.proofs.Common.{◌≡◌, subst, sym, rules}
use Rattle.shell.specs.declared.request.ReadCall.TheVariants as look
use Rattle.shell.specs.declared.request.Request.{Request}
use Rattle.shell.specs.Requests.{IsReadAs, looking, past, past_read_command}
use Rattle.textio.specs.Values.{path_of}
use Rattle.shell.proofs.Asking.{look_read}
use Rattle.shell.proofs.command.read_past_read_command.Goals as goal

pub returns : goal.returns
returns c =
    let is : past_read_command (c.args.call.now, c.args.snapshot.now) c.args.path.now c.args.offset.now c.args.count.now
    ≡ past c.args.snapshot.now (looking (λ p. look.Read p c.in-Some-Some.offset c.in-Some-Some.count) (path_of c.args.path.now)) = search rules in
    subst (λ (r : Request). IsReadAs r c.read_past.result) (sym is)
    (look_read c.args.snapshot.now (looking (λ p. look.Read p c.in-Some-Some.offset c.in-Some-Some.count) (path_of c.args.path.now)) _ _ c.read_look-look.ensures c.read_past.ensures)

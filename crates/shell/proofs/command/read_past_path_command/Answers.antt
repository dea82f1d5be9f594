use Rattle.std.proofs.Common.{◌≡◌, subst, sym, rules}
use Rattle.shell.specs.declared.request.ReadCall.TheVariants as look
use Rattle.shell.specs.declared.request.Request.{Request}
use Rattle.shell.specs.Requests.{IsReadAs, looking, past, past_path_command}
use Rattle.textio.specs.Values.{path_of}
use Rattle.shell.proofs.Asking.{look_read}
use Rattle.shell.proofs.command.read_past_path_command.Goals as goal

pub returns-then-eq : goal.returns-then-eq
returns-then-eq c =
    let is : past_path_command (c.args.call.now, c.args.snapshot.now) c.args.path.now ≡ past c.args.snapshot.now (looking look.Stat (path_of c.args.path.now)) = search rules in
    subst (λ (r : Request). IsReadAs r c.read_past.result) (sym is) (look_read c.args.snapshot.now (looking look.Stat (path_of c.args.path.now)) _ _ c.read_stat-look.ensures c.read_past.ensures)

pub returns-then-eq-2 : goal.returns-then-eq-2
returns-then-eq-2 c =
    let is : past_path_command (c.args.call.now, c.args.snapshot.now) c.args.path.now ≡ past c.args.snapshot.now (looking look.Readdir (path_of c.args.path.now)) = search rules in
    subst (λ (r : Request). IsReadAs r c.read_past-then-eq-2.result) (sym is) (look_read c.args.snapshot.now (looking look.Readdir (path_of c.args.path.now)) _ _ c.read_readdir-look.ensures c.read_past-then-eq-2.ensures)

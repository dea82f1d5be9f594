use Rattle.std.proofs.Common.{◌≡◌, ◌<◌, [], length, rules}
use Rattle.std.proofs.KnownBytes.{Appends-nil, Appends-kept}
use Rattle.textio.proofs.Known.{on_ok}
use Rattle.shell.proofs.Answering.{error_kept, flush_ends, last_done, last_ends, none_done, only_error}
use Rattle.shell.proofs.script.finish.Goals as goal

pub returns-then-is_empty-clause-ok : goal.returns-then-is_empty-clause-ok
returns-then-is_empty-clause-ok g c =
    let none : length c.args.line.now ≡ 0 = search rules in
    on_ok _ _ (none_done _ _ _ c.args.line.now none (Appends-kept _ _ _ _ (Appends-nil _) c.write_out.ensures.keeps))

pub returns-then-is_empty-clause-err : goal.returns-then-is_empty-clause-err
returns-then-is_empty-clause-err g c =
    let none : length c.args.line.now ≡ 0 = search rules in
    only_error _ _ _ c.write_out.ensures.err (flush_ends _ _ _ _ _ _ (g.V.Watch.is_strict c.args.watch.now) (none_done _ _ _ c.args.line.now none (Appends-nil _)) c.write_out.ensures.keeps)

pub returns-in_err-do_line-clause-err : goal.returns-in_err-do_line-clause-err
returns-in_err-do_line-clause-err g c =
    let some : 0 < length c.args.line.now = search rules in
    error_kept c.from_residual.result _ _ c.from_residual.ensures (last_ends _ _ _ _ c.args.line.now some c.in_err-do_line.ensures.err)

pub returns-clause-ok : goal.returns-clause-ok
returns-clause-ok g c =
    let some : 0 < length c.args.line.now = search rules in
    on_ok _ _ (last_done _ _ _ _ _ c.args.line.now some (λ out wrote. Appends-kept _ _ _ out wrote c.write_out-2.ensures.keeps) c.in_ok-do_line.ensures.ok)

pub returns-clause-err : goal.returns-clause-err
returns-clause-err g c =
    let some : 0 < length c.args.line.now = search rules in
    only_error _ _ _ c.write_out-2.ensures.err
    (flush_ends _ _ _ _ _ _ (g.V.Watch.is_strict c.args.watch.now) (last_done _ _ _ _ _ c.args.line.now some (λ out wrote. wrote) c.in_ok-do_line.ensures.ok) c.write_out-2.ensures.keeps)

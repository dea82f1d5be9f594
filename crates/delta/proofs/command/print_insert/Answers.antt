use Rattle.std.proofs.Common.{◌∷◌, ◌++◌, []}
use Rattle.textio.proofs.Known.{on_err, part_after, part_before}
use Rattle.delta.proofs.command.print_insert.Goals as goal

pub returns-in_err-put-clause-err : goal.returns-in_err-put-clause-err
returns-in_err-put-clause-err g c = on_err _ _ (part_before _ _ (43 ∷ 32 ∷ []) (c.args.line.now ++ 10 ∷ []) c.in_err-put.ensures.err)

pub returns-in_err-put-2-clause-err : goal.returns-in_err-put-2-clause-err
returns-in_err-put-2-clause-err g c =
    on_err _ _ (part_after _ _ _ (43 ∷ 32 ∷ []) (c.args.line.now ++ 10 ∷ []) c.in_ok-put.ensures.ok (part_before _ _ c.args.line.now (10 ∷ []) c.in_err-put-2.ensures.err))

pub returns-in_err-put-3-clause-err : goal.returns-in_err-put-3-clause-err
returns-in_err-put-3-clause-err g c =
    on_err _ _ (part_after _ _ _ (43 ∷ 32 ∷ []) (c.args.line.now ++ 10 ∷ []) c.in_ok-put.ensures.ok (part_after _ _ _ c.args.line.now (10 ∷ []) c.in_ok-put-2.ensures.ok c.in_err-put-3.ensures.err))

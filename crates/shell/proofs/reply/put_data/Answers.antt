use Rattle.std.proofs.Common.{◌++◌, codes}
use Rattle.textio.specs.Texts.{hex_text}
use Rattle.textio.proofs.Known.{on_err, part_after, part_before}
use Rattle.shell.proofs.reply.put_data.Goals as goal

pub returns-in_err-put-clause-err : goal.returns-in_err-put-clause-err
returns-in_err-put-clause-err g c =
    on_err _ _ (part_before _ _ (codes "bytes ") (hex_text c.args.bytes.now ++ codes "\n") c.in_err-put.ensures.err)

pub returns-in_err-put_hex-clause-err : goal.returns-in_err-put_hex-clause-err
returns-in_err-put_hex-clause-err g c =
    on_err _ _ (part_after _ _ _ (codes "bytes ") _ c.in_ok-put.ensures.ok (part_before _ _ (hex_text c.args.bytes.now) (codes "\n") c.in_err-put_hex.ensures.err))

pub returns-in_err-put-2-clause-err : goal.returns-in_err-put-2-clause-err
returns-in_err-put-2-clause-err g c =
    on_err _ _ (part_after _ _ _ (codes "bytes ") _ c.in_ok-put.ensures.ok
    (part_after _ _ _ (hex_text c.args.bytes.now) (codes "\n") c.in_ok-put_hex.ensures.ok c.in_err-put-2.ensures.err))

use Rattle.std.proofs.Common.{◌≡◌, ◌++◌, ◌∙◌, codes}
use Rattle.pathkey.specs.Numbers.{word_of}
use Rattle.textio.proofs.Known.{on_err, part_after, part_before}
use Rattle.shell.proofs.reply.put_fault.Goals as goal

pub returns-in_err-put-clause-err : goal.returns-in_err-put-clause-err
returns-in_err-put-clause-err g c = on_err _ _ (part_before _ _ (codes "fault ") (word_of c.args.fault ++ codes "\n") c.in_err-put.ensures.err)

pub returns-in_err-put-2-clause-err : goal.returns-in_err-put-2-clause-err
returns-in_err-put-2-clause-err g c =
    let is : c.as_bytes.result.now ≡ word_of c.args.fault = c.as_bytes.ensures.value ∙ c.name.ensures in
    let part = rw is at c.in_err-put-2.ensures.err in
    on_err _ _ (part_after _ _ _ (codes "fault ") _ c.in_ok-put.ensures.ok (part_before _ _ (word_of c.args.fault) (codes "\n") part))

pub returns-in_err-put-3-clause-err : goal.returns-in_err-put-3-clause-err
returns-in_err-put-3-clause-err g c =
    let is : c.as_bytes.result.now ≡ word_of c.args.fault = c.as_bytes.ensures.value ∙ c.name.ensures in
    let word = rw is at c.in_ok-put-2.ensures.ok in
    on_err _ _ (part_after _ _ _ (codes "fault ") _ c.in_ok-put.ensures.ok (part_after _ _ _ (word_of c.args.fault) (codes "\n") word c.in_err-put-3.ensures.err))

use Rattle.std.proofs.Common.{arith, ◌≤◌, ◌<◌, ◌^◌, ◌+◌, refl, sym, ap, ◌∙◌, subst}
use Rattle.std.specs.Prelude.{Result, IfOk}
use Rattle.pathkey.specs.Keys.{Key}
use Rattle.pathkey.specs.declared.errno.Errno.{Errno}
use Rattle.reference.specs.declared.reply.Reply.TheVariants.{Count}
use Rattle.call_compiler.specs.declared.files.FoundFile.{FoundFile}
use Rattle.call_compiler.specs.Compiled.{messages, growth, has_grown}
use Rattle.call_compiler.proofs.Compiling.{halves}
use Rattle.call_compiler.proofs.OnHoles.{punch_is_refused, punch_is_nothing, punch_is_done}
use Rattle.call_compiler.proofs.punch.punch.Goals as goal

pub returns-in-Err : goal.returns-in-Err
returns-in-Err c = punch_is_refused c.args.indexes.now c.args.path.now c.args.offset c.args.count c.args.at c.refused.result.0 (messages c.refused.result.1)
    c.in_ok-file.field-0 c.in_ok-file.ensures.reported c.in-Err.fault c.in-Err.is c.refused.ensures.reply c.refused.ensures.messages

pub returns-then-len-eq0 : goal.returns-then-len-eq0
returns-then-len-eq0 c = punch_is_nothing c.args.indexes.now c.args.path.now c.args.offset c.args.count c.args.at c.without_messages.result.0 (messages c.without_messages.result.1)
    c.in_ok-file.field-0 c.in_ok-file.ensures.reported c.in-Ok.file c.in-Ok.is (sym c.reached-len.ensures.value ∙ c.if-len-eq0.true) c.without_messages.ensures.reply c.without_messages.ensures.messages

pub returns : goal.returns
returns c =
    let short : c.in-Ok.file.len ≤ 2 ^ 40 = subst (λ (r : Result FoundFile Errno). IfOk r (λ f. f.len ≤ 2 ^ 40)) c.in-Ok.is c.in_ok-file.ensures.short in
    let some : 0 < c.reached-len.result = omega (arith, c.if-len-eq0.false) in
    punch_is_done c.args.indexes.now c.args.path.now c.args.offset c.args.count c.args.at (Count c.reached-len.result) (record { meta = c.in_ok-meta.meta.items; block = c.in_ok-block.block.items })
    c.in_ok-file.field-0 c.in_ok-file.ensures.reported c.in-Ok.file c.in-Ok.is
    c.reached-len.result c.reached-len.ensures.value some (c.reached-len.ensures.within some) short (omega (arith, c.ranges.at.fits)) c.key-key.ensures.valid c.in_ok-block.block.items c.in_ok-block.ensures refl
    (halves _ _ _ _
    (c.in_ok-meta.ensures
    ∙ ap (λ (k : Key). growth k (c.args.offset + c.reached-len.result) c.args.at (has_grown (c.args.offset + c.reached-len.result) c.args.at c.in-Ok.file.len c.in-Ok.file.modified)) c.key-key.ensures.value)
    refl)

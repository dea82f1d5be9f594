use Rattle.std.proofs.Common.{arith, ◌≢◌, ◌≤◌, ◌^◌, ◌+◌, [], refl, sym, ap, ◌∙◌, subst}
use Rattle.std.specs.Prelude.{Result, IfOk}
use Rattle.std.proofs.lemmas.Bool.{leb-true}
use Rattle.pathkey.specs.Keys.{Key}
use Rattle.pathkey.specs.declared.errno.Errno.{Errno}
use Rattle.reference.specs.Calls.{greatest_file}
use Rattle.reference.specs.declared.reply.Reply.TheVariants.{Count}
use Rattle.call_compiler.specs.declared.files.FoundFile.{FoundFile}
use Rattle.call_compiler.specs.Compiled.{messages, growth, has_grown}
use Rattle.call_compiler.proofs.Compiling.{halves}
use Rattle.call_compiler.proofs.OnCopies.{copy_has_no_source, copy_has_no_target, copy_is_nothing, copy_is_too_large, copy_is_done}
use Rattle.call_compiler.proofs.copy_range.copy_range.Goals as goal

pub returns-in-Err : goal.returns-in-Err
returns-in-Err c = copy_has_no_source c.args.indexes.now c.args.from.now c.args.offset c.args.to.now c.args.target c.args.count c.args.at c.refused.result.0 (messages c.refused.result.1)
    c.in_ok-file.field-0 c.in_ok-file.ensures.reported c.in-Err.fault c.in-Err.is c.refused.ensures.reply c.refused.ensures.messages

pub returns-in-Err-2 : goal.returns-in-Err-2
returns-in-Err-2 c = copy_has_no_target c.args.indexes.now c.args.from.now c.args.offset c.args.to.now c.args.target c.args.count c.args.at c.refused-in-Err-2.result.0 (messages c.refused-in-Err-2.result.1)
    c.in_ok-file.field-0 c.in_ok-file.ensures.reported c.in-Ok.file c.in-Ok.is c.in_ok-file-2.field-0 c.in_ok-file-2.ensures.reported c.in-Err-2.fault c.in-Err-2.is c.refused-in-Err-2.ensures.reply c.refused-in-Err-2.ensures.messages

pub returns-then-len-eq0 : goal.returns-then-len-eq0
returns-then-len-eq0 c = copy_is_nothing c.args.indexes.now c.args.from.now c.args.offset c.args.to.now c.args.target c.args.count c.args.at c.without_messages.result.0 (messages c.without_messages.result.1)
    c.in_ok-file.field-0 c.in_ok-file.ensures.reported c.in-Ok.file c.in-Ok.is c.in_ok-file-2.field-0 c.in_ok-file-2.ensures.reported c.in-Ok-2.file c.in-Ok-2.is
    (sym c.reached-len.ensures.value ∙ c.if-len-eq0.true) c.without_messages.ensures.reply c.without_messages.ensures.messages

pub returns-then-not-fits_file : goal.returns-then-not-fits_file
returns-then-not-fits_file c = copy_is_too_large c.args.indexes.now c.args.from.now c.args.offset c.args.to.now c.args.target c.args.count c.args.at c.refused-then-not-fits_file.result.0 (messages c.refused-then-not-fits_file.result.1)
    c.in_ok-file.field-0 c.in_ok-file.ensures.reported c.in-Ok.file c.in-Ok.is c.in_ok-file-2.field-0 c.in_ok-file-2.ensures.reported c.in-Ok-2.file c.in-Ok-2.is
    c.reached-len.result c.reached-len.ensures.value (omega (arith, c.if-len-eq0.false)) (sym c.fits_file.ensures ∙ c.if-not-fits_file.true) c.refused-then-not-fits_file.ensures.reply c.refused-then-not-fits_file.ensures.messages

pub copy_msgs-requires-clause-files : goal.copy_msgs-requires-clause-files
copy_msgs-requires-clause-files c =
    (subst (λ (r : Result FoundFile Errno). IfOk r (λ _. c.args.from.now ≢ [])) c.in-Ok.is c.in_ok-file.ensures.path, subst (λ (r : Result FoundFile Errno). IfOk r (λ _. c.args.to.now ≢ [])) c.in-Ok-2.is c.in_ok-file-2.ensures.path)

pub copy_msgs-requires-clause-within : goal.copy_msgs-requires-clause-within
copy_msgs-requires-clause-within c = c.reached-len.ensures.within (omega (arith, c.if-len-eq0.false))

pub copy_msgs-requires-clause-short : goal.copy_msgs-requires-clause-short
copy_msgs-requires-clause-short c =
    (subst (λ (r : Result FoundFile Errno). IfOk r (λ f. f.len ≤ 2 ^ 40)) c.in-Ok.is c.in_ok-file.ensures.short, leb-true (c.args.target + c.reached-len.result) greatest_file (sym c.fits_file.ensures ∙ c.if-not-fits_file.false))

pub overflow_add-target : goal.overflow_add-target
overflow_add-target c =
    let fits : c.args.target + c.reached-len.result ≤ greatest_file = leb-true (c.args.target + c.reached-len.result) greatest_file (sym c.fits_file.ensures ∙ c.if-not-fits_file.false) in
    omega (arith, fits)

pub returns : goal.returns
returns c =
    copy_is_done c.args.indexes.now c.args.from.now c.args.offset c.args.to.now c.args.target c.args.count c.args.at (Count c.reached-len.result) (record { meta = c.in_ok-meta.meta.items; block = c.in_ok-block.block.items })
    c.in_ok-file.field-0 c.in_ok-file.ensures.reported c.in-Ok.file c.in-Ok.is c.in_ok-file-2.field-0 c.in_ok-file-2.ensures.reported c.in-Ok-2.file c.in-Ok-2.is
    c.reached-len.result c.reached-len.ensures.value (omega (arith, c.if-len-eq0.false)) (leb-true (c.args.target + c.reached-len.result) greatest_file (sym c.fits_file.ensures ∙ c.if-not-fits_file.false))
    (omega (arith, c.ranges.at.fits)) c.key-from_key.ensures.valid c.key-key.ensures.valid c.in_ok-block.block.items c.in_ok-block.ensures.copied c.in_ok-block.ensures.few refl
    (halves _ _ _ _
    (c.in_ok-meta.ensures
    ∙ ap (λ (k : Key). growth k (c.args.target + c.reached-len.result) c.args.at (has_grown (c.args.target + c.reached-len.result) c.args.at c.in-Ok-2.file.len c.in-Ok-2.file.modified)) c.key-key.ensures.value)
    refl)

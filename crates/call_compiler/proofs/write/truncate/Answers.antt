use Rattle.std.proofs.Common.{arith, [], ◌∷◌, refl, sym, ap, ◌∙◌}
use Rattle.message.specs.declared.msg.Msg.TheVariants.{Edit}
use Rattle.meta_index.specs.declared.update.MetaUpdate.TheVariants.{SetLen}
use Rattle.pathkey.specs.Keys.{Key}
use Rattle.call_compiler.specs.Compiled.{messages}
use Rattle.call_compiler.proofs.Compiling.{if_ok_both, halves}
use Rattle.call_compiler.proofs.OnFiles.{truncate_is_refused, truncate_is_too_large, truncate_is_idle, truncate_is_done}
use Rattle.call_compiler.proofs.write.truncate.Goals as goal

pub returns-in-Err : goal.returns-in-Err
returns-in-Err c = truncate_is_refused c.args.indexes.now c.args.path.now c.args.len c.args.at c.refused.result.0 (messages c.refused.result.1)
    c.in_ok-file.field-0 c.in_ok-file.ensures.reported c.in-Err.fault c.in-Err.is c.refused.ensures.reply c.refused.ensures.messages

pub returns-then-len-gt-GREATEST_FILE : goal.returns-then-len-gt-GREATEST_FILE
returns-then-len-gt-GREATEST_FILE c = truncate_is_too_large c.args.indexes.now c.args.path.now c.args.len c.args.at c.refused-then-len-gt-GREATEST_FILE.result.0 (messages c.refused-then-len-gt-GREATEST_FILE.result.1)
    c.in_ok-file.field-0 c.in_ok-file.ensures.reported c.in-Ok.file c.in-Ok.is c.if-len-gt-GREATEST_FILE.true c.refused-then-len-gt-GREATEST_FILE.ensures.reply c.refused-then-len-gt-GREATEST_FILE.ensures.messages

pub returns-then-has_exactly : goal.returns-then-has_exactly
returns-then-has_exactly c = truncate_is_idle c.args.indexes.now c.args.path.now c.args.len c.args.at c.without_messages.result.0 (messages c.without_messages.result.1)
    c.in_ok-file.field-0 c.in_ok-file.ensures.reported c.in-Ok.file c.in-Ok.is (omega (arith, c.ranges.at.fits)) c.key-key.ensures.valid c.if-len-gt-GREATEST_FILE.false
    (sym c.has_exactly.ensures ∙ c.if-has_exactly.true) c.without_messages.ensures.reply c.without_messages.ensures.messages

pub returns : goal.returns
returns c = if_ok_both c.done.result _ _ _
    (λ a reply sent. truncate_is_done c.args.indexes.now c.args.path.now c.args.len c.args.at a.0 (messages a.1)
    c.in_ok-file.field-0 c.in_ok-file.ensures.reported c.in-Ok.file c.in-Ok.is c.in_ok-block.block.items c.in_ok-block.ensures.cut c.in_ok-block.ensures.kept
    (omega (arith, c.ranges.at.fits)) c.key-key.ensures.valid c.if-len-gt-GREATEST_FILE.false c.in_ok-block.ensures.few (sym c.has_exactly.ensures ∙ c.if-has_exactly.false) reply
    (sent ∙ halves _ _ _ _ (ap (λ (k : Key). Edit k (SetLen c.args.len c.args.at) ∷ []) (c.in_ok-copy.ensures ∙ c.key-key.ensures.value)) refl))
    c.done.ensures.reply c.done.ensures.messages

use Rattle.std.proofs.Common.{arith, List, ◌∷◌, refl, ap, ◌∙◌}
use Rattle.message.specs.declared.msg.Msg.{Msg}
use Rattle.message.specs.declared.msg.Msg.TheVariants.{Del}
use Rattle.meta_index.specs.declared.update.MetaUpdate.{MetaUpdate}
use Rattle.pathkey.specs.Keys.{Key, enc}
use Rattle.reference.specs.Calls.{parent}
use Rattle.reference.specs.declared.reply.Meta.{Meta}
use Rattle.call_compiler.specs.Compiled.{messages}
use Rattle.call_compiler.specs.Touches.{needed_touches}
use Rattle.call_compiler.proofs.Compiling.{if_ok_both, halves}
use Rattle.call_compiler.proofs.Idle.{unknown_touches}
use Rattle.call_compiler.proofs.OnFiles.{unlink_is_refused, unlink_is_done}
use Rattle.call_compiler.proofs.remove.unlink.Goals as goal

pub returns-in-Err : goal.returns-in-Err
returns-in-Err c = unlink_is_refused c.args.indexes.now c.args.path.now c.args.at c.refused.result.0 (messages c.refused.result.1)
    c.in_ok-file.field-0 c.in_ok-file.ensures.reported c.in-Err.fault c.in-Err.is c.refused.ensures.reply c.refused.ensures.messages

pub returns : goal.returns
returns c =
    let d = c.in_ok-directory.directory in
    if_ok_both c.done_in.result _ _ _
    (λ a reply sent. unlink_is_done c.args.indexes.now c.args.path.now c.args.at a.0 (messages a.1)
    c.in_ok-file.field-0 c.in_ok-file.ensures.reported c.in-Ok.file c.in-Ok.is (omega (arith, c.ranges.at.fits)) c.key-key.ensures.valid
    c.in_ok-block.block.items c.in_ok-block.ensures.cleared c.in_ok-block.ensures.few c.in_ok-block.ensures.none reply
    (sent ∙ halves _ _ _ _
    (ap (λ (k : Key). Del k ∷ needed_touches c.args.at d) (c.in_ok-copy.ensures ∙ c.key-key.ensures.value)
    ∙ ap (λ (ts : List (Msg MetaUpdate Meta)). Del (enc c.args.path.now) ∷ ts) (unknown_touches c.args.at d (parent c.args.path.now) c.in_ok-directory.ensures.path c.in_ok-directory.ensures.moment))
    refl))
    c.done_in.ensures.reply c.done_in.ensures.messages

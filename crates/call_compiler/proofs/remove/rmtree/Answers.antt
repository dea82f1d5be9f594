use Rattle.std.proofs.Common.{arith, List, ℕ, [], ◌∷◌, ◌++◌, ap, ◌∙◌}
use Rattle.block_index.specs.declared.update.BlockUpdate.{BlockUpdate}
use Rattle.message.specs.declared.msg.Msg.{Msg}
use Rattle.message.specs.declared.msg.Msg.TheVariants.{DelRange}
use Rattle.meta_index.specs.declared.update.MetaUpdate.{MetaUpdate}
use Rattle.pathkey.specs.Keys.{subtree}
use Rattle.pathkey.specs.declared.range.KeyRange.{KeyRange}
use Rattle.reference.specs.declared.reply.Meta.{Meta}
use Rattle.call_compiler.specs.Compiled.{messages}
use Rattle.call_compiler.specs.Touches.{needed_touches}
use Rattle.reference.specs.Calls.{parent}
use Rattle.call_compiler.proofs.Compiling.{if_ok_both, halves}
use Rattle.call_compiler.proofs.Idle.{unknown_touches}
use Rattle.call_compiler.proofs.Entries.{rmtree_is_refused, rmtree_is_done}
use Rattle.call_compiler.proofs.remove.rmtree.Goals as goal

pub returns-in-Some : goal.returns-in-Some
returns-in-Some c = rmtree_is_refused c.args.indexes.now c.args.path.now c.args.at c.refused.result.0 (messages c.refused.result.1)
    c.fault_of_taking.result (λ t means. c.fault_of_taking.ensures t (c.in_ok-here.ensures.reported t means)) c.in-Some.fault c.in-Some.is c.refused.ensures.reply c.refused.ensures.messages

pub returns : goal.returns
returns c =
    let d = c.in_ok-directory.directory in
    if_ok_both c.done_in.result _ _ _
    (λ a reply sent. rmtree_is_done c.args.indexes.now c.args.path.now c.args.at a.0 (messages a.1) c.fault_of_taking.result (λ t means. c.fault_of_taking.ensures t (c.in_ok-here.ensures.reported t means)) c.in_default.is (omega (arith, c.ranges.at.fits)) c.key-key.ensures.valid reply
    (sent ∙ halves _ _ _ _
    (ap (λ (r : KeyRange). DelRange r ∷ needed_touches c.args.at d) c.in_ok-range.ensures
    ∙ ap (λ (ts : List (Msg MetaUpdate Meta)). DelRange (subtree c.args.path.now) ∷ ts) (unknown_touches c.args.at d (parent c.args.path.now) c.in_ok-directory.ensures.path c.in_ok-directory.ensures.moment))
    (c.in_ok-push.ensures.items ∙ ap (λ (ms : List (Msg BlockUpdate (List ℕ))). ms ++ DelRange c.in_ok-copy.field-0 ∷ []) c.in_ok-block.ensures.items ∙ ap (λ (r : KeyRange). DelRange r ∷ []) (c.in_ok-copy.ensures ∙ c.in_ok-range.ensures))))
    c.done_in.ensures.reply c.done_in.ensures.messages

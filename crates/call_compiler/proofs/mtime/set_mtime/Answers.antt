use Rattle.std.proofs.Common.{◌∷◌, [], ap, ◌∙◌, arith}
use Rattle.message.specs.declared.msg.Msg.TheVariants.{Edit}
use Rattle.meta_index.specs.declared.update.MetaUpdate.TheVariants.{Touch}
use Rattle.pathkey.specs.Keys.{Key}
use Rattle.reference.specs.Tree.{entry_at}
use Rattle.call_compiler.specs.Compiled.{messages}
use Rattle.call_compiler.proofs.Compiling.{if_ok_both, halves, meta_meant}
use Rattle.call_compiler.proofs.Mtimes.{mtime_is_refused, mtime_is_done}
use Rattle.call_compiler.proofs.mtime.set_mtime.Goals as goal

pub returns-in-Some : goal.returns-in-Some
returns-in-Some c = mtime_is_refused c.args.indexes.now c.args.path.now c.args.at c.refused.result.0 (messages c.refused.result.1) c.fault_of_path.result
    (λ t means. c.fault_of_path.ensures (entry_at t c.args.path.now) (c.in_ok-found.ensures.reported t (meta_meant c.args.indexes.now t means)))
    c.in-Some.fault c.in-Some.is c.refused.ensures.reply c.refused.ensures.messages

pub returns : goal.returns
returns c =
    if_ok_both c.done.result _ _ _
    (λ a reply sent. mtime_is_done c.args.indexes.now c.args.path.now c.args.at a.0 (messages a.1) c.fault_of_path.result
    (λ t means. c.fault_of_path.ensures (entry_at t c.args.path.now) (c.in_ok-found.ensures.reported t (meta_meant c.args.indexes.now t means)))
    c.in_default.is (omega (arith, c.ranges.at.fits)) c.key-key.ensures.valid reply
    (sent ∙ halves _ _ _ _ (ap (λ (k : Key). Edit k (Touch c.args.at) ∷ []) (c.in_ok-copy.ensures ∙ c.key-key.ensures.value)) c.new.ensures.items))
    c.done.ensures.reply c.done.ensures.messages

use Rattle.std.proofs.Common.{◌≡◌, arith, ◌∷◌, ap, ◌∙◌}
use Rattle.std.specs.Result.{result_err}
use Rattle.std.proofs.lemmas.Result.{IfOk-at_ok}
use Rattle.message.specs.declared.msg.Msg.TheVariants.{Put}
use Rattle.meta_index.specs.Means.{IsMeantBy}
use Rattle.pathkey.specs.Keys.{Key}
use Rattle.reference.specs.Calls.{parent}
use Rattle.reference.specs.Tree.{Tree, entry_at}
use Rattle.reference.specs.declared.reply.Meta.TheVariants.{Dir as DirMeta}
use Rattle.call_compiler.specs.declared.dir_mtime.ParentDir.{ParentDir}
use Rattle.call_compiler.specs.Compiled.{messages}
use Rattle.call_compiler.specs.Touches.{needed_touches, IsDated}
use Rattle.call_compiler.proofs.Compiling.{if_ok_both, halves}
use Rattle.call_compiler.proofs.Entries.{mkdir_is_refused, mkdir_is_done}
use Rattle.call_compiler.proofs.create.mkdir.Goals as goal

pub returns-in-Err : goal.returns-in-Err
returns-in-Err c = mkdir_is_refused c.args.indexes.now c.args.path.now c.args.at c.refused.result.0 (messages c.refused.result.1)
    (result_err c.in_ok-directory.field-0) c.in_ok-directory.ensures.fault c.in-Err.fault (ap result_err c.in-Err.is) c.refused.ensures.reply c.refused.ensures.messages

pub returns : goal.returns
returns c =
    let d = c.in-Ok.directory in
    let place = IfOk-at_ok (λ (x : ParentDir). x.path ≡ parent c.args.path.now) c.in-Ok.is c.in_ok-directory.ensures.directory in
    let dated = IfOk-at_ok (λ (x : ParentDir). (t : Tree) → IsMeantBy t c.args.indexes.now.meta → IsDated (entry_at t (parent c.args.path.now)) x) c.in-Ok.is c.in_ok-directory.ensures.moment in
    if_ok_both c.done_in.result _ _ _
    (λ a reply sent. mkdir_is_done c.args.indexes.now c.args.path.now c.args.at a.0 (messages a.1)
    (result_err c.in_ok-directory.field-0) c.in_ok-directory.ensures.fault (ap result_err c.in-Ok.is) (omega (arith, c.ranges.at.fits)) c.key-key.ensures.valid d (place, dated) reply
    (sent ∙ halves _ _ _ _ (ap (λ (k : Key). Put k (DirMeta c.args.at) ∷ needed_touches c.args.at d) (c.in_ok-copy.ensures ∙ c.key-key.ensures.value)) c.new.ensures.items))
    c.done_in.ensures.reply c.done_in.ensures.messages

use Rattle.std.proofs.Common.{List, ℕ, [], ◌∷◌, ◌++◌, ap, subst, ◌∙◌}
use Rattle.std.specs.Global.{Vec}
use Rattle.block_index.specs.Means.{blocks}
use Rattle.block_index.specs.declared.update.BlockUpdate.{BlockUpdate}
use Rattle.message.specs.declared.msg.Msg.{Msg}
use Rattle.message.specs.declared.msg.Msg.TheVariants.{DelRange}
use Rattle.pathkey.specs.Keys.{blocks_from}
use Rattle.pathkey.specs.declared.range.KeyRange.{KeyRange}
use Rattle.call_compiler.specs.Compiled.{AreClear}
use Rattle.call_compiler.proofs.Idle.{range_sent, range_kept}
use Rattle.call_compiler.proofs.files.without_blocks.Goals as goal
use Rattle.call_compiler.proofs.files.without_blocks.Goals.{then-branch+in_ok-push, else-branch}

pub returns-clause-cleared : goal.returns-clause-cleared
returns-clause-cleared c = elim c.if-branch.branch [
  | then-branch+in_ok-push w ↦ range_sent (blocks c.args.indexes.now.block) (blocks_from c.args.path.now 0) c.if-branch.msgs.items
      (ap (λ (v : Vec (Msg BlockUpdate (List ℕ))). v.items) w.msgs-is
      ∙ w.in_ok-push.ensures.items
      ∙ ap (λ (ms : List (Msg BlockUpdate (List ℕ))). ms ++ DelRange c.in_ok-range.range ∷ []) c.new-msgs.ensures.items
      ∙ ap (λ (r : KeyRange). DelRange r ∷ []) c.in_ok-range.ensures)
  | else-branch w ↦ range_kept (blocks c.args.indexes.now.block) (blocks_from c.args.path.now 0) c.if-branch.msgs.items
      (ap (λ (v : Vec (Msg BlockUpdate (List ℕ))). v.items) w.msgs-is ∙ c.new-msgs.ensures.items)
      (subst (λ (r : KeyRange). AreClear (blocks c.args.indexes.now.block) r) c.in_ok-range.ensures (c.in_ok-may_have_blocks.ensures.none w.if-branch.false))
]

use Rattle.std.proofs.Common.{◌≡◌, List, [], ◌∷◌, ◌++◌, ap, ◌∙◌}
use Rattle.message.specs.declared.msg.Msg.{Msg}
use Rattle.message.specs.declared.msg.Msg.TheVariants.{Put}
use Rattle.pathkey.specs.Keys.{Key}
use Rattle.reference.specs.declared.reply.Meta.{Meta}
use Rattle.reference.specs.declared.reply.Meta.TheVariants.{Dir as DirMeta}
use Rattle.meta_index.specs.declared.update.MetaUpdate.{MetaUpdate}
use Rattle.meta_index.proofs.Fresh.{root_alone}
use Rattle.meta_index.proofs.index.MetaIndex.new.Goals as goal

pub returns-clause-empty : goal.returns-clause-empty
returns-clause-empty c =
    let msgs : c.push.new.self.items ≡ Put [] (DirMeta 0) ∷ [] =
    c.in_ok-push.ensures.items ∙ ap (λ (ms : List (Msg MetaUpdate Meta)). ms ++ Put c.new-2.result (DirMeta 0) ∷ []) c.in_ok-msgs.ensures.items ∙ ap (λ (k : Key). Put k (DirMeta 0) ∷ []) c.new-2.ensures in
    root_alone c.in_ok-tree.tree (record { tree = c.append.new.self }) c.in_ok-tree.ensures.root (rw msgs at c.in_ok-append.ensures.ok)

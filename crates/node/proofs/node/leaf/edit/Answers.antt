use Rattle.std.proofs.Common.{ℕ, List, subst}
use Rattle.std.proofs.lemmas.Result.{on_ok_weaker}
use Rattle.pathkey.specs.Order.{same}
use Rattle.node.specs.Leaves.{IsChanged, IsEntry}
use Rattle.node.specs.Meaning.{lookup}
use Rattle.node.proofs.node.leaf.edit.Goals as goal

pub returns-in-Ok-clause-ok : goal.returns-in-Ok-clause-ok
returns-in-Ok-clause-ok g c =
    let es = c.args.entries.now.items in
    on_ok_weaker c.edit_entry.result
    (λ (changed : (k : List ℕ) → IsEntry es k c.in-Ok.i → IsChanged (same k) (g.U.Update.means c.args.update.now (lookup es k)) es c.edit_entry.new.entries.items).
    changed c.args.key.now (subst (λ es. IsEntry es c.args.key.now c.in-Ok.i) c.as_slice.ensures.value c.in-Ok.ensures))
    c.edit_entry.ensures.ok

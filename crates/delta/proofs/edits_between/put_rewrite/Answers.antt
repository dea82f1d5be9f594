use Rattle.std.proofs.Common.{◌≡◌, Option, Some, None, refl, sym, ◌∙◌}
use Rattle.std.specs.Prelude.{IfSome}
use Rattle.reference.specs.Reads.{sight}
use Rattle.edits.specs.Lines.{IsChange}
use Rattle.edits.specs.declared.edit.Change.{Change}
use Rattle.edits.proofs.EditsValid.{rewrite_valid}
use Rattle.delta.proofs.edits_between.put_rewrite.Goals as goal

pub put_change-requires : goal.put_change-requires
put_change-requires c = go c.in_ok-change.change refl
  where
    go : (o : Option Change) → c.in_ok-change.change ≡ o → IfSome o IsChange
    go None e = tt
    go (Some x) e = rewrite_valid (sight c.assert_invariant.ensures.tree c.args.path.now) c.assert_invariant-2.ensures.tree c.args.path.now c.args.number x c.assert_invariant-2.ensures.means.indexes.tree c.requires
        (sym (c.in_ok-change.ensures c.assert_invariant.ensures.tree c.assert_invariant-2.ensures.tree c.assert_invariant.ensures.means c.assert_invariant-2.ensures.means) ∙ e)

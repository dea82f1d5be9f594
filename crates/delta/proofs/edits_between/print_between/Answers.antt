use Rattle.delta.proofs.EditTexts.{printed}
use Rattle.delta.proofs.edits_between.print_between.Goals as goal

pub put_rewrites-requires : goal.put_rewrites-requires
put_rewrites-requires c = λ b there. ((c.requires.blocks c.assert_invariant.ensures.tree c.assert_invariant-2.ensures.tree c.assert_invariant.ensures.means c.assert_invariant-2.ensures.means).paths b there).1

pub returns : goal.returns
returns c = λ t u of_t of_u.
    printed t u c.args.paths.now c.args.blocks.now c.new-out.result.items c.extend_from_slice.new.self.items c.put_removals.new.out.items c.put_arrivals.new.out.items c.put_rewrites.new.out.items c.extend_from_slice-2.new.self.items
    of_t.indexes.tree of_u.indexes.tree (c.requires.entries t u of_t of_u) (c.requires.blocks t u of_t of_u)
    c.new-out.ensures.items c.in_ok-extend_from_slice.ensures.items (c.in_ok-put_removals.ensures t u of_t of_u) (c.in_ok-put_arrivals.ensures t u of_t of_u) (c.in_ok-put_rewrites.ensures t u of_t of_u) c.in_ok-extend_from_slice-2.ensures.items

use Rattle.std.proofs.Common.{List, sym, subst, ◌∙◌}
use Rattle.std.specs.List.{Contains}
use Rattle.pathkey.specs.Keys.{Key}
use Rattle.edits.specs.Between.{AreBlocksBetween, AreEntriesBetween}
use Rattle.delta.specs.Changed.{AreFound}
use Rattle.delta.proofs.KeysBetween.{block_keys, blocks_found, entries_found, path_keys}
use Rattle.delta.proofs.edits_between.print_edits.Goals as goal

pub paths_of-requires : goal.paths_of-requires
paths_of-requires c = λ k there.
    path_keys c.args.old.now c.args.new.now c.assert_invariant.ensures.tree c.assert_invariant-2.ensures.tree c.assert_invariant.ensures.means c.assert_invariant-2.ensures.means
    c.in_ok-metas.field-0.metas.items c.sort_distinct.new.keys.items c.in_ok-metas.ensures.metas c.in_ok-sort_distinct.ensures.same k
    (subst (λ (l : List Key). Contains l k) c.as_slice.ensures.value there)

pub blocks_of-requires : goal.blocks_of-requires
blocks_of-requires c = λ k there.
    block_keys c.args.old.now c.args.new.now c.assert_invariant.ensures.tree c.assert_invariant-2.ensures.tree c.assert_invariant.ensures.means c.assert_invariant-2.ensures.means
    c.in_ok-metas.field-0.blocks.items c.sort_distinct-2.new.keys.items c.in_ok-metas.ensures.blocks c.in_ok-sort_distinct-2.ensures.same k
    (subst (λ (l : List Key). Contains l k) c.as_slice-2.ensures.value there)

pub print_between-requires-clause-entries : goal.print_between-requires-clause-entries
print_between-requires-clause-entries c = λ t u of_t of_u.
    subst (AreEntriesBetween t u) (sym c.as_slice-3.ensures.value)
    (entries_found c.args.old.now c.args.new.now t u of_t of_u c.in_ok-metas.field-0.metas.items c.sort_distinct.new.keys.items
    c.in_ok-metas.ensures.metas c.in_ok-sort_distinct.ensures.same
    c.in_ok-sort_distinct.ensures.rising c.in_ok-paths.paths.items c.in_ok-paths.ensures.paths (c.in_ok-paths.ensures.keys ∙ c.as_slice.ensures.value))

pub print_between-requires-clause-blocks : goal.print_between-requires-clause-blocks
print_between-requires-clause-blocks c = λ t u of_t of_u.
    subst (AreBlocksBetween t u) (sym c.as_slice-4.ensures.value)
    (blocks_found c.args.old.now c.args.new.now t u of_t of_u c.in_ok-metas.field-0.blocks.items c.sort_distinct-2.new.keys.items
    c.in_ok-metas.ensures.blocks c.in_ok-sort_distinct-2.ensures.same
    c.in_ok-sort_distinct-2.ensures.rising c.in_ok-found.found.items (subst (λ (l : List Key). AreFound l c.in_ok-found.found.items) c.as_slice-2.ensures.value c.in_ok-found.ensures))

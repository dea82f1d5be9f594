use Rattle.std.proofs.Common.{List, subst, ◌∙◌}
use Rattle.std.specs.List.{Contains}
use Rattle.pathkey.specs.Keys.{Key}
use Rattle.delta.specs.Changed.{HaveSame}
use Rattle.delta.proofs.ChangedFacts.{mixed_changed, mixed_path}
use Rattle.delta.proofs.changed.changed_paths.Goals as goal

pub paths_of-requires : goal.paths_of-requires
paths_of-requires c = λ k there.
    mixed_path c.args.old.now c.args.new.now c.assert_invariant.ensures.tree c.assert_invariant-2.ensures.tree c.assert_invariant.ensures.means c.assert_invariant-2.ensures.means
    c.in_ok-differing.differing.metas.items c.in_ok-differing.differing.blocks.items c.sort_distinct.new.keys.items c.in_ok-differing.ensures.metas c.in_ok-differing.ensures.blocks
    (subst (HaveSame c.sort_distinct.new.keys.items) c.in_ok-keys.ensures c.in_ok-sort_distinct.ensures.same) k
    (subst (λ (l : List Key). Contains l k) c.as_slice.ensures.value there)

pub returns : goal.returns
returns c = λ t u of_t of_u.
    mixed_changed c.args.old.now c.args.new.now t u of_t of_u
    c.in_ok-differing.differing.metas.items c.in_ok-differing.differing.blocks.items c.sort_distinct.new.keys.items c.in_ok-differing.ensures.metas c.in_ok-differing.ensures.blocks
    (subst (HaveSame c.sort_distinct.new.keys.items) c.in_ok-keys.ensures c.in_ok-sort_distinct.ensures.same)
    c.in_ok-sort_distinct.ensures.rising c.in_ok-paths.paths.items c.in_ok-paths.ensures.paths (c.in_ok-paths.ensures.keys ∙ c.as_slice.ensures.value)

use Rattle.std.proofs.Common.{sym, subst}
use Rattle.node.specs.Searchable.{IsSearchable}
use Rattle.node.proofs.Placing.{searchable_child}
use Rattle.flush.proofs.leaf.count_to_cut.Goals as goal

pub oldest_to_cut-count-requires : goal.oldest_to_cut-count-requires
oldest_to_cut-count-requires g c = subst (λ s. IsSearchable s.child.value) (sym c.index-slots-i.is) (searchable_child c.args.slots.now c.args.i c.index-slots-i.result c.requires.bound c.requires.searchable.1)

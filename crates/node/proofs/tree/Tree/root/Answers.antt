use Rattle.node.proofs.Roots.{borrowed_is_searchable}
use Rattle.node.proofs.tree.Tree.root.Goals as goal

pub returns-clause-searchable : goal.returns-clause-searchable
returns-clause-searchable g c = borrowed_is_searchable c.self.inside.shape c.self.inside.root.value c.deref.result.now c.self.invariant c.deref.ensures

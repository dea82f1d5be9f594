use Rattle.node.proofs.Roots.{borrowed_is_root, lawful_same}
use Rattle.node.proofs.tree.Tree.make_sharable.Goals as goal

pub make_sharable-requires : goal.make_sharable-requires
make_sharable-requires g c = borrowed_is_root c.self.inside.shape c.self.inside.root.value c.in-Some.root.now c.self.invariant (rw c.in-Some.is at c.get_mut.ensures.value)

pub invariant_of-self-2 : goal.invariant_of-self-2
invariant_of-self-2 g c = lawful_same c.self.inside.shape c.self.inside.root.value c.in-Some.root.now c.make_sharable.new.self c.self.invariant (rw c.in-Some.is at c.get_mut.ensures.value) c.make_sharable.ensures

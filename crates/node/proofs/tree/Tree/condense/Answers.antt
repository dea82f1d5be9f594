use Rattle.std.proofs.Common.{ap, is_some, refl, [], Ok}
use Rattle.std.specs.Prelude.{Result}
use Rattle.node.proofs.Roots.{borrowed_is_root, lawful_after, appended_after, appended_none}
use Rattle.node.proofs.Grafting.{keeps_nothing}
use Rattle.node.proofs.tree.Tree.condense.Goals as goal

abbrev done : Result (Unit {0}) (Unit {0})
done = Ok tt

pub condense-requires : goal.condense-requires
condense-requires g c = borrowed_is_root c.self.inside.shape c.self.inside.root.value c.in-Some.root.now c.self.invariant (rw c.in-Some.is at c.get_mut.ensures.value)

pub returns-in_default-clause-appended : goal.returns-in_default-clause-appended
returns-in_default-clause-appended g c = appended_none c.self.inside.shape g.U.Update.means [] c.args.self.now c.self.inside.root.value c.self.invariant c.self.view_is refl

pub returns-in_default-clause-kept : goal.returns-in_default-clause-kept
returns-in_default-clause-kept g c = keeps_nothing c.self.inside.shape 0 c.args.kept.now [] c.args.self.now c.self.inside.root.value c.self.view_is refl

pub invariant_of-self-2 : goal.invariant_of-self-2
invariant_of-self-2 g c = lawful_after c.self.inside.shape g.U.Update.means done [] c.self.inside.root.value c.in-Some.root.now c.condense.new.self c.condense.new.self c.self.invariant (rw c.in-Some.is at c.get_mut.ensures.value) c.condense.ensures.taken tt refl

pub returns-clause-appended : goal.returns-clause-appended
returns-clause-appended g c = appended_after c.self.inside.shape g.U.Update.means done [] c.args.self.now c.self.inside.root.value c.in-Some.root.now c.condense.new.self c.condense.new.self c.self.invariant c.self.view_is (rw c.in-Some.is at c.get_mut.ensures.value) c.condense.ensures.taken refl

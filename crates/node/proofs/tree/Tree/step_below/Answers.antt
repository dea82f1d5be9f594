use Rattle.std.proofs.Common.{sym, ◌∙◌, subst, None}
use Rattle.node.specs.Site.{end_at, slots_at}
use Rattle.node.specs.Searchable.{IsSearchable}
use Rattle.node.specs.Steps.{Answers, At, IsAdmitted, Replies, is_top}
use Rattle.node.proofs.Outcome.{outcome, is_top-is, Outcome, answers, refused, reported}
use Rattle.node.proofs.Placing.{searchable_root}
use Rattle.node.proofs.Roots.{tree_of}
use Rattle.node.proofs.tree.Tree.step_below.Goals as goal
use Rattle.node.proofs.tree.Tree.step_below.Goals.{After-descend}

pub precheck-refused-requires : goal.precheck-refused-requires
precheck-refused-requires g c = subst IsSearchable (sym c.deref.ensures) (searchable_root c.self.inside.shape c.self.invariant.levels c.self.inside.root.value c.self.invariant.root)

pub returns-in-Some : goal.returns-in-Some
returns-in-Some g c =
    let why = rw c.in-Some.is at (reported g.U.Update.means g.C.SlotStep.kind c.self.inside.shape c.args.slot c.args.numbers.now c.precheck-refused.result c.is_empty-is_root.result c.deref.result.now c.self.inside.root.value (c.is_empty-is_root.ensures ∙ is_top-is c.args.numbers.now) c.deref.ensures c.precheck-refused.ensures) in
    let same = refused g.U.Update.means g.C.SlotStep.kind c.args.slot c.args.numbers.now c.in-Some.reply (tree_of c.self.inside.shape c.self.inside.root.value) why in
    subst (λ t. Answers g.U.Update.means g.C.SlotStep.kind c.args.numbers.now c.args.slot c.in-Some.reply t t) c.self.view_is same

able : (g : _) (c : After-descend g) → IsAdmitted g.U.Update.means g.C.SlotStep.kind c.self.inside.shape (is_top c.args.numbers.now) c.args.slot (end_at c.args.numbers.now None c.self.inside.root.value) (slots_at c.args.numbers.now c.self.inside.root.value)
able g c = rw c.in_default.is at (reported g.U.Update.means g.C.SlotStep.kind c.self.inside.shape c.args.slot c.args.numbers.now c.precheck-refused.result c.is_empty-is_root.result c.deref.result.now c.self.inside.root.value (c.is_empty-is_root.ensures ∙ is_top-is c.args.numbers.now) c.deref.ensures c.precheck-refused.ensures)

done : (g : _) (c : After-descend g) → Outcome g.U.Update.means g.C.SlotStep.kind c.self.inside.shape c.args.numbers.now c.args.slot c.self.invariant.levels c.descend.result c.self.inside.root.value c.descend.new.node.value
done g c =
    let root = c.is_empty-is_root.ensures ∙ is_top-is c.args.numbers.now in
    let q = subst (λ z. At c.args.numbers.now c.descend.result (Replies g.U.Update.means g.C.SlotStep.kind c.self.inside.shape z c.args.slot c.descend.result) c.self.inside.root.value c.descend.new.node.value) root c.descend.ensures in
    outcome g.U.Update.means g.C.SlotStep.kind c.self.inside.shape c.args.slot c.args.numbers.now c.self.invariant.levels c.descend.result c.self.inside.root.value c.descend.new.node.value c.self.invariant.root (able g c) q

pub invariant_of-self : goal.invariant_of-self
invariant_of-self g c = record { shape = c.self.invariant.shape; levels = c.self.invariant.levels; root = (done g c).lawful }

pub returns : goal.returns
returns g c = answers g.U.Update.means g.C.SlotStep.kind c.self.inside.shape c.args.slot c.args.numbers.now c.self.invariant.levels c.descend.result c.self.inside.root.value c.descend.new.node.value c.args.self.now c.self.view_is (able g c).0 (done g c)

pub descend-requires-clause-searchable : goal.descend-requires-clause-searchable
descend-requires-clause-searchable g c = searchable_root c.self.inside.shape c.self.invariant.levels c.self.inside.root.value c.self.invariant.root

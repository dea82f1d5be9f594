use Rattle.std.proofs.Common.{sym, subst, false}
use Rattle.std.specs.Option.{option_copied}
use Rattle.node.specs.Searchable.{IsSearchable}
use Rattle.node.specs.Site.{end_at, slots_at}
use Rattle.node.specs.Steps.{IsAdmitted, Precheck}
use Rattle.node.proofs.Below.{stays, unchanged, not_there}
use Rattle.node.proofs.Placing.{searchable}
use Rattle.node.proofs.node.below.step_below.Goals as goal
use Rattle.node.proofs.node.below.step_below.Goals.{After-descend}

pub descend-requires-clause-searchable : goal.descend-requires-clause-searchable
descend-requires-clause-searchable g c = searchable c.args.shape c.requires.lawful.0 c.requires.lawful.1 (option_copied c.args.hi) c.args.top.now.value c.requires.lawful.2

pub precheck-requires : goal.precheck-requires
precheck-requires g c = subst IsSearchable (sym c.deref.ensures) (searchable c.args.shape c.requires.lawful.0 c.requires.lawful.1 (option_copied c.args.hi) c.args.top.now.value c.requires.lawful.2)

able : (g : _) (c : After-descend g) → IsAdmitted g.U.Update.means g.C.SlotStep.kind c.args.shape false c.args.slot (end_at c.args.numbers.now (option_copied c.args.hi) c.args.top.now.value) (slots_at c.args.numbers.now c.args.top.now.value)
able g c = rw c.in_default.is at (subst (λ x. Precheck g.U.Update.means g.C.SlotStep.kind c.args.shape false c.args.slot (end_at c.args.numbers.now (option_copied c.args.hi) x) (slots_at c.args.numbers.now x) c.precheck.result) c.deref.ensures c.precheck.ensures)

pub returns-clause-stays : goal.returns-clause-stays
returns-clause-stays g c = stays g.U.Update.means c.args.shape (option_copied c.args.hi) g.C.SlotStep.kind c.args.slot c.args.numbers.now c.args.top.now.value c.descend.new.node.value c.descend.result (able g c) c.descend.ensures

pub returns-clause-unchanged : goal.returns-clause-unchanged
returns-clause-unchanged g c = unchanged g.U.Update.means c.args.shape (option_copied c.args.hi) g.C.SlotStep.kind c.args.slot c.args.numbers.now c.args.top.now.value c.descend.new.node.value c.descend.result c.descend.ensures

pub returns-clause-not_there : goal.returns-clause-not_there
returns-clause-not_there g c = not_there g.U.Update.means c.args.shape (option_copied c.args.hi) g.C.SlotStep.kind c.args.slot c.args.numbers.now c.args.top.now.value c.descend.new.node.value c.descend.result c.descend.ensures

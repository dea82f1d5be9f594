use Rattle.std.proofs.Common.{◌≡◌, [], ap, sym, ◌∙◌, subst, length, arith, refl}
use Rattle.std.specs.Prelude.{MatchOption}
use Rattle.flush.specs.Heaviest.{FlushesHeaviest, load_of, loads}
use Rattle.flush.proofs.Loads.{heaviest_of_all, nothing_pending, some_pending}
use Rattle.flush.proofs.Named.{heaviest_is_there}
use Rattle.flush.proofs.Walks.{height_low, walkable_tree}
use Rattle.node.specs.Places.{way}
use Rattle.node.specs.Weights.{longest}
use Rattle.flush.proofs.heaviest_slot.heaviest.Goals as goal
use Rattle.flush.proofs.heaviest_slot.heaviest.Goals.{After-first_heavy}

pub returns-then-most-eq0-clause-nothing : goal.returns-then-most-eq0-clause-nothing
returns-then-most-eq0-clause-nothing g c =
    let none : longest c.args.tree.now.root ≡ 0 = ap longest (sym c.root-root.ensures.root) ∙ omega (arith, c.weight-most.ensures.longest_is) in
    (λ _. nothing_pending c.args.tree.now.root none, λ _. refl)

pub overflow_cast-levels : goal.overflow_cast-levels
overflow_cast-levels g c =
    let low = height_low c.args.tree.now c.height-levels.result c.root-root.result.now c.root-root.ensures.lawful c.root-root.ensures.root c.height-levels.ensures.at_most c.height-levels.ensures.exact in
    omega (arith, low)

pub first_heavy-requires-clause-even : goal.first_heavy-requires-clause-even
first_heavy-requires-clause-even g c = walkable_tree c.args.tree.now c.height-levels.result c.root-root.result.now c.root-root.ensures.lawful c.root-root.ensures.root c.height-levels.ensures.at_most c.height-levels.ensures.exact

pub first_heavy-requires-clause-short : goal.first_heavy-requires-clause-short
first_heavy-requires-clause-short g c =
    let low = height_low c.args.tree.now c.height-levels.result c.root-root.result.now c.root-root.ensures.lawful c.root-root.ensures.root c.height-levels.ensures.at_most c.height-levels.ensures.exact in
    omega (arith, low, ap length c.root.ensures)

found : (g : _) (c : After-first_heavy g) → FlushesHeaviest (loads [] c.args.tree.now.root) c.first_heavy.result
found g c = heaviest_of_all c.weight-most.result.longest c.first_heavy.result (way c.root.result) c.root-root.result.now c.args.tree.now.root c.root.ensures c.root-root.ensures.root c.weight-most.ensures.longest_is (omega arith) c.first_heavy.ensures

pub returns-clause-nothing : goal.returns-clause-nothing
returns-clause-nothing g c =
    let heavy = found g c in
    (λ e. absurd (subst (λ o. MatchOption o ⊥ (λ _. Unit {0})) e tt), λ z. absurd (omega (arith, z, some_pending (load_of c.first_heavy.result heavy.0) c.args.tree.now.root heavy.1)))

pub returns-clause-first : goal.returns-clause-first
returns-clause-first g c = found g c

pub returns-clause-can_be_done : goal.returns-clause-can_be_done
returns-clause-can_be_done g c =
    let heavy = found g c in
    heaviest_is_there (load_of c.first_heavy.result heavy.0) c.args.tree.now.root heavy.1

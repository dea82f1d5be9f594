use Rattle.std.proofs.Common.{◌≡◌, ◌∷◌, rules, ap, sym, ◌∙◌, subst}
use Rattle.node.specs.Meaning.{slot_number}
use Rattle.node.specs.Searchable.{AreRising}
use Rattle.node.specs.See.{seen_slots}
use Rattle.node.proofs.SlotFacts.{number-by_search}
use Rattle.node.proofs.node.search.slot_of.Goals as goal

pub count_to-requires : goal.count_to-requires
count_to-requires g c =
    let e : c.args.slots.now ≡ c.in-Some.field-0-0.now ∷ c.in-Some.later.now = search rules in
    let rising = subst (λ xs. AreRising (seen_slots xs)) e c.requires.rising in
    rising.1

pub returns-clause-number : goal.returns-clause-number
returns-clause-number g c =
    let k = c.args.key.now in
    let first = c.in-Some.field-0-0.now in
    let later = c.in-Some.later.now in
    let e : c.args.slots.now ≡ first ∷ later = search rules in
    number-by_search k first later _ c.count_to.ensures.bound c.count_to.ensures.point ∙ ap (λ xs. slot_number (seen_slots xs) k) (sym e)

use Rattle.std.proofs.Common.{◌≡◌, ◌∷◌, ap, sym, ◌∙◌, Some}
use Rattle.std.specs.List.{slice_get}
use Rattle.cow_map.specs.CowMap.{joined}
use Rattle.cow_map.proofs.Entries.{first_parts}
use Rattle.cow_map.proofs.changes.move_first_among.Goals as goal

pub returns-clause-moved : goal.returns-clause-moved
returns-clause-moved g c =
    let from = joined c.args.from.now.items in
    let item = c.in-Some.item.now in
    let first : Some item ≡ slice_get from 0 = c.in-Some.ensures ∙ ap (λ t. slice_get t 0) c.of.ensures ∙ ap (λ t. slice_get (joined t) 0) c.as_slice.ensures.value in
    record {
      key = item.0;
      value = item.1;
      parts = first_parts from item first ∙ ap (λ t. item ∷ t) (sym c.drop_among.ensures.entries);
      is = c.in_ok-was.ensures.put;
      found = c.in_ok-was.ensures.was;
    }

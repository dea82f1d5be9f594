use Rattle.std.proofs.Common.{map, ap, ◌∙◌, sym, subst, length, [], rules}
use Rattle.std.specs.Option.{option_copied}
use Rattle.std.proofs.lemmas.List.{length-map}
use Rattle.node.specs.Searchable.{AllFit, see_list}
use Rattle.node.specs.See.{seen_slots}
use Rattle.node.proofs.Placing.{all_placed, all_placed-empty}
use Rattle.node.proofs.node.batch.batches_by_slot.Goals as goal

pub loop-msg-init : goal.loop-msg-init
loop-msg-init g c =
    let hi = option_copied c.args.hi in
    let xs = c.args.slots.now in
    let ss = seen_slots xs in
    let items = c.into_iter-msg-iterator.ensures.into_iter_gives.0 in
    let empties = c.in_ok-batches_by_slot.ensures in (
      tt,
      tt,
      ap (λ z. all_placed hi z ss (map see_list c.in_ok-batches_by_slot.batches_by_slot.items)) items ∙ ap (all_placed hi c.args.msgs.items ss) empties ∙ all_placed-empty hi c.args.msgs.items xs,
      subst (AllFit hi ss) (sym items) c.requires.fits,
      sym (length-map c.in_ok-batches_by_slot.batches_by_slot.items see_list) ∙ ap length empties ∙ length-map xs (λ s. []),
      search rules,
    )

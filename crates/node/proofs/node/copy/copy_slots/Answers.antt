use Rattle.std.proofs.Common.{◌≡◌, ◌++◌, ◌∷◌, [], ◌<◌, ap, sym, ◌∙◌, length, map, take, arith}
use Rattle.std.proofs.lemmas.List.{take_more, map-append}
use Rattle.node.specs.See.{see_slot}
use Rattle.node.proofs.node.copy.copy_slots.Goals as goal

pub loop-slot-preserved : goal.loop-slot-preserved
loop-slot-preserved g c =
    let xs = c.args.slots.now in
    let i = c.loop-slot.slot-index in
    let old = c.loop-slot.copy.items in
    let item = c.slot-item.result in
    let new = c.in_ok-copied.copied in
    let pushed : c.push.new.self.items ≡ old ++ new ∷ [] = c.in_ok-push.ensures.items in
    let inside : i < length xs = omega arith in
    ap (λ t. map see_slot t) pushed
    ∙ map-append see_slot old (new ∷ [])
    ∙ ap (λ t. t ++ see_slot new ∷ []) c.loop-slot.invariant
    ∙ ap (λ s. map see_slot (take i xs) ++ s ∷ []) (c.in_ok-copied.ensures ∙ ap (λ s. see_slot s) c.slot-item.is)
    ∙ sym (map-append see_slot (take i xs) _)
    ∙ ap (λ t. map see_slot t) (sym (take_more xs i item inside))

use Rattle.std.proofs.Common.{◌≡◌, ap, sym, ◌∙◌, arith, length}
use Rattle.node.specs.Report.{own, width}
use Rattle.node.specs.declared.report.Quantity.TheVariants.{Slots, Pending}
use Rattle.node.specs.Lawful.{slot_count, pending}
use Rattle.node.specs.Pure.{inner}
use Rattle.node.specs.See.{see, seen_slots}
use Rattle.node.proofs.Placing.{slot_count-slots}
use Rattle.node.proofs.node.count.own.Goals as goal

pub returns-in-Slots-Inner-clause-exact : goal.returns-in-Slots-Inner-clause-exact
returns-in-Slots-Inner-clause-exact g c =
    let items = c.in-Slots-Inner.slots.items in
    let ss = seen_slots items in
    let was : inner ss ≡ c.args.node.now = ap see (sym c.in-Slots-Inner.is-1) ∙ c.node.view_is in
    let e : own Slots c.args.node.now ≡ slot_count ss = ap (own Slots) (sym was) in
    let f : own c.args.quantity c.args.node.now ≡ own Slots c.args.node.now = ap (λ q. own q c.args.node.now) c.in-Slots-Inner.is-0 in
    omega (arith, e, f, slot_count-slots items, c.in-Slots-Inner.slots.ok.0, c.len.ensures)

pub returns-in-Pending-Inner-clause-bound : goal.returns-in-Pending-Inner-clause-bound
returns-in-Pending-Inner-clause-bound g c =
    let items = c.in-Pending-Inner.slots.items in
    let ss = seen_slots items in
    let was : inner ss ≡ c.args.node.now = ap see (sym c.in-Pending-Inner.is-1) ∙ c.node.view_is in
    let e : own Pending c.args.node.now ≡ pending ss = ap (own Pending) (sym was) in
    let f : own c.args.quantity c.args.node.now ≡ own Pending c.args.node.now = ap (λ q. own q c.args.node.now) c.in-Pending-Inner.is-0 in
    let w : width c.args.node.now ≡ slot_count ss = ap width (sym was) in
    let x : c.pending_len.result ≡ pending ss = c.pending_len.ensures.exact ∙ ap (λ z. pending (seen_slots z)) c.as_slice.ensures.value in
    let y : length c.as_slice.result.now ≡ length items = ap length c.as_slice.ensures.value in
    omega (arith, e, f, w, x, y, slot_count-slots items, c.pending_len.ensures.bound)

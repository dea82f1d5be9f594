use Rattle.std.proofs.Common.{◌≡◌, ◌∙◌, ◌<◌, ap, arith, refl, sym, length}
use Rattle.std.specs.Vec.{with_items}
use Rattle.std.proofs.lemmas.List.{with_items_is}
use Rattle.delta.proofs.WalkFacts.{is_none, refilled}
use Rattle.delta.proofs.line_cursor.LineCursor.refill.Goals as goal

pub invariant_of-self-2 : goal.invariant_of-self-2
invariant_of-self-2 c =
    let v = c.args.self.now.piece in
    let size : length c.next.new.out ≡ v.len = c.next.auto.out ∙ ap length c.as_mut_slice.ensures.value ∙ sym v.ok.0 in
    let long : length (with_items v c.next.new.out).items ≡ length c.next.new.out = ap length (with_items_is v c.next.new.out size) in
    let some : 0 < length v.items = c.args.self.now.some in
    let filled = c.min-self.ensures in
    let room = c.len.ensures in
    let whole = v.ok.0 in
    record { fits = omega arith; within = omega (arith, long, size, filled, room); some = omega (arith, long, size, some, whole); free = c.args.self.now.free }

pub returns : goal.returns
returns c =
    let v = c.args.self.now.piece in
    let size : length c.next.new.out ≡ v.len = c.next.auto.out ∙ ap length c.as_mut_slice.ensures.value ∙ sym v.ok.0 in
    let had : length c.as_mut_slice.result.now ≡ length v.items = ap length c.as_mut_slice.ensures.value in
    let some : 0 < length v.items = c.args.self.now.some in
    refilled c.args.self.now _ c.in_ok-count.count c.min-self.result c.as_mut_slice.result.now c.next.new.out _ c.in_ok-count.ensures.piece c.in_ok-count.ensures.on c.next.auto.out
    (with_items_is v c.next.new.out size) refl refl (λ fits. omega (arith, fits, size, c.min-self.ensures, c.len.ensures)) refl (omega (arith, had, some)) (is_none c.in_ok-count.count)

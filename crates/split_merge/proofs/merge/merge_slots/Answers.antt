use Rattle.std.proofs.Common.{arith, ap, sym, ◌∙◌, ◌≤◌, ◌<◌, length, suc, add-one}
use Rattle.node.specs.See.{seen_slots}
use Rattle.message.proofs.Results.{done}
use Rattle.split_merge.specs.Merged.{are_alike}
use Rattle.node.proofs.Roots.{when_err}
use Rattle.split_merge.proofs.Merging.{without_next, unlike, alike_left, merged_left, put_back}
use Rattle.split_merge.proofs.merge.merge_slots.Goals as goal

pub returns-then-not-has_next : goal.returns-then-not-has_next
returns-then-not-has_next g c = λ S root.
    let few : length c.args.slots.now.items ≤ suc c.args.i = omega (arith, c.has_next.ensures.no c.if-not-has_next.true, ap length c.as_slice.ensures.value) in
    without_next g.U.Update.means S root c.args.i c.args.slots.now.items few

pub returns-then-not-are_of_one_kind : goal.returns-then-not-are_of_one_kind
returns-then-not-are_of_one_kind g c = λ S root.
    let xs = c.args.slots.now.items in
    let a = c.index.result.now in
    let b = c.index-2.result.now in
    let h : suc c.args.i < length xs = omega (arith, c.has_next.ensures.yes c.if-not-has_next.false, ap length c.as_slice.ensures.value) in
    let kinds = sym (λ j. are_alike (c.deref.ensures j) (c.deref-2.ensures j)) ∙ sym c.are_of_one_kind.ensures ∙ c.if-not-are_of_one_kind.true in
    unlike g.U.Update.means S root c.args.i xs a b h c.index.ensures (rw add-one at c.index-2.ensures) kinds

pub merge_into_left-requires : goal.merge_into_left-requires
merge_into_left-requires g c =
    let xs = c.args.slots.now.items in
    let a = c.index.result.now in
    let b = c.index-2.result.now in
    let h : suc c.args.i < length xs = omega (arith, c.has_next.ensures.yes c.if-not-has_next.false, ap length c.as_slice.ensures.value) in
    let kinds = sym (λ j. are_alike (c.deref.ensures j) (c.deref-2.ensures j)) ∙ sym c.are_of_one_kind.ensures ∙ c.if-not-are_of_one_kind.false in
    alike_left g.U.Update.means c.args.i xs c.remove-right.new.self.items c.index_mut.result.now c.remove-right.result h (rw add-one at c.remove-right.ensures.items) c.index_mut.ensures.value (rw add-one at c.remove-right.ensures.value) a b c.index.ensures (rw add-one at c.index-2.ensures) kinds

pub returns-then-is_ok : goal.returns-then-is_ok
returns-then-is_ok g c = λ S root.
    let xs = c.args.slots.now.items in
    let a = c.index.result.now in
    let b = c.index-2.result.now in
    let h : suc c.args.i < length xs = omega (arith, c.has_next.ensures.yes c.if-not-has_next.false, ap length c.as_slice.ensures.value) in
    let kinds = sym (λ j. are_alike (c.deref.ensures j) (c.deref-2.ensures j)) ∙ sym c.are_of_one_kind.ensures ∙ c.if-not-are_of_one_kind.false in
    let joint = done c.merge_into_left.result (sym c.is_ok.ensures.value ∙ c.if-is_ok.true) c.merge_into_left.ensures.ok in
    merged_left g.U.Update.means c.args.i xs c.remove-right.new.self.items c.index_mut.result.now c.remove-right.result h (rw add-one at c.remove-right.ensures.items) c.index_mut.ensures.value (rw add-one at c.remove-right.ensures.value) S root a b c.merge_into_left.new.left c.index.ensures (rw add-one at c.index-2.ensures) kinds joint

pub returns : goal.returns
returns g c = λ S root.
    let xs = c.args.slots.now.items in
    let h : suc c.args.i < length xs = omega (arith, c.has_next.ensures.yes c.if-not-has_next.false, ap length c.as_slice.ensures.value) in
    let same = when_err c.merge_into_left.result (sym c.is_ok.ensures.value ∙ c.if-is_ok.false) c.merge_into_left.ensures.err in
    let back = ap (λ z. seen_slots z) (rw add-one at c.in-Ok.ensures.items) ∙ put_back g.U.Update.means c.args.i xs c.remove-right.new.self.items c.index_mut.result.now c.remove-right.result h (rw add-one at c.remove-right.ensures.items) c.index_mut.ensures.value (rw add-one at c.remove-right.ensures.value) c.merge_into_left.new.left c.merge_into_left.new.right same.0 same.1 in
    (back, back)

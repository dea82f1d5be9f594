use Rattle.std.proofs.Common.{◌≡◌, ◌∙◌, None, Some, ap, arith, drop, length, refl, sym}
use Rattle.std.specs.BTreeMap.{insert_entry}
use Rattle.pathkey.specs.Order.{by_bytes}
use Rattle.point_ops.specs.Changes.{run_effect}
use Rattle.point_ops.proofs.Laying.{next_is, put_same, shared_at}
use Rattle.point_ops.proofs.one_key.share_updates.Goals as goal

pub returns-in-Ok-None-clause-shared : goal.returns-in-Ok-None-clause-shared
returns-in-Ok-None-clause-shared g c =
    let walk = c.args.walk.now in
    let j = rw c.in-Ok-None.field-0-is at c.in-Ok-None.ensures.joined in
    let is = next_is j.key j.value c.args.newer.now walk (drop 1 walk) c.requires j.parts in
    let len : c.len.result ≡ length j.value = c.len.ensures.len ∙ ap (λ t. length t) is in
    shared_at g.U.Update.means j.key j.value j.value None 0 c.len.result walk c.args.rows.now (drop 1 walk) c.edit_or_share_first_of.new.self j.parts c.assert_invariant.ensures j.is.1 (sym j.is.0) refl len (omega (arith, len, c.len.ensures.some)) (omega (arith, len)) (λ o. refl)

pub returns-in-Ok-Some-Some-clause-shared : goal.returns-in-Ok-Some-Some-clause-shared
returns-in-Ok-Some-Some-clause-shared g c =
    let means = g.U.Update.means in
    let walk = c.args.walk.now in
    let n = c.in-Ok-Some-Some.counts in
    let j = rw (c.in-Ok-Some-Some.field-0-is ∙ ap (λ t. Some t) c.in-Ok-Some-Some.field-0-0-is) at c.in-Ok-Some-Some.ensures.joined in
    let is = next_is j.key j.value c.args.newer.now walk (drop 1 walk) c.requires j.parts in
    let h = j.is in
    let one : length j.value ≡ 1 = sym (ap (λ t. length t) is) ∙ h.done.one in
    shared_at means j.key j.value h.new (Some h.old) n.0 n.1 walk c.args.rows.now (drop 1 walk) c.edit_or_share_first_of.new.self j.parts c.assert_invariant.ensures h.is (sym h.there) h.done.counted.0 h.done.counted.1 h.done.some (omega (arith, one, h.done.counted.0, h.done.counted.1, h.done.bound)) (λ o. h.done.meaning o ∙ ap (λ t. run_effect means t (run_effect means h.old o)) is)

pub returns-in-Ok-Some-None-clause-none : goal.returns-in-Ok-Some-None-clause-none
returns-in-Ok-Some-None-clause-none g c =
    let es = c.args.rows.now in
    let j = rw (c.in-Ok-Some-None.field-0-is ∙ ap (λ t. Some t) c.in-Ok-Some-None.field-0-0-is) at c.in-Ok-Some-None.ensures.joined in
    let h = j.is in
    h.is ∙ ap (λ t. insert_entry by_bytes es j.key t) h.done ∙ put_same j.key h.old es c.assert_invariant.ensures h.there

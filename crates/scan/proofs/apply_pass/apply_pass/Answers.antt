use Rattle.std.proofs.Common.{◌≡◌, ◌∙◌, ◌<◌, arith, ap, refl, sym, subst, true, false, Some, None}
use Rattle.std.specs.Option.{option_copied, is_some}
use Rattle.pathkey.specs.Keys.{is_below, next_key}
use Rattle.pathkey.proofs.KeyOrder.{reaches-refl}
use Rattle.message.specs.PointKeys.{IsNextPoint}
use Rattle.message.specs.Ranges.{reaches}
use Rattle.message.specs.Stretches.{all_ends}
use Rattle.message.proofs.KeyOrder.{both}
use Rattle.pending.proofs.Meeting.{none_ahead}
use Rattle.scan.proofs.Ahead.{ahead}
use Rattle.scan.proofs.Merging.{merging_over, merging_start, pass_full, pass_met, point_falls}
use Rattle.scan.proofs.apply_pass.apply_pass.Goals as goal

pub points-init : goal.points-init
points-init g c = (c.walk_points-ahead.ensures.list, c.args.from.now, c.walk_points-ahead.ensures.stands, λ h. sym c.in_ok-at.ensures, λ child s gaps. merging_start g.U.Update.means c.args.list.now.0 child c.args.from.now (option_copied c.args.end) c.args.limit c.args.below.items c.args.pairs.now.items c.args.from.now c.from_vec-rest.result.items refl c.from_vec-rest.ensures.items s)

pub points-preserved-then-goes_along : goal.points-preserved-then-goes_along
points-preserved-then-goes_along g c =
    let ms = c.args.list.now.0 in
    let end = option_copied c.args.end in
    let here = c.points.invariant.1 in
    let q = c.in-Some.met.0 in
    let same : c.next_from.new.ahead.0 ≡ ms = c.next_from.ensures.same ∙ c.points.invariant.0 in
    let next : IsNextPoint ms here end (Some q) = subst (λ t. IsNextPoint t here end (Some q)) c.points.invariant.0 (c.in-Some.ensures.point here c.points.invariant.2 c.points.invariant.3) in (
      same,
      next_key q,
      c.in-Some.ensures.stands here c.points.invariant.2,
      λ h. absurd (let no : false ≡ true = sym h ∙ sym c.goes_along.ensures ∙ c.if-goes_along.true in cc),
      λ child s gaps. pass_met g.U.Update.means ms child c.args.from.now end c.args.limit c.args.below.items c.args.pairs.now.items here c.points.pairs.items c.points.rest.items (c.points.invariant.4 child s gaps) gaps q c.key.result.now next c.key.ensures c.push_before.new.pairs.items c.push_before.new.rest.items c.in_ok-push_before.ensures.moved c.next_from.new.ahead.0 same c.push_at.new.pairs.items c.push_at.new.rest.items (omega (arith, c.len.ensures, c.push_before.new.pairs.ok.0, c.if-len-limit.false)) c.in_ok-push_at.ensures.pushed c.in_ok-push_at.ensures.left,
    )

pub points-preserved : goal.points-preserved
points-preserved g c =
    let ms = c.args.list.now.0 in
    let end = option_copied c.args.end in
    let here = c.points.invariant.1 in
    let q = c.in-Some.met.0 in
    let same : c.next_from.new.ahead.0 ≡ ms = c.next_from.ensures.same ∙ c.points.invariant.0 in
    let next : IsNextPoint ms here end (Some q) = subst (λ t. IsNextPoint t here end (Some q)) c.points.invariant.0 (c.in-Some.ensures.point here c.points.invariant.2 c.points.invariant.3) in (
      same,
      next_key q,
      c.in-Some.ensures.stands here c.points.invariant.2,
      λ h. sym (c.in_ok-at-2.ensures ∙ ap next_key c.key-in-Some.ensures),
      λ child s gaps. pass_met g.U.Update.means ms child c.args.from.now end c.args.limit c.args.below.items c.args.pairs.now.items here c.points.pairs.items c.points.rest.items (c.points.invariant.4 child s gaps) gaps q c.key.result.now next c.key.ensures c.push_before.new.pairs.items c.push_before.new.rest.items c.in_ok-push_before.ensures.moved c.next_from.new.ahead.0 same c.push_at.new.pairs.items c.push_at.new.rest.items (omega (arith, c.len.ensures, c.push_before.new.pairs.ok.0, c.if-len-limit.false)) c.in_ok-push_at.ensures.pushed c.in_ok-push_at.ensures.left,
    )

pub points-smaller-then-goes_along : goal.points-smaller-then-goes_along
points-smaller-then-goes_along g c =
    let along : is_some c.points.ahead.1 ≡ true = sym c.next_from.ensures.along ∙ sym c.goes_along.ensures ∙ c.if-goes_along.true in
    let fewer = c.in-Some.ensures.fewer along in
    omega (arith, fewer)

pub points-smaller : goal.points-smaller
points-smaller g c =
    let ms = c.args.list.now.0 in
    let end = option_copied c.args.end in
    let here = c.points.invariant.1 in
    let q = c.in-Some.met.0 in
    let next : IsNextPoint ms here end (Some q) = subst (λ t. IsNextPoint t here end (Some q)) c.points.invariant.0 (c.in-Some.ensures.point here c.points.invariant.2 c.points.invariant.3) in
    let searches : is_some c.next_from.new.ahead.1 ≡ false = sym c.goes_along.ensures ∙ c.if-goes_along.false in
    let at_is : here ≡ c.points.at = c.points.invariant.3 (sym c.next_from.ensures.along ∙ searches) in
    let behind : c.in_ok-at-2.at ≡ next_key q = c.in_ok-at-2.ensures ∙ ap next_key c.key-in-Some.ensures in
    let falls : ahead c.in_ok-at-2.at (all_ends ms) < ahead c.points.at (all_ends ms) = subst (λ k. ahead c.in_ok-at-2.at (all_ends ms) < ahead k (all_ends ms)) at_is (point_falls ms here q c.in_ok-at-2.at (both (reaches here q) (is_below q end) next.0).0 next.1 (subst (λ k. reaches (next_key q) k ≡ true) (sym behind) (reaches-refl (next_key q)))) in
    let none = none_ahead c.next_from.new.ahead.1 searches in
    omega (arith, falls, none)

pub returns-then-len-limit : goal.returns-then-len-limit
returns-then-len-limit g c = λ child s gaps.
    let ms = c.args.list.now.0 in
    let end = option_copied c.args.end in
    let here = c.points.invariant.1 in
    let q = c.in-Some.met.0 in
    let next : IsNextPoint ms here end (Some q) = subst (λ t. IsNextPoint t here end (Some q)) c.points.invariant.0 (c.in-Some.ensures.point here c.points.invariant.2 c.points.invariant.3) in
    pass_full g.U.Update.means ms child c.args.from.now end c.args.limit c.args.below.items c.args.pairs.now.items here c.points.pairs.items c.points.rest.items (c.points.invariant.4 child s gaps) gaps q c.key.result.now next c.key.ensures c.push_before.new.pairs.items c.push_before.new.rest.items c.in_ok-push_before.ensures.moved (omega (arith, c.len.ensures, c.push_before.new.pairs.ok.0, c.if-len-limit.true))

pub returns : goal.returns
returns g c = λ child s gaps.
    let ms = c.args.list.now.0 in
    let end = option_copied c.args.end in
    let here = c.points.invariant.1 in
    let x = c.points.invariant.4 child s gaps in
    let none : IsNextPoint ms here end None = subst (λ t. IsNextPoint t here end None) c.points.invariant.0 (c.in_default.ensures.point here c.points.invariant.2 c.points.invariant.3) in
    let m = c.in_ok-push_before-2.ensures.moved child here end x.all (λ k b. b) in
    merging_over g.U.Update.means ms child c.args.from.now end c.args.limit c.args.below.items c.args.pairs.now.items here c.points.pairs.items c.points.rest.items x gaps none c.push_before-2.new.pairs.items c.push_before-2.new.rest.items m c.in_ok-push_before-2.ensures.count

use Rattle.std.proofs.Common.{◌≡◌, ◌∙◌, true, ap, arith, drop, length, sym}
use Rattle.point_ops.specs.Changes.{is_whole}
use Rattle.point_ops.specs.PointOps.{found_effect}
use Rattle.point_ops.proofs.Laying.{next_is, shared_at}
use Rattle.point_ops.proofs.Updates.{whole_free}
use Rattle.point_ops.proofs.one_key.share_whole.Goals as goal

pub returns-clause-shared : goal.returns-clause-shared
returns-clause-shared g c =
    let means = g.U.Update.means in
    let walk = c.args.walk.now in
    let m = c.in-Ok.ensures.shared in
    let is = next_is m.key m.value c.args.newer.now walk (drop 1 walk) c.requires.next m.parts in
    let whole : is_whole m.value ≡ true = ap (λ t. is_whole t) (sym is) ∙ c.requires.whole in
    let len : c.len.result ≡ length m.value = c.len.ensures.len ∙ ap (λ t. length t) is in
    shared_at means m.key m.value m.value c.in-Ok.was c.len_of.result c.len.result walk c.args.rows.now (drop 1 walk) c.share_first_of.new.self m.parts c.assert_invariant.ensures m.is m.found c.len_of.ensures len (omega (arith, len, c.len.ensures.some)) (omega (arith, len)) (λ o. whole_free means m.value o (found_effect means c.in-Ok.was o) whole)

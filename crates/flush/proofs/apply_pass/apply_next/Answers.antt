-- The operations of a key are applied to the entries that are done, and those that are left stand behind them.
use Rattle.std.proofs.Common.{◌≡◌, ◌+◌, ◌-◌, ◌++◌, [], None, length, sym, subst, arith, drop, take}
use Rattle.node.specs.Lawful.{first_key, Rises}
use Rattle.point_ops.specs.PointOps.{point_msgs}
use Rattle.flush.specs.Merge.{IsFilled}
use Rattle.flush.proofs.Keyed.{first_at, first_rises}
use Rattle.flush.proofs.Merging.{ahead_next, as_many, filled_before, rises_front}
use Rattle.flush.proofs.apply_pass.apply_next.Goals as goal

pub overflow_sub-room : goal.overflow_sub-room
overflow_sub-room g c =
    let all = as_many c.advance_to-place.new.done.items c.advance_to-place.new.left.items c.args.done.now.items c.args.left.now.items c.advance_to-place.ensures.all in
    omega (arith, all, c.requires.fits, c.len.ensures)

pub apply_key-requires-clause-rising : goal.apply_key-requires-clause-rising
apply_key-requires-clause-rising g c =
    let xs = c.advance_to-place.new.done.items in
    let ys = c.advance_to-place.new.left.items in
    rises_front xs ys (subst (λ zs. Rises [] None zs) (sym c.advance_to-place.ensures.all) c.requires.rising)

pub returns-clause-filled : goal.returns-clause-filled
returns-clause-filled g c =
    let means = g.U.Update.means in
    let ms = point_msgs c.args.walk.now in
    let n = c.apply_key.result in
    let k = c.args.key.now in
    let xs = c.advance_to-place.new.done.items in
    let ys = c.advance_to-place.new.left.items in
    let zs = c.apply_key.new.entries.items in
    let all = as_many xs ys c.args.done.now.items c.args.left.now.items c.advance_to-place.ensures.all in
    let r = subst (λ es. Rises [] None es) (sym c.advance_to-place.ensures.all) c.requires.rising in
    let at = first_at k c.args.walk.now n c.requires.key (omega (arith, c.requires.few, c.apply_key.ensures.within)) in
    let room : c.args.room - c.len.result + length ys ≡ c.args.room = omega (arith, all, c.requires.fits, c.len.ensures) in
    let core = filled_before means c.args.room (c.args.room - c.len.result) n ms k xs zs ys room at c.advance_to-place.ensures.behind r c.apply_key.ensures.filled in
    subst (λ es. IsFilled means c.args.room ms n es (zs ++ ys)) c.advance_to-place.ensures.all core

pub returns-clause-ahead : goal.returns-clause-ahead
returns-clause-ahead g c =
    let means = g.U.Update.means in
    let ms = point_msgs c.args.walk.now in
    let n = c.apply_key.result in
    let k = c.args.key.now in
    let xs = c.advance_to-place.new.done.items in
    let ys = c.advance_to-place.new.left.items in
    let zs = c.apply_key.new.entries.items in
    let r = subst (λ es. Rises [] None es) (sym c.advance_to-place.ensures.all) c.requires.rising in
    let at = first_at k c.args.walk.now n c.requires.key (omega (arith, c.requires.few, c.apply_key.ensures.within)) in
    ahead_next means (take n ms) k at xs zs ys c.advance_to-place.ensures.behind c.apply_key.ensures.filled.applied r (first_key None (drop 1 c.args.walk.now)) (first_rises k c.args.walk.now c.requires.key c.assert_rising.ensures) c.advance_to-place.ensures.ahead (rises_front xs ys r)

pub returns-clause-fits : goal.returns-clause-fits
returns-clause-fits g c =
    let all = as_many c.advance_to-place.new.done.items c.advance_to-place.new.left.items c.args.done.now.items c.args.left.now.items c.advance_to-place.ensures.all in
    omega (arith, c.apply_key.ensures.filled.few (omega (arith, all, c.requires.fits, c.len.ensures)), all, c.requires.fits, c.len.ensures)

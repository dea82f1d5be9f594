use Rattle.std.proofs.Common.{◌≡◌, arith, length}
use Rattle.point_ops.specs.Changes.{Edit}
use Rattle.point_ops.proofs.Updates.{appended_run, only_is}
use Rattle.point_ops.proofs.edits_in_place.AppendOpsEditKeyOps.edit.Goals as goal

pub returns : goal.returns
returns g c =
    let newer = c.args.self.newer.now in
    let u = c.in-Edit.update.now in
    let one : length newer ≡ 1 = omega (arith, c.len.ensures.len) in
    appended_run g.U.Update.means u newer c.args.run.now c.append.new.self c.append.result (only_is (Edit u) newer one c.in-Edit.ensures) c.append.ensures.appended c.append.ensures.none

use Rattle.std.proofs.Common.{subst, sym}
use Rattle.volume.specs.Volumes.{IsVolume}
use Rattle.volume.proofs.Transacting.{is_put_back}
use Rattle.edits.proofs.apply.apply_edits.Goals as goal

pub put_back-requires : goal.put_back-requires
put_back-requires c =
    let stays = c.apply_lines.ensures.stays in
    subst IsVolume (sym (is_put_back c.args.volume.now c.apply_lines.new.volume c.in-Ok.before c.in-Ok.ensures stays.snapshots stays.marks)) c.assert_invariant.ensures

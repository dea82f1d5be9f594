use Rattle.volume.proofs.Differing.{tracks_none}
use Rattle.volume.proofs.Forking.{fork_lasts, is_fork}
use Rattle.volume.proofs.volume.Volume.from_root.Goals as goal

pub invariant_of-result : goal.invariant_of-result
invariant_of-result c = (
  fork_lasts c.args.root c.new-live.result c.new-snapshots.result c.new-live.ensures.indexes c.new-snapshots.ensures c.requires c.assert_invariant.ensures,
  tracks_none c.new.result c.new-snapshots.result c.new-live.result.indexes c.new.ensures,
)

pub returns : goal.returns
returns c = is_fork c.args.root c.new-live.result c.new-snapshots.result c.new-live.ensures.indexes c.new-live.ensures.marks c.new-snapshots.ensures

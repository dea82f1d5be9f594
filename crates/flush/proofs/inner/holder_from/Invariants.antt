use Rattle.std.proofs.Common.{◌≡◌, ◌-◌, true, length}
use Rattle.node.specs.Meaning.{begins_by}
use Rattle.node.specs.See.{seen_slots}
use Rattle.node.specs.Site.{slots_from}
use Rattle.flush.proofs.inner.holder_from.Given as goal

abbrev pub invariant-loop-at : goal.invariant-loop-at
invariant-loop-at g l = begins_by (slots_from l.at (seen_slots l.below)) l.key ≡ true

abbrev pub decreases-loop-at : goal.decreases-loop-at
decreases-loop-at g l = length l.below - l.at

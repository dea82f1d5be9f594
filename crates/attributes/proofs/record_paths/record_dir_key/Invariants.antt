use Rattle.std.proofs.Common.{◌≡◌, ◌++◌, length, map}
use Rattle.pathkey.specs.Enc.{enc}
use Rattle.attributes.specs.Places.{escaped, record_dir}
use Rattle.attributes.proofs.record_paths.record_dir_key.Given as goal

abbrev pub invariant-loop-name : goal.invariant-loop-name
invariant-loop-name l = l.key.items ++ enc (map escaped l.rest) ≡ enc (record_dir l.path)

abbrev pub decreases-loop-name : goal.decreases-loop-name
decreases-loop-name l = length l.rest

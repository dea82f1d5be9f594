use Rattle.std.proofs.Common.{◌≡◌, ◌++◌, length}
use Rattle.pathkey.specs.Texts.{slashed}
use Rattle.attributes.proofs.record_paths.text_of.Given as goal

abbrev pub invariant-loop-name : goal.invariant-loop-name
invariant-loop-name l = l.text.items ++ slashed l.rest ≡ slashed l.path

abbrev pub decreases-loop-name : goal.decreases-loop-name
decreases-loop-name l = length l.rest

use Rattle.std.proofs.Common.{◌≡◌, All, map, take}
use Rattle.pathkey.specs.Keys.{enc}
use Rattle.pathkey.specs.Names.{IsPath}
use Rattle.delta.proofs.rising_keys.paths_of.Given as goal

abbrev pub invariant-loop-key : goal.invariant-loop-key
invariant-loop-key l = All IsPath l.paths.items × (map enc l.paths.items ≡ take l.key-index l.keys)

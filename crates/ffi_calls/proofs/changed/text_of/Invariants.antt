use Rattle.std.proofs.Common.{◌≡◌, take}
use Rattle.ffi_calls.specs.Differences.{paths_bytes}
use Rattle.ffi_calls.proofs.changed.text_of.Given as goal

abbrev pub invariant-loop-path : goal.invariant-loop-path
invariant-loop-path l = l.text.items ≡ paths_bytes (take l.path-index l.paths)

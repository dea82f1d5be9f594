-- What the exports of holes report.
use Rattle.std.specs.Prelude.{ℕ, List, Result}
use Rattle.pathkey.specs.declared.errno.Errno.{Errno}
use Rattle.pathkey.specs.Texts.{parsed}
use Rattle.volume.specs.Extents.{RunsIn}
use Rattle.volume.specs.declared.fs_root.FsRoot.{FsRoot}
use Rattle.ffi_calls.specs.Reads.{OnPath}
use Rattle.doorvervain.specs.Numbers.{reported_by}

-- these numbers report the next extent of the file at the path in a text, from an offset on
abbrev pub RunsAt : List ℕ → ℕ → FsRoot → Result (ℕ × ℕ) Errno → Type 0
RunsAt text offset i outcome = OnPath (parsed text) outcome (λ p. RunsIn i.indexes p offset outcome)

-- the extent for a number and two ends
abbrev pub run_reported : ℕ → ℕ → ℕ → Result (ℕ × ℕ) Errno
run_reported n begin end = reported_by n (begin, end)

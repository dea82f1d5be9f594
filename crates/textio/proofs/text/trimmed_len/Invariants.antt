use Rattle.std.proofs.Common.{◌≡◌, ◌≤◌, length, take}
use Rattle.reference.specs.Image.{trimmed}
use Rattle.textio.proofs.text.trimmed_len.Given as goal

-- all bytes after this one are zero
abbrev pub invariant-loop-kept : goal.invariant-loop-kept
invariant-loop-kept l = (l.kept ≤ length l.bytes) × (trimmed (take l.kept l.bytes) ≡ trimmed l.bytes)

abbrev pub decreases-loop-kept : goal.decreases-loop-kept
decreases-loop-kept l = l.kept

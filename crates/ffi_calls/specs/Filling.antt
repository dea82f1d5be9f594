-- Blocks of a file that were found, to be copied into a buffer.
use Rattle.std.specs.Prelude.{◌≡◌, ◌+◌, ◌*◌, ◌<◌, ℕ, List, length, slice_index, slice_index_or, Option, None}
use Rattle.reference.specs.Indexes.{byte_of}

-- blocks from the one with this number on hold the bytes of the file b
abbrev pub HoldFrom : ℕ → List (Option (List ℕ)) → List ℕ → Type 0
HoldFrom first vs b = (n j : ℕ) → n < length vs → j < 4096 → byte_of (slice_index_or vs n None) j ≡ slice_index b (4096 * (first + n) + j)

-- The number of blocks that a read needs.
use Rattle.std.specs.Prelude.{ℕ, ◌+◌, ◌-◌, ◌/◌, if◌then◌else◌, nat_lt}

-- how many blocks of 4,096 bytes hold bytes from `off` up to and without `end`
abbrev pub block_count : ℕ → ℕ → ℕ
block_count off end = if nat_lt off end then ((end - 1) / 4096 + 1) - off / 4096 else 0

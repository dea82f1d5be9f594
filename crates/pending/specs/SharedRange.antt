-- The range of a range-delete that was cut.
use Rattle.std.specs.Prelude.{ℕ, List, Option}
use Rattle.std.specs.Option.{option_or, unwrap_or}
use Rattle.pathkey.specs.declared.range.KeyRange.{KeyRange}

-- the part of a range from the key low on and before the key high, if it was cut at them
abbrev pub part_range : KeyRange → Option (List ℕ) → Option (List ℕ) → KeyRange
part_range whole low high = record { lo = unwrap_or low whole.lo; hi = option_or high whole.hi }

-- Names of snapshots: 1 to 64 bytes of ASCII letters, digits, `.`, `_` and `-`.
use Rattle.std.specs.Prelude.{ℕ, List, [], ◌∷◌, length, Bool, not, ◌&&◌, ◌||◌, ◌==◌, nat_le, Result}
use Rattle.std.specs.List.{list_all}
use Rattle.pathkey.specs.Outcomes.{when, unless}
use Rattle.pathkey.specs.declared.errno.Errno.{Errno}
use Rattle.pathkey.specs.declared.errno.Errno.TheVariants.{EINVAL}

-- from low to high, both included
abbrev pub is_between : ℕ → ℕ → ℕ → Bool
is_between low high b = nat_le low b && nat_le b high

-- an ASCII letter, a digit, `.`, `_` or `-`
abbrev pub is_snap_byte : ℕ → Bool
is_snap_byte b =
    is_between 97 122 b || is_between 65 90 b || is_between 48 57 b || (b == 46) || (b == 95) || (b == 45)

-- 1 to 64 bytes, each of them one that a snapshot's name may have
abbrev pub is_snap_name : List ℕ → Bool
is_snap_name text = is_between 1 64 (length text) && list_all is_snap_byte text

-- the result of parsing a text as a snapshot name
abbrev pub snap_parsed : List ℕ → Result (List ℕ) Errno
snap_parsed text = unless (when (not (is_snap_name text)) EINVAL ∷ []) text

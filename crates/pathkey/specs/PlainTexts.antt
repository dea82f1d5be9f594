-- Texts of paths that are parsed in one pass.
use Rattle.std.specs.Prelude.{ℕ, List, [], ◌∷◌, ◌++◌, length, Bool, false, not, ◌||◌, ◌&&◌, ◌==◌, nat_lt}
use Rattle.std.specs.List.{list_all}
use Rattle.pathkey.specs.Names.{Name}
use Rattle.pathkey.specs.Texts.{pieces, is_forbidden}

-- a byte of a name, except the percent sign, so that the byte needs no decoding
abbrev pub is_plain_byte : ℕ → Bool
is_plain_byte b = not (is_forbidden b || (b == 37))

-- one or more plain bytes, of which the first is not a dot
abbrev pub is_plain_name : Name → Bool
is_plain_name [] = false
is_plain_name (b ∷ n) = not (b == 46) && list_all is_plain_byte (b ∷ n)

-- plain names with a slash between each two
abbrev pub are_plain : List ℕ → Bool
are_plain names = list_all is_plain_name (pieces 47 (names ++ 47 ∷ []))

-- a slash and plain names, at most 255 bytes in all
abbrev pub is_plain : List ℕ → Bool
is_plain [] = false
is_plain (b ∷ names) = (b == 47) && not (nat_lt 255 (length (b ∷ names))) && are_plain names

-- whether the byte may come next in plain names: no slash and no dot at the start of a name
abbrev pub is_plain_after : Bool → ℕ → Bool
is_plain_after begins b = not ((b == 0) || (b == 37)) && not (begins && ((b == 46) || (b == 47)))

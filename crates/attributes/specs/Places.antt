-- The path of an entry's record.
use Rattle.std.specs.Prelude.{◌≡◌, ◌≢◌, ◌⊎◌, ◌<◌, ⊤, [], ◌∷◌, ◌++◌, length, map, codes, bytes_eq, Bool, false, not, ◌&&◌, ◌==◌, nat_le, if◌then◌else◌, Result, Err}
use Rattle.std.specs.List.{list_all}
use Rattle.pathkey.specs.Names.{Name, Path, HasNameBytes, text_len}
use Rattle.pathkey.specs.Outcomes.{when, unless}
use Rattle.pathkey.specs.declared.errno.Errno.{Errno}
use Rattle.pathkey.specs.declared.errno.Errno.TheVariants.{EINVAL, ENAMETOOLONG, ENOMEM}

-- the reserved name in the root
abbrev pub reserved : Name
reserved = codes ".doorvervain"

-- the path is at or below that name
abbrev pub is_reserved : Path → Bool
is_reserved [] = false
is_reserved (n ∷ p) = bytes_eq n reserved

-- the name, with one more byte 1 in front if it begins with one
abbrev pub escaped : Name → Name
escaped [] = []
escaped (b ∷ n) = if b == 1 then 1 ∷ b ∷ n else b ∷ n

-- the record directory: the same path below the reserved name, with its names escaped
abbrev pub record_dir : Path → Path
record_dir p = reserved ∷ codes "tree" ∷ map escaped p

-- the record: the file in that directory whose name is the byte 1
abbrev pub record_path : Path → Path
record_path p = record_dir p ++ (1 ∷ []) ∷ []

-- no name has more than 255 bytes, and the text no more than 1,023
abbrev pub fits : Path → Bool
fits p = list_all (λ n. nat_le (length n) 255) p && nat_le (text_len p) 1023

-- valid as a name except for its length
pub record IsPlainName (n : Name) : Type 0 where
  pub some : 0 < length n
  pub bytes : HasNameBytes n
  pub not_dot : n ≢ 46 ∷ []
  pub not_dots : n ≢ 46 ∷ 46 ∷ []

abbrev pub HasPlainNames : Path → Type 0
HasPlainNames [] = ⊤
HasPlainNames (n ∷ p) = IsPlainName n × HasPlainNames p

-- the result is the given one or ENOMEM
abbrev pub IsOrNoMemory : {A : Type 0} → Result A Errno → Result A Errno → Type 0
IsOrNoMemory {A} answer wanted = (answer ≡ wanted) ⊎ (answer ≡ Err ENOMEM)

-- the path, if it is not too long
abbrev pub fitting : Path → Result Path Errno
fitting place = unless (when (not (fits place)) ENAMETOOLONG ∷ []) place

-- the record's path of p: it fails if p is reserved, and then if the result is too long
abbrev pub placed : Path → Path → Result Path Errno
placed p place = unless (when (is_reserved p) EINVAL ∷ when (not (fits place)) ENAMETOOLONG ∷ []) place

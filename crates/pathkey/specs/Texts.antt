-- The text of a path, and the result of parsing a text as a path.
use Rattle.std.specs.Prelude.{ℕ, List, [], ◌∷◌, ◌++◌, length, Bool, true, cond, not, ◌||◌, ◌==◌, nat_lt, Option, Result}
use Rattle.std.specs.List.{list_any}
use Rattle.pathkey.specs.Order.{same}
use Rattle.pathkey.specs.Names.{Name, Path}
use Rattle.pathkey.specs.Outcomes.{when, unless}
use Rattle.pathkey.specs.declared.errno.Errno.{Errno}
use Rattle.pathkey.specs.declared.errno.Errno.TheVariants.{ENOENT, EINVAL, ENAMETOOLONG}

-- a slash before each name
abbrev pub slashed : Path → List ℕ
slashed [] = []
slashed (n ∷ p) = 47 ∷ n ++ slashed p

-- the text of a path: the root is one slash
abbrev pub text_of : Path → List ℕ
text_of [] = 47 ∷ []
text_of (n ∷ p) = slashed (n ∷ p)

-- the byte added in front of the first piece
abbrev pub onto_first : ℕ → List Name → List Name
onto_first b [] = (b ∷ []) ∷ []
onto_first b (n ∷ p) = (b ∷ n) ∷ p

-- the pieces of the bytes, each ended by the separator
abbrev pub pieces : ℕ → List ℕ → List Name
pieces separator [] = []
pieces separator (b ∷ bytes) = cond (b == separator) ([] ∷ pieces separator bytes) (onto_first b (pieces separator bytes))

-- the components between the slashes of a text, after its first slash
abbrev pub components : List ℕ → List Name
components [] = []
components (b ∷ rest) = pieces 47 (b ∷ rest ++ 47 ∷ [])

-- `.` or `..`
abbrev pub is_dots : Name → Bool
is_dots n = same n (46 ∷ []) || same n (46 ∷ 46 ∷ [])

-- a null byte or a slash, which no name has
abbrev pub is_forbidden : ℕ → Bool
is_forbidden b = (b == 0) || (b == 47)

-- not a file name, whatever its length: empty, `.`, `..`, or with a null byte or a slash
abbrev pub is_malformed : Name → Bool
is_malformed [] = true
is_malformed n = is_dots n || list_any is_forbidden n

-- a name of more than 255 bytes
abbrev pub is_long : Name → Bool
is_long n = nat_lt 255 (length n)

-- the errors of the components between the separators, of which the first is returned
abbrev pub component_faults : ℕ → List ℕ → List (Option Errno)
component_faults separator bytes =
    when (list_any is_malformed (pieces separator (bytes ++ separator ∷ []))) EINVAL
    ∷ when (list_any is_long (pieces separator (bytes ++ separator ∷ []))) ENAMETOOLONG
    ∷ []

-- the result of parsing a text as a path: the first error in this order, or the names
abbrev pub parsed : List ℕ → Result Path Errno
parsed [] = unless (when true ENOENT ∷ []) []
parsed (b ∷ rest) =
    unless
    (when (not (b == 47)) EINVAL
    ∷ when (list_any is_malformed (components rest)) EINVAL
    ∷ when (list_any is_long (components rest)) ENAMETOOLONG
    ∷ when (nat_lt 1023 (length (b ∷ rest))) ENAMETOOLONG
    ∷ [])
    (components rest)

-- the names that a key encodes, each ended by a byte 0
abbrev pub names_of : List ℕ → Path
names_of key = pieces 0 key

-- the byte of a key for a byte of a text
abbrev pub null_for_slash : ℕ → ℕ
null_for_slash b = cond (b == 47) 0 b

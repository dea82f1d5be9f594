-- Names and paths: which lists of bytes are file names, and which lists of names are paths
-- (POSIX.1-2017, 3.170 Filename and 3.271 Pathname, with the limits of this profile).
use Rattle.std.specs.Prelude.{◌≢◌, ℕ, ◌+◌, ◌<◌, ◌≤◌, List, [], ◌∷◌, length, Bool, true, false, ◌&&◌, Option, Some, None}
use Rattle.pathkey.specs.Order.{same}

-- a name's bytes
abbrev pub Name : Type 0
Name = List ℕ

-- the names from the root down; the root has none
abbrev pub Path : Type 0
Path = List Name

-- each byte of the name is one, and neither null nor a slash
abbrev pub HasNameBytes : Name → Type 0
HasNameBytes [] = Unit {0}
HasNameBytes (b ∷ n) = (0 < b) × (b < 256) × (b ≢ 47) × HasNameBytes n

-- a file name: 1 to 255 bytes, and neither `.` nor `..`
pub record IsName (n : Name) : Type 0 where
  pub some : 0 < length n
  pub fits : length n ≤ 255
  pub bytes : HasNameBytes n
  pub not_dot : n ≢ 46 ∷ []
  pub not_dots : n ≢ 46 ∷ 46 ∷ []

-- each of the names is a file name
abbrev pub EachName : Path → Type 0
EachName [] = Unit {0}
EachName (n ∷ p) = IsName n × EachName p

-- how many bytes a path's text has: a slash before each name (the root's one slash is not counted)
abbrev pub text_len : Path → ℕ
text_len [] = 0
text_len (n ∷ p) = 1 + length n + text_len p

-- a list of file names whose text has at most 1,023 bytes
pub record IsPath (p : Path) : Type 0 where
  pub names : EachName p
  pub fits : text_len p ≤ 1023

-- the path has no names
abbrev pub is_root : Path → Bool
is_root [] = true
is_root (n ∷ p) = false

-- the path without its last name; the root is its own
abbrev pub parent : Path → Path
parent [] = []
parent (n ∷ []) = []
parent (n ∷ m ∷ p) = n ∷ parent (m ∷ p)

-- the same, and none for the root
abbrev pub parent_path : Path → Option Path
parent_path [] = None
parent_path (n ∷ p) = Some (parent (n ∷ p))

-- the last name; none for the root
abbrev pub last_name : Path → Option Name
last_name [] = None
last_name (n ∷ []) = Some n
last_name (n ∷ m ∷ p) = last_name (m ∷ p)

-- q is at or below p
abbrev pub is_under : Path → Path → Bool
is_under [] q = true
is_under (n ∷ p) [] = false
is_under (n ∷ p) (m ∷ q) = same n m && is_under p q

-- the two paths are equal
abbrev pub same_path : Path → Path → Bool
same_path p q = is_under p q && is_under q p

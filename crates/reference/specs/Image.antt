-- The image of a tree: one line for each entry in key order, and for a file the blocks that contain a nonzero byte. It has two
-- versions, of which the second records mtimes.
use Rattle.std.specs.Prelude.{ℕ, zero, suc, ◌+◌, ◌*◌, ◌/◌, ◌%◌, nat_lt, ◌==◌, ◌||◌, List, [], ◌∷◌, ◌++◌, length, take, drop, cond, codes, decimal, flat_map}
use Rattle.reference.specs.Tree.{Path, Tree, Dir, File, Entries, nothing, entry}

abbrev pub Text : Type 0
Text = List ℕ

-- a hexadecimal digit, from the code of its first letter
abbrev pub digit : ℕ → ℕ → ℕ
digit letter d = cond (nat_lt d 10) (48 + d) (letter + d)

abbrev pub two_digits : ℕ → ℕ → Text
two_digits letter b = digit letter (b / 16) ∷ digit letter (b % 16) ∷ []

-- the byte, or a percent sign and two upper-case digits
abbrev pub percent : ℕ → Text
percent b = cond (nat_lt b 33 || b == 37 || nat_lt 126 b) (37 ∷ two_digits 55 b) (b ∷ [])

abbrev pub path_text : Path → Text
path_text [] = []
path_text (n ∷ p) = 47 ∷ flat_map percent n ++ path_text p

-- without its trailing zeros
abbrev pub trimmed : List ℕ → List ℕ
trimmed [] = []
trimmed (b ∷ bs) = kept b (trimmed bs)
  where
    kept : ℕ → List ℕ → List ℕ
    kept zero [] = []
    kept b rest = b ∷ rest

abbrev pub block_line : ℕ → List ℕ → Text
block_line i [] = []
block_line i (b ∷ bs) = codes "b " ++ decimal i ++ 32 ∷ flat_map (two_digits 87) (b ∷ bs) ++ 10 ∷ []

-- the lines of the first n blocks
abbrev pub block_lines : List ℕ → ℕ → Text
block_lines b zero = []
block_lines b (suc i) = block_lines b i ++ block_line i (trimmed (take 4096 (drop (4096 * i) b)))

-- ---- versions
-- version 1 of an image records no mtimes, version 2 does
pub data Version : Type 0 where
  First : Version
  Second : Version

-- the first letter of a directory's line, and of a file's
abbrev pub directory_letter : Version → ℕ
directory_letter First = 100
directory_letter Second = 68

abbrev pub file_letter : Version → ℕ
file_letter First = 102
file_letter Second = 70

-- the end of an entry's line: nothing, or a space and the mtime
abbrev pub moment_text : Version → ℕ → Text
moment_text First at = []
moment_text Second at = 32 ∷ decimal at

-- the mtime that the version records: 0 if it records none
abbrev pub reported_moment : Version → ℕ → ℕ
reported_moment First at = 0
reported_moment Second at = at

-- a tree with the mtimes that the version records
abbrev mutual
  pub as_reported : Version → Tree → Tree
  as_reported v (Dir date es) = Dir (reported_moment v date) (as_reported_of v es)
  as_reported v (File date b) = File (reported_moment v date) b

  pub as_reported_of : Version → Entries → Entries
  as_reported_of v nothing = nothing
  as_reported_of v (entry n x rest) = entry n (as_reported v x) (as_reported_of v rest)

-- ---- images
-- the line of a directory at the path with the text, and that of a file of the given length, without their line feeds
abbrev pub directory_line : Version → Text → ℕ → Text
directory_line v text date = directory_letter v ∷ 32 ∷ text ++ moment_text v date

abbrev pub file_line : Version → Text → ℕ → ℕ → Text
file_line v text n date = file_letter v ∷ 32 ∷ text ++ (32 ∷ decimal n ++ moment_text v date)

-- the lines of a tree at the path p, and of the entries of a directory there
abbrev mutual
  pub lines : Version → Path → Tree → Text
  lines v p (Dir date es) = (directory_line v (path_text p) date ++ 10 ∷ []) ++ lines_of v p es
  lines v p (File date b) = (file_line v (path_text p) (length b) date ++ 10 ∷ []) ++ block_lines b (length b / 4096 + 1)

  pub lines_of : Version → Path → Entries → Text
  lines_of v p nothing = []
  lines_of v p (entry n x rest) = lines v (p ++ n ∷ []) x ++ lines_of v p rest

-- the line of the root, without its line feed
abbrev pub root_line : Version → ℕ → Text
root_line v date = directory_line v (codes "/") date

-- the image of a tree whose root is a directory
abbrev pub image : Version → Tree → Text
image v (File date b) = []
image v (Dir date es) = (root_line v date ++ 10 ∷ []) ++ lines_of v [] es

-- Which texts are images of a version, line by line: each line may follow those before it.
use Rattle.std.specs.Prelude.{◌≡◌, ◌≢◌, ◌⊎◌, ◌↔◌, ℕ, zero, suc, ◌+◌, ◌-◌, ◌*◌, ◌^◌, ◌<◌, ◌≤◌, List, [], ◌∷◌, ◌++◌, length, replicate, codes, decimal, flat_map, cond, ◌==◌, Option, Some, None}
use Rattle.std.specs.declared.cmp.Ordering.TheVariants.{Less}
use Rattle.pathkey.specs.Enc.{enc}
use Rattle.pathkey.specs.Names.{IsPath, parent}
use Rattle.reference.specs.Calls.{bytes_of}
use Rattle.reference.specs.Image.{Text, two_digits, path_text, trimmed, Version, First, Second, directory_line, file_line, root_line, image}
use Rattle.reference.specs.Shape.{AreBytes, IsMoment, IsTree}
use Rattle.reference.specs.Tree.{Path, Tree, Dir, File, nothing, by_bytes, At, Found, entry_at, over, with_entry, moment, moment_there}

-- a line below the root's: of a directory, of a file of the given length, each with its mtime, or of a block with its index and
-- its bytes
pub data Line : Type 0 where
  DirectoryLine : Path → ℕ → Line
  FileLine : Path → ℕ → ℕ → Line
  BlockLine : ℕ → List ℕ → Line

-- lines, the last one first
abbrev pub Lines : Type 0
Lines = List Line

-- ---- texts

-- the only text of a line in a version, without its line feed
abbrev pub spelled : Version → Line → Text
spelled v (DirectoryLine p at) = directory_line v (path_text p) at
spelled v (FileLine p n at) = file_line v (path_text p) n at
spelled v (BlockLine i b) = codes "b " ++ decimal i ++ 32 ∷ flat_map (two_digits 87) b

-- the line of the root, which has that mtime, followed by these lines
abbrev pub image_of_lines : Version → ℕ → Lines → Text
image_of_lines v root [] = root_line v root ++ 10 ∷ []
image_of_lines v root (l ∷ ls) = image_of_lines v root ls ++ (spelled v l ++ 10 ∷ [])

-- the mtimes that a line of the version may record: only 0 if the version records none
abbrev pub IsReported : Version → ℕ → Type 0
IsReported First at = at ≡ 0
IsReported Second at = IsMoment at

-- the bytes in the line of a block: 1 to 4,096, the last of which is not zero
pub record IsBlock (b : List ℕ) : Type 0 where
  pub some : 0 < length b
  pub most : length b ≤ 4096
  pub bytes : AreBytes b
  pub trims : trimmed b ≡ b

-- a line that may occur in an image
abbrev pub IsLine : Version → Line → Type 0
IsLine v (DirectoryLine p at) = IsPath p × (p ≢ []) × IsReported v at
IsLine v (FileLine p n at) = IsPath p × (p ≢ []) × (n ≤ 2 ^ 40) × IsReported v at
IsLine v (BlockLine i b) = (i < 2 ^ 28) × IsBlock b

-- ---- what lines record

-- the path of the last entry; the root's where there is none
abbrev pub last_path : Lines → Path
last_path [] = []
last_path (DirectoryLine p at ∷ ls) = p
last_path (FileLine p n at ∷ ls) = p
last_path (BlockLine i b ∷ ls) = last_path ls

-- the length of the file whose lines come last; none where a directory's does
abbrev pub last_len : Lines → Option ℕ
last_len [] = None
last_len (DirectoryLine p at ∷ ls) = None
last_len (FileLine p n at ∷ ls) = Some n
last_len (BlockLine i b ∷ ls) = last_len ls

-- the least index that the next line of a block may have
abbrev pub next_block : Lines → ℕ
next_block [] = 0
next_block (DirectoryLine p at ∷ ls) = 0
next_block (FileLine p n at ∷ ls) = 0
next_block (BlockLine i b ∷ ls) = i + 1

-- there is a line of a directory at that path
abbrev pub HasDirectory : Lines → Path → Type 0
HasDirectory [] q = q ≡ []
HasDirectory (DirectoryLine p at ∷ ls) q = (q ≡ p) ⊎ HasDirectory ls q
HasDirectory (FileLine p n at ∷ ls) q = HasDirectory ls q
HasDirectory (BlockLine i b ∷ ls) q = HasDirectory ls q

-- ---- lines of an image

-- an entry at the path may follow the lines: its key is above those before it, and its directory has a line
pub record IsNewEntry (p : Path) (ls : Lines) : Type 0 where
  pub path : IsPath p
  pub rises : by_bytes (enc (last_path ls)) (enc p) ≡ Less
  pub parent : HasDirectory ls (parent p)

-- a block of these bytes may follow the lines: those of its file come last, its index is greater than those of the blocks
-- before it, and its bytes end inside the file
pub record IsNewBlock (i : ℕ) (b : List ℕ) (ls : Lines) : Type 0 where
  pub len : ℕ
  pub file : last_len ls ≡ Some len
  pub rises : next_block ls ≤ i
  pub block : IsBlock b
  pub inside : 4096 * i + length b ≤ len

-- the line may follow these lines
abbrev pub MayFollow : Version → Line → Lines → Type 0
MayFollow v (DirectoryLine p at) ls = IsNewEntry p ls × IsReported v at
MayFollow v (FileLine p n at) ls = IsNewEntry p ls × (n ≤ 2 ^ 40) × IsReported v at
MayFollow v (BlockLine i b) ls = IsNewBlock i b ls

-- each line may follow those before it
abbrev pub AreLines : Version → Lines → Type 0
AreLines v [] = Unit {0}
AreLines v (l ∷ ls) = MayFollow v l ls × AreLines v ls

-- a text is an image of a version where it is the root's line and lines of which each may follow those before it
pub record IsImage (v : Version) (text : Text) : Type 0 where
  pub root : ℕ
  pub reported : IsReported v root
  pub lines : Lines
  pub are : AreLines v lines
  pub is : text ≡ image_of_lines v root lines

-- a text is an image of either version
abbrev pub IsSomeImage : Text → Type 0
IsSomeImage text = (v : Version) × IsImage v text

-- ---- the tree of an image

-- the tree that lines make, one after the other, under a root with that mtime: an entry is added, and a block's bytes overwrite
-- those of its file, which keeps its mtime
abbrev pub tree_of_lines : ℕ → Lines → Tree
tree_of_lines root [] = Dir root nothing
tree_of_lines root (DirectoryLine p at ∷ ls) = with_entry (tree_of_lines root ls) p (Dir at nothing)
tree_of_lines root (FileLine p n at ∷ ls) = with_entry (tree_of_lines root ls) p (File at (replicate n 0))
tree_of_lines root (BlockLine i b ∷ ls) =
    let here : At = entry_at (tree_of_lines root ls) (last_path ls) in
    with_entry (tree_of_lines root ls) (last_path ls) (File (moment_there here) (over (bytes_of here) (4096 * i) b))

-- every mtime of the tree is one that the version may record
abbrev pub AllReported : Version → Tree → Type 0
AllReported v t = (p : Path) (x : Tree) → entry_at t p ≡ Found x → IsReported v (moment x)

-- ---- texts cut at lines

-- the first n lines of a text, each with its line feed where it has one
abbrev pub first_lines : ℕ → Text → Text
first_lines zero text = []
first_lines (suc n) [] = []
first_lines (suc n) (b ∷ text) = b ∷ cond (b == 10) (first_lines n text) (first_lines (suc n) text)

-- the first n lines of the text are no image, and those before the last of them are one, or n is 1
abbrev pub IsBadAt : ℕ → Text → Type 0
IsBadAt n text = ((n ≡ 1) ⊎ IsSomeImage (first_lines (n - 1) text)) × (IsSomeImage (first_lines n text) → ⊥)

-- ---- laws

-- lines of an image make a directory tree, of which they are the image, with the mtimes that they record
abbrev pub LinesLaw : Type 0
LinesLaw = (v : Version) (root : ℕ) (ls : Lines) → IsReported v root → AreLines v ls
    → IsTree (tree_of_lines root ls) × (image v (tree_of_lines root ls) ≡ image_of_lines v root ls) × AllReported v (tree_of_lines root ls)

-- the images of a version are exactly the texts that directory trees have for images of it
abbrev pub ImageLaw : Type 0
ImageLaw = (v : Version) (text : Text) → IsImage v text ↔ ((t : Tree) × IsTree t × (text ≡ image v t))

-- a text is an image of one version at most
abbrev pub OneVersionLaw : Type 0
OneVersionLaw = (v w : Version) (text : Text) → IsImage v text → IsImage w text → v ≡ w

-- lines of an image, and the root's mtime, are determined by it
abbrev pub OneLineLaw : Type 0
OneLineLaw = (v : Version) (root top : ℕ) (ls ks : Lines) → IsReported v root → IsReported v top → AreLines v ls → AreLines v ks → image_of_lines v root ls ≡ image_of_lines v top ks → (root ≡ top) × (ls ≡ ks)

-- the first lines of an image, one or more, are an image
abbrev pub BeginningLaw : Type 0
BeginningLaw = (v : Version) (root : ℕ) (ls : Lines) (n : ℕ) → IsReported v root → AreLines v ls → 0 < n → n ≤ length ls + 1 → IsImage v (first_lines n (image_of_lines v root ls))

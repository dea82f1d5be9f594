-- Edits as lines of a text.
use Rattle.std.specs.Prelude.{◌≡◌, ◌≢◌, ◌<◌, ◌^◌, ℕ, List, [], ◌∷◌, ◌++◌, length, map, codes, decimal, All, IfSome, MatchOption, Option}
use Rattle.pathkey.specs.Names.{IsPath}
use Rattle.reference.specs.Image.{Text, path_text}
use Rattle.reference.specs.Indexes.{held}
use Rattle.reference.specs.Shape.{AreBytes}
use Rattle.reference.specs.Tree.{Path}
use Rattle.reference.specs.declared.reply.Meta.{Meta}
use Rattle.reference.specs.declared.reply.Meta.TheVariants.{Dir as DirMeta, File as FileMeta}
use Rattle.textio.specs.Lines.{Line, text_of}
use Rattle.textio.specs.Texts.{hex_text}
use Rattle.edits.specs.Edits.{AreOfOneKind}
use Rattle.edits.specs.declared.edit.Change.{Change}
use Rattle.edits.specs.declared.edit.Change.TheVariants.{Remove, Add, Alter, Block}
use Rattle.edits.specs.declared.edit.Edit.{Edit}

-- ---- an edit that has a line

abbrev pub IsMeta : Meta → Type 0
IsMeta (DirMeta at) = at < 2 ^ 64
IsMeta (FileMeta n at) = (n < 2 ^ 64) × (at < 2 ^ 64)

-- 32 bytes
pub record IsDigest (digest : List ℕ) : Type 0 where
  pub size : length digest ≡ 32
  pub bytes : AreBytes digest

abbrev pub IsChange : Change → Type 0
IsChange (Remove m) = IsMeta m
IsChange (Add m) = IsMeta m
IsChange (Alter m n) = IsMeta m × IsMeta n × AreOfOneKind m n
IsChange (Block i old new) = (i < 2 ^ 64) × IfSome old IsDigest × AreBytes new

pub record IsEdit (e : Edit) : Type 0 where
  pub path : IsPath e.path
  pub change : IsChange e.change

-- ---- its line

-- a path in percent form
abbrev pub shown : Path → Text
shown [] = codes "/"
shown (n ∷ p) = path_text (n ∷ p)

-- the numbers of an entry: the mtime of a directory, the length and the mtime of a file
abbrev pub numbers : Meta → Text
numbers (DirMeta at) = decimal at
numbers (FileMeta n at) = decimal n ++ 32 ∷ decimal at

abbrev pub entry_letter : Meta → ℕ
entry_letter (DirMeta at) = 68
entry_letter (FileMeta n at) = 70

-- an entry: its kind, its path and its numbers
abbrev pub entry_text : Path → Meta → Text
entry_text p m = entry_letter m ∷ 32 ∷ (shown p ++ 32 ∷ numbers m)

abbrev pub change_text : Path → Change → Line
change_text p (Remove m) = 45 ∷ 32 ∷ entry_text p m
change_text p (Add m) = 43 ∷ 32 ∷ entry_text p m
change_text p (Alter m n) = 33 ∷ 32 ∷ (entry_text p m ++ 32 ∷ numbers n)
change_text p (Block i old new) = 98 ∷ 32 ∷ (shown p ++ 32 ∷ (decimal i ++ 32 ∷ (hex_text (held old) ++ 32 ∷ hex_text new)))

-- the line of an edit
abbrev pub spelled : Edit → Line
spelled e = change_text e.path e.change

-- the edit that a line spells, or none
abbrev pub Spells : Line → Option Edit → Type 0
Spells line read = MatchOption read ((e : Edit) → IsEdit e → line ≢ spelled e) (λ e. IsEdit e × (line ≡ spelled e))

-- ---- texts

-- the lines of edits
abbrev pub edits_text : List Edit → Text
edits_text es = text_of (map spelled es)

-- the first line
abbrev pub heading : Line
heading = codes "delta 2"

-- the lines after it: those of the edits, and the last
abbrev pub listed : List Edit → List Line
listed es = map spelled es ++ codes "end" ∷ []

-- the text has these edits
pub record AreEdits (text : Text) (es : List Edit) : Type 0 where
  pub edits : All IsEdit es
  pub is : text ≡ text_of (heading ∷ listed es)

abbrev pub AreSomeEdits : Text → Type 0
AreSomeEdits text = (es : List Edit) × AreEdits text es

-- a text has one list of edits
abbrev pub OneReadingLaw : Type 0
OneReadingLaw = (text : Text) (es fs : List Edit) → AreEdits text es → AreEdits text fs → es ≡ fs

-- The lines of the entries of an image.
use Rattle.std.specs.Prelude.{◌≡◌, ◌⊎◌, ℕ, Bool, cond, List, [], ◌∷◌, ◌+◌, ◌/◌, ◌++◌, length, drop, decimal, Option}
use Rattle.std.specs.Io.KnownBytes.{Appends}
use Rattle.reference.specs.Image.{Text, Version, First, Second, directory_letter, file_letter, moment_text, block_lines, path_text}
use Rattle.pathkey.specs.Keys.{Key, enc}
use Rattle.message.specs.Ranges.{reaches}
use Rattle.reference.specs.Tree.{Path, Tree, Dir, File, Entries, nothing, entry, At, Found}
use Rattle.reference.specs.declared.reply.Meta.{Meta}
use Rattle.reference.specs.declared.reply.Meta.TheVariants.{Dir as DirMeta, File as FileMeta}
use Rattle.images.specs.declared.version.ImageVersion.{ImageVersion}
use Rattle.images.specs.declared.version.ImageVersion.TheVariants as version

-- the version that a value names
abbrev pub version_of : ImageVersion → Version
version_of version.First = First
version_of version.Second = Second

-- the line of a directory at the path p, and of a file there, in a version
abbrev pub directory_text : Version → Path → ℕ → Text
directory_text v p at = directory_letter v ∷ 32 ∷ (path_text p ++ (moment_text v at ++ 10 ∷ []))

abbrev pub file_text : Version → Path → ℕ → ℕ → Text
file_text v p len at = file_letter v ∷ 32 ∷ (path_text p ++ (32 ∷ (decimal len ++ (moment_text v at ++ 10 ∷ []))))

-- the lines of what is at the path p, without those of a directory's entries, in version 2
abbrev pub entry_lines : Path → Tree → Text
entry_lines p (Dir date es) = directory_text Second p date
entry_lines p (File date b) = file_text Second p (length b) date ++ block_lines b (length b / 4096 + 1)

-- the first of them, that of the entry itself, from its metadata
abbrev pub entry_text : Path → Meta → Text
entry_text p (DirMeta at) = directory_text Second p at
entry_text p (FileMeta len at) = file_text Second p len at

-- all of them for the entry at a path: none if there is no entry
abbrev pub lines_there : Path → At → Text
lines_there p (Found x) = entry_lines p x
lines_there p _ = []

-- it is nothing, or ends with a line feed
abbrev pub EndsLine : Text → Type 0
EndsLine text = (text ≡ []) ⊎ ((front : Text) × (text ≡ front ++ 10 ∷ []))

-- a beginning of the text was appended, and it is whole lines
abbrev pub AppendsLines : Option (List ℕ) → Option (List ℕ) → Text → Type 0
AppendsLines old new text = (part : Text) × (rest : Text) × (text ≡ part ++ rest) × Appends old new part × EndsLine part

-- ---- what is left of an image

-- the lines of a tree at the path p for the entries that are marked, and for the entries of a directory there
abbrev mutual
  pub text_by : (Path → Bool) → Path → Tree → Text
  text_by f p (Dir date es) = cond (f p) (entry_lines p (Dir date es)) [] ++ texts_by f p es
  text_by f p (File date b) = cond (f p) (entry_lines p (File date b)) []

  pub texts_by : (Path → Bool) → Path → Entries → Text
  texts_by f p nothing = []
  texts_by f p (entry n x rest) = text_by f (p ++ n ∷ []) x ++ texts_by f p rest

-- the lines of the entries from a key on, without the root's
abbrev pub image_from : Key → Tree → Text
image_from lo (Dir date es) = texts_by (λ p. reaches lo (enc p)) [] es
image_from lo (File date b) = []

-- the lines of the blocks of the entry, from a number on
abbrev pub blocks_left : At → ℕ → Text
blocks_left (Found (File date b)) from = drop (length (block_lines b from)) (block_lines b (length b / 4096 + 1))
blocks_left _ from = []

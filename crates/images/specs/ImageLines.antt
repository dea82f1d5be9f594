-- The lines of an image as they are read.
use Rattle.std.specs.Prelude.{◌≡◌, ◌≢◌, ℕ, ◌++◌, All, Option, Some, IfSome, MatchOption, option_map}
use Rattle.reference.specs.Image.{Text, Version, moment_text, root_line}
use Rattle.reference.specs.ImageLines.{Line, DirectoryLine, FileLine, BlockLine, spelled, IsLine, IsReported}
use Rattle.images.specs.declared.image_line.ImageLine.{ImageLine}
use Rattle.images.specs.declared.image_line.ImageLine.TheVariants.{Directory, File, Block}

-- the line that was read
abbrev pub line_of : ImageLine → Line
line_of (Directory p at) = DirectoryLine p at
line_of (File p n at) = FileLine p n at
line_of (Block i b) = BlockLine i b

-- the guess for a text: a line of an image of the version, and the right one if the text spells one
pub record Guesses (v : Version) (text : Text) (guess : Option ImageLine) : Type 0 where
  pub valid : IfSome guess (λ l. IsLine v (line_of l))
  pub complete : (l : Line) → IsLine v l → text ≡ spelled v l → option_map line_of guess ≡ Some l

-- the line of an image of the version that a text spells, or none
abbrev pub Spells : Version → Text → Option ImageLine → Type 0
Spells v text read = MatchOption read ((l : Line) → IsLine v l → text ≢ spelled v l) (λ l. IsLine v (line_of l) × (text ≡ spelled v (line_of l)))

-- the words of a line before its mtime, and the mtime: the last word, if the version has mtimes
pub record CutsMoment (v : Version) (words : Text) (cut : Option (Text × ℕ)) : Type 0 where
  pub valid : IfSome cut (λ c. IsReported v c.1)
  pub complete : (front : Text) (at : ℕ) → All (λ b. b ≢ 32) front → IsReported v at → words ≡ front ++ moment_text v at → cut ≡ Some (front, at)

-- the version and the mtime in the line of a root, or none if it is not such a line
abbrev pub IsRoot : Text → Option (Version × ℕ) → Type 0
IsRoot line read = MatchOption read ((v : Version) (at : ℕ) → IsReported v at → line ≢ root_line v at) (λ r. IsReported r.0 r.1 × (line ≡ root_line r.0 r.1))

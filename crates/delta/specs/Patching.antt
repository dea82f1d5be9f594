-- Commands as they are done, one after the other.
use Rattle.std.specs.Prelude.{◌≡◌, ℕ, List, [], ◌++◌, All, Some, option_map}
use Rattle.reference.specs.Image.{Text}
use Rattle.reference.specs.ImageLines.{IsBadAt as IsBadImageAt}
use Rattle.delta.specs.Deltas.{Command, IsCommand, Line, patched, text_of, parsed}

-- commands were done on old lines: what they make was added to a text, and these lines are left
pub record Does (cs : List Command) (old : List Line) (text : Text) (left : List Line) (has : Text) : Type 0 where
  pub front : List Line
  pub added : has ≡ text ++ text_of front
  pub rest : (ds : List Command) → patched (cs ++ ds) old ≡ option_map (λ l. front ++ l) (patched ds left)

-- of the commands of a delta the first were done, and this text has the others
pub record IsDoing (cs : List Command) (old : List Line) (rest : Text) (left : List Line) (has : Text) : Type 0 where
  pub done : List Command
  pub more : List Command
  pub parts : cs ≡ done ++ more
  pub commands : All IsCommand more
  pub text : rest ≡ text_of (parsed more)
  pub does : Does done old [] left has

-- whatever follows the text, it is no image from one line on
abbrev pub IsSpoilt : Text → Type 0
IsSpoilt text = (n : ℕ) × ((rest : Text) → IsBadImageAt n (text ++ rest))

-- the result of the commands, if there is one, is not an image after the text
abbrev pub MakesNoImage : List Command → List Line → Text → Type 0
MakesNoImage cs old done = (lines : List Line) → patched cs old ≡ Some lines → (n : ℕ) × IsBadImageAt n (done ++ text_of lines)

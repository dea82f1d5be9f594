-- How much of its text a script has executed.
use Rattle.std.specs.Prelude.{◌≡◌, ℕ, Bool, List, [], ◌∷◌, ◌++◌, ⊤}
use Rattle.shell.specs.Script.{Answered, Cut, IsHalt, Line, Lines, Script, State}
use Rattle.shell.specs.declared.verdict.Halt.{Halt}
use Rattle.textio.specs.Held.{Holds, IsFree}

-- the lines, each with its line feed
abbrev pub text_of_lines : List (List ℕ) → List ℕ
text_of_lines [] = []
text_of_lines (l ∷ ls) = l ++ (10 ∷ text_of_lines ls)

-- no line feed in any of the lines
abbrev pub AreFree : List (List ℕ) → Type 0
AreFree [] = ⊤
AreFree (l ∷ ls) = IsFree l × AreFree ls

-- after a piece more the script has done these lines, and `left` is the line so far
pub record Went (D : Line) (held piece : List ℕ) (first : State) (out left : List ℕ) (after : State) : Type 0 where
  pub lines : List (List ℕ)
  pub cut : held ++ piece ≡ text_of_lines lines ++ left
  pub free : AreFree lines
  pub did : Lines D first lines out after

-- within a piece the lines ended early, at the reply to `line`
pub record FailedIn (D : Line) (H : Cut) (held piece : List ℕ) (first : State) (written : List ℕ) (after : State) : Type 0 where
  pub front : List ℕ
  pub more : List ℕ
  pub line : List ℕ
  pub before : State
  pub replies : List ℕ
  pub part : List ℕ
  pub rest : List ℕ
  pub cut : piece ≡ front ++ (10 ∷ more)
  pub went : Went D held front first replies line before
  pub free : IsFree line
  pub did_last : Script before (line ∷ []) (part ++ rest) after
  pub how : H part rest
  pub is : written ≡ replies ++ part

-- a last line without its line feed, if it is not empty
abbrev pub last_line : List ℕ → List (List ℕ)
last_line [] = []
last_line (x ∷ xs) = (x ∷ xs) ∷ []

-- the lines that end in a piece were answered, and `kept` holds the line so far
abbrev pub DoesPiece : Bool → List ℕ → List ℕ → List ℕ → State → List ℕ → State → Type 0
DoesPiece strict held piece kept first out after = (left : List ℕ) × Holds left kept × Went (Answered strict) held piece first out left after

-- the lines that end in a piece were answered up to one at which the run ended, for this reason
abbrev pub HaltsInPiece : Bool → Halt → List ℕ → List ℕ → State → List ℕ → State → Type 0
HaltsInPiece strict h held piece = FailedIn (Answered strict) (IsHalt strict h) held piece

-- Deltas: what a text says of the lines of one image, so that they become those of another.
use Rattle.std.specs.Prelude.{◌≡◌, ℕ, ◌<◌, ◌^◌, nat_lt, List, [], ◌∷◌, ◌++◌, length, take, drop, map, codes, decimal, All, Option, Some, None, option_map, if◌then◌else◌, ◌==◌}
use Rattle.hex.specs.Hex.{IsBytes, encode_lower}
use Rattle.reference.specs.Image.{Text}
use Rattle.sha2.specs.Sha256.{sha256}
use Rattle.textio.specs.Lines.{lines_of}
pub use Rattle.textio.specs.Lines.{Line, IsLine, text_of}

-- ---- commands

-- a command for the lines of the old image, from the first on: the next n lines are copied, or deleted, or this line is
-- inserted
pub data Command : Type 0 where
  Stay : ℕ → Command
  Go : ℕ → Command
  Come : Line → Command

-- the lines that result from applying commands to these; none if the commands use more lines than there are, or not all
abbrev pub patched : List Command → List Line → Option (List Line)
patched [] [] = Some []
patched [] (l ∷ ls) = None
patched (Stay n ∷ cs) ls = if nat_lt (length ls) n then None else option_map (λ new. take n ls ++ new) (patched cs (drop n ls))
patched (Go n ∷ cs) ls = if nat_lt (length ls) n then None else patched cs (drop n ls)
patched (Come l ∷ cs) ls = option_map (λ new. l ∷ new) (patched cs ls)

-- a command that has a line: its number is 1 or more, below 2^64
abbrev pub IsCommand : Command → Type 0
IsCommand (Stay n) = (0 < n) × (n < 2 ^ 64)
IsCommand (Go n) = (0 < n) × (n < 2 ^ 64)
IsCommand (Come l) = IsLine l

-- its line
abbrev pub spelled : Command → Line
spelled (Stay n) = codes "= " ++ decimal n
spelled (Go n) = codes "- " ++ decimal n
spelled (Come l) = codes "+ " ++ l

-- n lines are copied, or deleted; for 0 lines there is no command
abbrev pub run : (ℕ → Command) → ℕ → List Command
run c n = if n == 0 then [] else c n ∷ []

-- ---- texts

-- the lines of commands
abbrev pub commands_text : List Command → Text
commands_text cs = text_of (map spelled cs)

-- the first line, which has the digest of the old image
abbrev pub heading : List ℕ → Line
heading digest = codes "delta 1 " ++ encode_lower digest

-- the lines after it: those of the commands, and the last
abbrev pub parsed : List Command → List Line
parsed cs = map spelled cs ++ codes "end" ∷ []

-- 32 bytes
pub record IsDigest (digest : List ℕ) : Type 0 where
  pub size : length digest ≡ 32
  pub bytes : IsBytes digest

-- the text has this digest and these commands
pub record IsDelta (text : Text) (digest : List ℕ) (cs : List Command) : Type 0 where
  pub sum : IsDigest digest
  pub commands : All IsCommand cs
  pub is : text ≡ text_of (heading digest ∷ parsed cs)

abbrev pub IsSomeDelta : Text → Type 0
IsSomeDelta text = (digest : List ℕ) × (cs : List Command) × IsDelta text digest cs

-- a delta that makes of the lines of one image these lines
pub record Makes (text old : Text) (new : List Line) : Type 0 where
  pub commands : List Command
  pub is : IsDelta text (sha256 old) commands
  pub lines : patched commands (lines_of old) ≡ Some new

-- Which texts are no deltas, and from which line on.
use Rattle.std.specs.Prelude.{◌≡◌, ◌≢◌, ℕ, ◌+◌, List, [], ◌∷◌, ◌++◌, drop, codes, All}
use Rattle.reference.specs.Image.{Text}
use Rattle.textio.specs.Lines.{IsFirstBad}
use Rattle.delta.specs.Deltas.{Line, IsLine, text_of, Command, Stay, Go, Come, IsCommand, IsDelta, IsSomeDelta, commands_text, spelled, parsed}
use Rattle.delta.specs.declared.command.DeltaCommand.{DeltaCommand}
use Rattle.delta.specs.declared.command.DeltaCommand.TheVariants.{Stay as StayTold, Go as GoTold, Come as ComeTold}

-- the command that was read of a line
abbrev pub command_of : DeltaCommand → Line → Command
command_of (StayTold n) line = Stay n
command_of (GoTold n) line = Go n
command_of ComeTold line = Come (drop 2 line)

-- the line is not a command
abbrev pub TellsNone : Line → Type 0
TellsNone line = (c : Command) → IsCommand c → line ≢ spelled c

-- it is this command
pub record Tells (line : Line) (c : Command) : Type 0 where
  pub command : IsCommand c
  pub is : line ≡ spelled c

-- the text continues with the line of a command, and this text after it
pub record IsNext (text line : Text) (t : DeltaCommand) (behind : Text) : Type 0 where
  pub cut : text ≡ line ++ 10 ∷ behind
  pub whole : IsLine line
  pub tells : Tells line (command_of t line)

-- it does not continue with a command
abbrev pub HasNoCommand : Text → Type 0
HasNoCommand text = (c : Command) (behind : Text) → IsCommand c → text ≢ spelled c ++ 10 ∷ behind

-- it continues with these commands, and this text after them
pub record Passes (cs : List Command) (text rest : Text) : Type 0 where
  pub commands : All IsCommand cs
  pub cut : text ≡ commands_text cs ++ rest

-- the text after the commands
abbrev pub end_text : Text
end_text = text_of (codes "end" ∷ [])

-- the text is not the end: its first line is another, which is bad, or the second is
pub record NoEnd (text : Text) (number bad : ℕ) : Type 0 where
  pub other : text ≢ end_text
  pub first : bad ≢ number → (bad ≡ number + 1) × ((behind : Text) × (text ≡ end_text ++ behind))
  pub second : bad ≡ number → (behind : Text) → text ≢ end_text ++ behind

-- the text has these commands, and the end after them
pub record TellsAll (text : Text) (cs : List Command) : Type 0 where
  pub commands : All IsCommand cs
  pub is : text ≡ text_of (parsed cs)

-- the text is a delta with this digest and these commands, and this is the part after its first line
pub record ReadsDelta (text digest behind : Text) (cs : List Command) : Type 0 where
  pub is : IsDelta text digest cs
  pub rest : behind ≡ text_of (parsed cs)

-- the line n is the first bad one of the text: with those before it a delta may begin, and with it none does
abbrev pub IsBadAt : ℕ → Text → Type 0
IsBadAt n text = IsFirstBad IsSomeDelta n text

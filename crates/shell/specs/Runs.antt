-- The results of a run of a script: from the possible worlds and timestamps before it to those after it.
use Rattle.std.specs.Prelude.{◌≡◌, ◌++◌, ℕ, Bool, List, Option, IfSome}
use Rattle.std.specs.Io.KnownBytes.{Consumes, IsAtEnd}
use Rattle.reference.specs.Worlds.{World}
use Rattle.textio.specs.Lines.{lines_of, whole}
use Rattle.shell.specs.Script.{Answered, Cut, IsHalt, Line, Lines, Script, State, Stopped}
use Rattle.shell.specs.declared.verdict.Halt.TheVariants as halt

-- the worlds to which a volume, or a client of one, abstracts
abbrev pub Worlds : Type 1
Worlds = World → Type 0

-- the possible states of a script
abbrev pub States : Type 1
States = State → Type 0

-- one of these worlds, and this timestamp
abbrev pub Meant : Worlds → ℕ → States
Meant means at s = means s.world × (s.at ≡ at)

-- one of these worlds, and any timestamp
abbrev pub Left : Worlds → States
Left means s = means s.world

-- from each possible state a step leads to one that is possible after it, and this is how much of its text was written
abbrev pub Leads : States → States → (State → List ℕ → State → Type 0) → (List ℕ → Type 0) → Type 0
Leads meant means step wrote = (first : State) → meant first → (text : List ℕ) × (after : State) × step first text after × means after × wrote text

-- the reader is at its end, and all lines that it returned were executed
abbrev pub DoesAll : Line → Option (List ℕ) → Option (List ℕ) → State → List ℕ → State → Type 0
DoesAll D had has first out after = (text : List ℕ) × Consumes had has text × IsAtEnd has × Lines D first (lines_of text) out after

-- the whole lines that the reader returned were executed
abbrev pub DoesGiven : Line → Option (List ℕ) → Option (List ℕ) → State → List ℕ → State → Type 0
DoesGiven D had has first out after = (text : List ℕ) × Consumes had has text × Lines D first (lines_of (whole text)) out after

-- of all lines that the reader had, those up to an early end were executed
abbrev pub DoesUntil : Line → Cut → Option (List ℕ) → State → List ℕ → State → Type 0
DoesUntil D H had first written after = (text : List ℕ) × IfSome had (λ all. all ≡ text) × Stopped D H first text written after

-- the same up to the first line that a run, where it is strict, answers by a fault or an error
abbrev pub DoesUntilFault : Bool → Option (List ℕ) → State → List ℕ → State → Type 0
DoesUntilFault strict had = DoesUntil (Answered strict) (IsHalt strict halt.Fault) had

-- these lines, of which there is one at most, were done, and so much of the answer was written
abbrev pub Halts : Cut → List (List ℕ) → State → List ℕ → State → Type 0
Halts H lines first part after = (rest : List ℕ) × Script first lines (part ++ rest) after × H part rest

-- The specification of scripts: the answers to their lines, and their effect on the world.
use Rattle.std.specs.Prelude.{◌≡◌, ◌≢◌, ◌⊎◌, ◌≤◌, All, Bool, true, false, ℕ, List, [], ◌∷◌, ◌++◌, ⊤, length, codes, Option, Some, None, Ok, Err}
use Rattle.std.specs.FinMap as map
use Rattle.pathkey.specs.declared.errno.Errno.TheVariants.{ENOENT, ENOMEM}
use Rattle.reference.specs.Calls.{does}
use Rattle.reference.specs.Tree.{Tree}
use Rattle.reference.specs.Worlds.{World, Event, Ask, TakeSnapshot, DropSnapshot as DropNamed, RestoreSnapshot, Replied, Settled, Snapped, Fits, next}
use Rattle.reference.specs.declared.call.Call.{Call}
use Rattle.reference.specs.declared.call.Call.TheVariants.{Read, Stat as AskStat, Readdir}
use Rattle.reference.specs.declared.reply.Reply.{Reply}
use Rattle.reference.specs.declared.reply.Reply.TheVariants.{Done, Fault}
use Rattle.shell.specs.declared.request.ReadCall.{ReadCall}
use Rattle.shell.specs.declared.request.ReadCall.TheVariants as look
use Rattle.shell.specs.declared.request.Request.{Request}
use Rattle.shell.specs.declared.request.Request.TheVariants.{Silent, Overlong, Malformed, Refused, Moment, Wanted, Snapshot, DropSnapshot, Restore, Past}
use Rattle.textio.specs.Lines.{lines_of}
use Rattle.shell.specs.Requests.{request_of, IsAsked}
use Rattle.shell.specs.Replies.{reply_text}
use Rattle.shell.specs.Verdicts.{is_fault}
use Rattle.shell.specs.declared.verdict.Halt.{Halt}
use Rattle.shell.specs.declared.verdict.Halt.TheVariants as halt

-- the state of a script: a world, and the timestamp of the calls that follow
pub record State : Type 0 where
  pub world : World
  pub at : ℕ

-- another world with the same timestamp
abbrev pub in_world : State → World → State
in_world s w = record s { world = w }

-- the reply to a snapshot call
abbrev pub settled_reply : Snapped → Reply
settled_reply (Ok done) = Done
settled_reply (Err e) = Fault e

-- the answer to a snapshot call, and the state after it
abbrev pub Settles : State → Event → List ℕ → State → Type 0
Settles s e text s' = (r : Snapped) × Fits s.world e (Settled r) × (text ≡ reply_text (settled_reply r)) × (s' ≡ in_world s (next s.world e (Settled r)))

-- the file call of a read
abbrev pub call_of : ReadCall → Call
call_of (look.Read p off n) = Read p off n
call_of (look.Stat p) = AskStat p
call_of (look.Readdir p) = Readdir p

-- the reply to a read of a snapshot, whatever the timestamp: ENOENT if there is none of that name
abbrev pub reported_of : Option Tree → ReadCall → Reply
reported_of None l = Fault ENOENT
reported_of (Some t) l = (does 0 t (call_of l)).1

-- the reply is that of the snapshot's tree, or ENOMEM
abbrev pub Tells : World → List ℕ → ReadCall → Reply → Type 0
Tells w s l r = (r ≡ reported_of (map.get w.snapshots s) l) ⊎ (r ≡ Fault ENOMEM)

-- the answer to a request, and the state after it
abbrev pub Answers : State → Request → List ℕ → State → Type 0
Answers s Silent text s' = (text ≡ []) × (s' ≡ s)
Answers s Overlong text s' = (text ≡ codes "error line\n") × (s' ≡ s)
Answers s Malformed text s' = (text ≡ codes "error syntax\n") × (s' ≡ s)
Answers s (Refused e) text s' = (text ≡ reply_text (Fault e)) × (s' ≡ s)
Answers s (Moment at) text s' = (text ≡ reply_text Done) × (s' ≡ record s { at = at })
Answers s (Wanted c) text s' = (r : Reply) × Fits s.world (Ask c s.at) (Replied r) × (text ≡ reply_text r) × (s' ≡ in_world s (next s.world (Ask c s.at) (Replied r)))
Answers s (Snapshot name) text s' = Settles s (TakeSnapshot name) text s'
Answers s (DropSnapshot name) text s' = Settles s (DropNamed name) text s'
Answers s (Restore name) text s' = Settles s (RestoreSnapshot name) text s'
Answers s (Past name l) text s' = (r : Reply) × Tells s.world name l r × (text ≡ reply_text r) × (s' ≡ s)

-- a line is answered as its request; or, if that is a command, with ENOMEM, and nothing changes
abbrev pub Does : State → List ℕ → List ℕ → State → Type 0
Does w line text w' = Answers w (request_of line) text w' ⊎ (IsAsked (request_of line) × Answers w (Refused ENOMEM) text w')

-- the answer to a line, and the state after it
abbrev pub Line : Type 1
Line = State → List ℕ → List ℕ → State → Type 0

-- a line is answered; if a run is strict, by no fault and no error
abbrev pub Answered : Bool → Line
Answered strict s line text s' = Does s line text s' × (strict ≡ true → is_fault text ≡ false)

-- the lines, one after the other, with their answers joined
abbrev pub Lines : Line → State → List (List ℕ) → List ℕ → State → Type 0
Lines D first [] out last = (out ≡ []) × (last ≡ first)
Lines D first (line ∷ lines) out last = (w : State) × (text : List ℕ) × (rest : List ℕ)
    × D first line text w × (out ≡ text ++ rest) × Lines D w lines rest last

-- the lines of a script
abbrev pub Script : State → List (List ℕ) → List ℕ → State → Type 0
Script = Lines Does

-- no line of the output reports an allocation failure
abbrev pub LacksNothing : List ℕ → Type 0
LacksNothing out = All (λ line. line ≢ codes "fault ENOMEM") (lines_of out)

-- if no line was answered with ENOMEM, the output and the final state follow from the initial state and the text
abbrev pub OneAnswerLaw : Type 0
OneAnswerLaw = (w : State) (text out out' : List ℕ) (after after' : State) → Script w (lines_of text) out after → Script w (lines_of text) out' after'
    → LacksNothing out → LacksNothing out' → (out ≡ out') × (after ≡ after')

-- how much of the last answer is written, and how much of it is not
abbrev pub Cut : Type 1
Cut = List ℕ → List ℕ → Type 0

-- anything of it
abbrev pub IsCut : Cut
IsCut part rest = ⊤

-- any part of it if a write failed; all of it if a strict run ended, and then it is a fault or an error
abbrev pub IsHalt : Bool → Halt → Cut
IsHalt strict halt.Write part rest = ⊤
IsHalt strict halt.Fault part rest = (strict ≡ true) × (rest ≡ []) × (is_fault part ≡ true)

-- the state after an early end: the lines `done` and the line `last`, if there is one, were executed, and all answers
-- to `done` and a prefix of the answer to `last` were written
pub record Stopped (D : Line) (H : Cut) (first : State) (text written : List ℕ) (after : State) : Type 0 where
  pub done : List (List ℕ)
  pub last : List (List ℕ)
  pub more : List (List ℕ)
  pub before : State
  pub replies : List ℕ
  pub part : List ℕ
  pub rest : List ℕ
  pub lines : lines_of text ≡ done ++ (last ++ more)
  pub at_most_one : length last ≤ 1
  pub did : Lines D first done replies before
  pub did_last : Script before last (part ++ rest) after
  pub how : H part rest
  pub is : written ≡ replies ++ part

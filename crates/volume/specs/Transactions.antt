-- Lists of calls that are done whole or not at all.
use Rattle.std.specs.Prelude.{◌≡◌, ℕ, List, [], ◌∷◌, Result, MatchResult, length}
use Rattle.std.specs.Global.{Vec}
use Rattle.pathkey.specs.declared.errno.Errno.{Errno}
use Rattle.reference.specs.declared.call.Call.{Call}
use Rattle.reference.specs.declared.reply.Reply.{Reply}
use Rattle.reference.specs.declared.reply.Reply.TheVariants.{Fault}
use Rattle.volume.specs.Changes.{Called}
use Rattle.volume.specs.Marked.{KeepsMarks}
use Rattle.volume.specs.Volumes.{PVolume, live_of}
use Rattle.volume.specs.declared.transact.FailedCall.{FailedCall}

-- a call with its timestamp
abbrev pub Timed : Type 0
Timed = Call × ℕ

-- the reply is no error
abbrev pub Succeeds : Reply → Type 0
Succeeds r = (e : Errno) → r ≡ Fault e → ⊥

-- each call is done, one after the other, and succeeds with its reply
abbrev pub AllCalled : List Timed → List Reply → PVolume → PVolume → Type 0
AllCalled [] [] old new = new ≡ old
AllCalled (c ∷ cs) (r ∷ rs) old new = (next : PVolume) × Called c.0 c.1 r old next × Succeeds r × AllCalled cs rs next new
AllCalled _ _ old new = ⊥

-- calls done one after the other succeed with these replies, and the one that follows fails with e
abbrev pub CalledUntil : List Timed → List Reply → Errno → PVolume → Type 0
CalledUntil [] rs e old = ⊥
CalledUntil (c ∷ cs) [] e old = Called c.0 c.1 (Fault e) old old
CalledUntil (c ∷ cs) (r ∷ rs) e old = (next : PVolume) × Called c.0 c.1 r old next × Succeeds r × CalledUntil cs rs e next

-- all calls succeed with these replies; no snapshot changes, and all marks stay
pub record DoesAll (calls : List Timed) (replies : List Reply) (old new : PVolume) : Type 0 where
  pub called : AllCalled calls replies old new
  pub snapshots : new.snapshots ≡ old.snapshots
  pub marks : new.marks ≡ old.marks
  pub kept : KeepsMarks (live_of old) (live_of new)

-- the calls before the one with this number succeed, that one fails with e, and nothing changes
pub record FailsAt (calls : List Timed) (number : ℕ) (e : Errno) (old new : PVolume) : Type 0 where
  pub replies : List Reply
  pub before : length replies ≡ number
  pub called : CalledUntil calls replies e old
  pub nothing : new ≡ old

-- a list of calls: either all are done, and the answer has each reply, or one fails, and nothing changes
abbrev pub Transacts : List Timed → Result (Vec Reply) FailedCall → PVolume → PVolume → Type 0
Transacts calls answer old new = MatchResult answer (λ replies. DoesAll calls replies.items old new) (λ f. FailsAt calls f.number f.errno old new)

-- Results of a call's own type, and the replies that they stand for.
use Rattle.std.specs.Prelude.{◌≡◌, ℕ, Bool, Result, Ok, Err, IfOk, ⊤}
use Rattle.call_compiler.specs.Compiled.{IsCompiled, messages, touches_root}
use Rattle.call_compiler.specs.declared.batch.Batch.{Batch}
use Rattle.call_compiler.specs.declared.indexes.Indexes.{Indexes}
use Rattle.pathkey.specs.declared.errno.Errno.{Errno}
use Rattle.pathkey.specs.declared.errno.NoMemory.{NoMemory}
use Rattle.reference.specs.declared.call.Call.{Call}
use Rattle.reference.specs.declared.call.Call.TheVariants.{Write, Read, Stat as AskStat, Readdir}
use Rattle.reference.specs.declared.reply.Reply.{Reply}
use Rattle.reference.specs.declared.reply.Reply.TheVariants.{Done, Count, Data, Stat, Names, Fault}

-- the reply for a result: the reply with the value, or the fault
abbrev pub replied : {A : Type 0} → (A → Reply) → Result A Errno → Reply
replied reply (Ok given) = reply given
replied reply (Err e) = Fault e

-- ---- the kinds of replies, each beside a fault

-- success, without a value
abbrev pub IsSettled : Reply → Type 0
IsSettled Done = ⊤
IsSettled (Fault e) = ⊤
IsSettled _ = ⊥

-- a number of bytes
abbrev pub IsCount : Reply → Type 0
IsCount (Count n) = ⊤
IsCount (Fault e) = ⊤
IsCount _ = ⊥

-- bytes
abbrev pub IsData : Reply → Type 0
IsData (Data bytes) = ⊤
IsData (Fault e) = ⊤
IsData _ = ⊥

-- the entry at a path
abbrev pub IsStat : Reply → Type 0
IsStat (Stat kind n modified) = ⊤
IsStat (Fault e) = ⊤
IsStat _ = ⊥

-- entries
abbrev pub IsNames : Reply → Type 0
IsNames (Names es) = ⊤
IsNames (Fault e) = ⊤
IsNames _ = ⊥

-- the reply is of the call's kind
abbrev pub IsOfKind : Call → Reply → Type 0
IsOfKind (Write p off w) r = IsCount r
IsOfKind (Read p off n) r = IsData r
IsOfKind (AskStat p) r = IsStat r
IsOfKind (Readdir p) r = IsNames r
IsOfKind _ r = IsSettled r

-- ---- how a call is done

-- the call only looks
abbrev pub Looks : Call → Type 0
Looks (Read p off n) = ⊤
Looks (AskStat p) = ⊤
Looks (Readdir p) = ⊤
Looks _ = ⊥

-- what the call at the timestamp is compiled to, unless an allocation fails
abbrev pub Compiles : Indexes → Call → ℕ → Result (Reply × Batch) NoMemory → Type 0
Compiles i c at compiled = IfOk compiled (λ x. IsCompiled i c at x.0 (messages x.1))

-- what the call at the timestamp is compiled to, and whether it sets the root's mtime if it succeeds
pub record Asks (i : Indexes) (c : Call) (at : ℕ) (compiled : Result (Reply × Batch) NoMemory) (in_root : Bool) : Type 0 where
  pub compiles : Compiles i c at compiled
  pub root : in_root ≡ touches_root c

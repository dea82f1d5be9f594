-- What the changes of a log do to a world.
use Rattle.std.specs.Prelude.{◌≡◌, ◌⊎◌, ℕ, List, [], ◌∷◌, ◌++◌, length, Option, Some, None, Result, Ok, Err, MatchResult}
use Rattle.call_compiler.specs.Mtimes.{mtime_set}
use Rattle.pathkey.specs.Names.{Path}
use Rattle.pathkey.specs.declared.errno.Errno.{Errno}
use Rattle.pathkey.specs.declared.errno.Errno.TheVariants.{EINVAL, ENOENT, ENOMEM}
use Rattle.reference.specs.Image.{Text}
use Rattle.reference.specs.PathCalls.{call_at}
use Rattle.reference.specs.Tree.{Tree}
use Rattle.reference.specs.Worlds.{World, Event, Ask, TakeSnapshot, DropSnapshot, RestoreSnapshot, Answer, Replied, Settled, Fits, outcome}
use Rattle.reference.specs.declared.call.Call.TheVariants as ask
use Rattle.reference.specs.declared.reply.Reply.TheVariants.{Fault}
use Rattle.textio.specs.Lines.{IsFirstBad}
use Rattle.edits.specs.Applies.{DoesNotFit, FitsBefore}
use Rattle.edits.specs.Edits.{AreEdited}
use Rattle.edits.specs.Lines.{AreEdits, AreSomeEdits}
use Rattle.edits.specs.declared.edit.Edit.{Edit}
use Rattle.wal.specs.Entries.{RefusesBody, body_of}
use Rattle.wal.specs.declared.wal_entry.WalEntry.{WalEntry}
use Rattle.wal.specs.declared.wal_entry.WalEntry.TheVariants.{OnPath, Rename, Truncate, Write, Punch, SetMtime, CopyRange, Keep, Edits}
use Rattle.wal.specs.declared.wal_entry.SnapshotCall.TheVariants.{Snapshot, Remove, Restore}
use Rattle.volume.specs.Copies.{copy_in}
use Rattle.volume.specs.Holes.{hole_in}
use Rattle.volume.specs.Mtimes.{with_mtime}
use Rattle.volume.specs.Volumes.{PVolume, Means}
use Rattle.wal.specs.declared.replay_error.ReplayError.{ReplayError}

-- what a change is to a world: an event, an mtime for what is at a path, or the edits of a text
pub data Effect : Type 0 where
  Happens : Event → Effect
  HasMtime : Path → ℕ → Effect
  HasEdits : Text → Effect

abbrev pub effect_in : World → WalEntry → Effect
effect_in w (OnPath what p at) = Happens (Ask (call_at what p) at)
effect_in w (Rename o n at) = Happens (Ask (ask.Rename o n) at)
effect_in w (Truncate p len at) = Happens (Ask (ask.Truncate p len) at)
effect_in w (Write p off bytes at) = Happens (Ask (ask.Write p off bytes) at)
effect_in w (Punch p off n at) = Happens (hole_in p off n at w)
effect_in w (SetMtime p at) = HasMtime p at
effect_in w (CopyRange p off q to n at) = Happens (copy_in p off q to n at w)
effect_in w (Keep Snapshot s) = Happens (TakeSnapshot s)
effect_in w (Keep Remove s) = Happens (DropSnapshot s)
effect_in w (Keep Restore s) = Happens (RestoreSnapshot s)
effect_in w (Edits text) = HasEdits text

-- the error of an answer, if it is one
abbrev pub fault_of : Answer → Option Errno
fault_of (Replied (Fault e)) = Some e
fault_of (Settled (Err e)) = Some e
fault_of _ = None

-- the answer is no error, and this is the world that the outcome leads to
abbrev pub Succeeds : World × Answer → World → Type 0
Succeeds o m = (fault_of o.1 ≡ None) × (m ≡ o.0)

-- the text has edits, which make this tree of the live one
abbrev pub LeadsEdits : World → Text → World → Type 0
LeadsEdits w text m = (es : List Edit) × (u : Tree) × AreEdits text es × AreEdited es w.live u × (m ≡ record w { live = u })

-- the effect is possible in the world w, and leads to the world m
abbrev pub Leads : World → Effect → World → Type 0
Leads w (Happens e) m = Succeeds (outcome w e) m
Leads w (HasMtime p at) m = Succeeds (with_mtime p at w, Replied (mtime_set at w.live p).1) m
Leads w (HasEdits text) m = LeadsEdits w text m

-- a text of edits is refused with this error: it is none, and the edits before its first bad line fit; an edit does not fit; or an
-- allocation failed
abbrev pub RefusesEdits : World → Text → Errno → Type 0
RefusesEdits w text e =
    ((e ≡ EINVAL) × (n : ℕ) × IsFirstBad AreSomeEdits n text × FitsBefore n text w.live) ⊎ ((e ≡ ENOENT) × (n : ℕ) × DoesNotFit n text w.live) ⊎ (e ≡ ENOMEM)

-- the effect fails with this error: its own, or an allocation failure if one is possible
abbrev pub Fails : World → Effect → Errno → Type 0
Fails w (Happens event) e = (a : Answer) × Fits w event a × (fault_of a ≡ Some e)
Fails w (HasMtime p at) e = (fault_of (Replied (mtime_set at w.live p).1) ≡ Some e) ⊎ (e ≡ ENOMEM)
Fails w (HasEdits text) e = RefusesEdits w text e

-- in the world w the change succeeds, and leads to the world m
abbrev pub Does : World → WalEntry → World → Type 0
Does w c m = Leads w (effect_in w c) m

-- and changes, one after the other
abbrev pub AllDone : World → List WalEntry → World → Type 0
AllDone w [] m = m ≡ w
AllDone w (c ∷ cs) m = (v : World) × Does w c v × AllDone v cs m

-- ---- what happens to a volume

-- in each world to which the volume abstracted, the changes succeed, and the new volume abstracts to the world to which they lead
abbrev pub Reaches : List WalEntry → PVolume → PVolume → Type 0
Reaches cs old new = (w : World) → Means old w → (m : World) × AllDone w cs m × Means new m

-- in each world to which the volume abstracts, the change fails with this error
abbrev pub IsRefused : WalEntry → Errno → PVolume → Type 0
IsRefused c e v = (w : World) → Means v w → Fails w (effect_in w c) e

-- the change was made; or it failed with this error, and nothing changed
abbrev pub Makes : WalEntry → Result (Unit {0}) Errno → PVolume → PVolume → Type 0
Makes c (Ok u) old new = Reaches (c ∷ []) old new
Makes c (Err e) old new = (new ≡ old) × IsRefused c e old

-- the changes before one were made, and that one failed
pub record Stops (cs : List WalEntry) (s : ReplayError) (old new : PVolume) : Type 0 where
  pub before : List WalEntry
  pub change : WalEntry
  pub behind : List WalEntry
  pub is : cs ≡ before ++ change ∷ behind
  pub place : s.done ≡ length before
  pub reaches : Reaches before old new
  pub why : IsRefused change s.fault new

-- all changes were made, or those before the first that failed
abbrev pub Runs : List WalEntry → Result (Unit {0}) ReplayError → PVolume → PVolume → Type 0
Runs cs r old new = MatchResult r (λ u. Reaches cs old new) (λ s. Stops cs s old new)

-- the bytes are not a body, or an allocation failed while decoding them: nothing was done
pub record Unread (body : List ℕ) (s : ReplayError) (old new : PVolume) : Type 0 where
  pub none : s.done ≡ 0
  pub why : RefusesBody body s.fault
  pub same : new ≡ old

-- the changes of a body were applied in order; or it was not decoded
abbrev pub RunsBody : List ℕ → Result (Unit {0}) ReplayError → PVolume → PVolume → Type 0
RunsBody body r old new = ((cs : List WalEntry) × (body ≡ body_of cs) × Runs cs r old new) ⊎ MatchResult r (λ u. ⊥) (λ s. Unread body s old new)

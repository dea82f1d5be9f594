-- Worlds, and the effect of a list of events on one.
use Rattle.std.specs.Prelude.{◌≡◌, ◌⊎◌, ℕ, nat_le, List, [], ◌∷◌, Bool, true, false, cond, Option, Some, None, Result, Ok, Err, IsOk}
use Rattle.std.specs.FinMap as map
use Rattle.pathkey.specs.Order.{by_bytes}
use Rattle.pathkey.specs.declared.errno.Errno.{Errno}
use Rattle.pathkey.specs.declared.errno.Errno.TheVariants.{ENOENT, EEXIST, ENOMEM, ENOSPC}
use Rattle.reference.specs.Tree.{Tree}
use Rattle.reference.specs.Calls.{does}
use Rattle.reference.specs.declared.call.Call.{Call}
use Rattle.reference.specs.declared.reply.Reply.{Reply}
use Rattle.reference.specs.declared.reply.Reply.TheVariants.{Fault}

-- a live tree, and the trees of the named snapshots
pub record World : Type 0 where
  pub live : Tree
  pub snapshots : map.FinMap by_bytes Tree

abbrev pub Snapped : Type 0
Snapped = Result (Unit {0}) Errno

-- a snapshot of the live tree is taken under the name
abbrev pub snapshot : World → List ℕ → World × Snapped
snapshot w s = cond (map.contains_key w.snapshots s) (w, Err EEXIST)
    (cond (nat_le 64 (map.len w.snapshots)) (w, Err ENOSPC)
    (record w { snapshots = map.insert w.snapshots s w.live }, Ok tt))

-- the snapshot of that name is removed
abbrev pub drop_snapshot : World → List ℕ → World × Snapped
drop_snapshot w s = cond (map.contains_key w.snapshots s) (record w { snapshots = map.remove w.snapshots s }, Ok tt) (w, Err ENOENT)

abbrev pub restored : World → Option Tree → World × Snapped
restored w None = (w, Err ENOENT)
restored w (Some t) = (record w { live = t }, Ok tt)

-- the live tree is replaced by that of the snapshot, which is kept
abbrev pub restore : World → List ℕ → World × Snapped
restore w s = restored w (map.get w.snapshots s)

-- an event of a world: a file call at a time, or a snapshot call with a name
pub data Event : Type 0 where
  Ask : Call → ℕ → Event
  TakeSnapshot : List ℕ → Event
  DropSnapshot : List ℕ → Event
  RestoreSnapshot : List ℕ → Event

pub data Answer : Type 0 where
  Replied : Reply → Answer
  Settled : Snapped → Answer

abbrev pub called : World → Tree × Reply → World × Answer
called w o = (record w { live = o.0 }, Replied o.1)

abbrev pub settled : World × Snapped → World × Answer
settled o = (o.0, Settled o.1)

-- the world after an event, and its reply, if no allocation fails
abbrev pub outcome : World → Event → World × Answer
outcome w (Ask c at) = called w (does at w.live c)
outcome w (TakeSnapshot s) = settled (snapshot w s)
outcome w (DropSnapshot s) = settled (drop_snapshot w s)
outcome w (RestoreSnapshot s) = settled (restore w s)

-- the reply is ENOMEM
abbrev pub is_lack : Answer → Bool
is_lack (Replied (Fault ENOMEM)) = true
is_lack (Settled (Err ENOMEM)) = true
is_lack _ = false

-- the event may return ENOMEM: every file call, a snapshot or a restore that would succeed, no drop
abbrev pub MayLack : World → Event → Answer → Type 0
MayLack w (Ask c at) a = a ≡ Replied (Fault ENOMEM)
MayLack w (TakeSnapshot s) a = (a ≡ Settled (Err ENOMEM)) × IsOk (snapshot w s).1
MayLack w (DropSnapshot s) a = ⊥
MayLack w (RestoreSnapshot s) a = (a ≡ Settled (Err ENOMEM)) × IsOk (restore w s).1

-- the reply is allowed: it is the event's, or ENOMEM if the event may return that
abbrev pub Fits : World → Event → Answer → Type 0
Fits w e a = (a ≡ (outcome w e).1) ⊎ MayLack w e a

-- the world after an event with that reply: ENOMEM leaves it unchanged
abbrev pub next : World → Event → Answer → World
next w e a = cond (is_lack a) w (outcome w e).0

-- events with their replies, in their order
abbrev pub History : Type 0
History = List (Event × Answer)

-- each reply is allowed in the world that the events before it leave
abbrev pub IsLegal : World → History → Type 0
IsLegal w [] = Unit {0}
IsLegal w (h ∷ hs) = Fits w h.0 h.1 × IsLegal (next w h.0 h.1) hs

-- the world that a history leaves
abbrev pub after : World → History → World
after w [] = w
after w (h ∷ hs) = after (next w h.0 h.1) hs

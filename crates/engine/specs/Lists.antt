-- Lists of calls that a client makes in one hold of the lock: all of them, or none.
use Rattle.std.specs.Prelude.{List, [], ◌∷◌, ℕ, zero, suc, ⊤}
use Rattle.pathkey.specs.declared.errno.Errno.{Errno}
use Rattle.reference.specs.Worlds.{World, History, Ask, Replied, Fits, IsLegal, next, after}
use Rattle.reference.specs.declared.reply.Reply.{Reply}
use Rattle.reference.specs.declared.reply.Reply.TheVariants.{Fault}
use Rattle.volume.specs.Transactions.{Succeeds, Timed}
use Rattle.volume.specs.Volumes.{PVolume, Means}
use Rattle.volume.specs.declared.transact.FailedCall.{FailedCall}
use Rattle.engine.specs.Histories.{Entry, entry, calls, MeansOnly}

-- the calls of a list with their replies, as entries of a client
abbrev pub entries : ℕ → List Timed → List Reply → List Entry
entries by (c ∷ cs) (r ∷ rs) = entry by (Ask c.0 c.1) (Replied r) ∷ entries by cs rs
entries by _ _ = []

-- there is a reply to each call, and none is an error
abbrev pub AllSucceed : List Timed → List Reply → Type 0
AllSucceed [] [] = ⊤
AllSucceed (c ∷ cs) (r ∷ rs) = Succeeds r × AllSucceed cs rs
AllSucceed _ _ = ⊥

-- these answers are those of one thread after the history
abbrev pub FitAllAfter : PVolume → List Entry → History → Type 0
FitAllAfter opening h more = (w : World) → Means opening w → IsLegal (after w (calls h)) more

-- from this world, so many calls of the list succeed one after the other, and the next one fails with e
abbrev pub FailsFrom : World → List Timed → ℕ → Errno → Type 0
FailsFrom w [] n e = ⊥
FailsFrom w (c ∷ cs) zero e = Fits w (Ask c.0 c.1) (Replied (Fault e))
FailsFrom w (c ∷ cs) (suc n) e = (r : Reply) × Succeeds r × Fits w (Ask c.0 c.1) (Replied r) × FailsFrom (next w (Ask c.0 c.1) (Replied r)) cs n e

-- the opening volume abstracts to one world, and from the world after the history the list fails at this call
pub record FailsAfter (o : PVolume) (h : List Entry) (list : List Timed) (f : FailedCall) : Type 0 where
  pub world : World
  pub opened : MeansOnly o world
  pub fails : FailsFrom (after world (calls h)) list f.number f.errno

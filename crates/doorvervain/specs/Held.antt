-- What the holder of a handle has.
use base.Fml.{Fml, fex, ftrue}
use denote.RattleType.{RattleType}
use denote.RawPtr.{Ptr, null_ptr}
use Rattle.std.specs.Prelude.{◌≡◌, Option, Some, None}
use Rattle.std.specs.Box.Ownership.{box_owns}
use Rattle.std.specs.Global.{Global}
use Rattle.std.specs.contracts.impls.GlobalAllocator.TheImpl.{ghosts}

-- a value x of the type R at the pointer p, and the right to free it
abbrev pub held_at : (R : RattleType) → Ptr → R.Denot → Fml
held_at R p x = fex Global (λ alloc. box_owns (ghosts.dealloc_token alloc) R p x)

-- the same if something was stored, and otherwise nothing
abbrev pub given_at : (R : RattleType) → Ptr → Option R.Denot → Fml
given_at R p None = ftrue
given_at R p (Some x) = held_at R p x

-- a place for a handle is closed: its pointer is null, and nothing was given
abbrev pub IsClosed : {X : Type 0} → Ptr → Option X → Type 0
IsClosed at given = (at ≡ null_ptr) × (given ≡ None)

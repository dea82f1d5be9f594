-- What a pending list says of the value at a key.
use Rattle.std.specs.Prelude.{◌≡◌, ℕ, false, List, Option, ⊤}
use Rattle.message.specs.declared.msg.Msg.{Msg}
use Rattle.message.specs.Effects.{any_touches, effects}
use Rattle.message.specs.declared.resolution.Resolution.{Resolution}
use Rattle.message.specs.declared.resolution.Resolution.TheVariants.{Untouched, Value, NeedsBase}

module _ {U V : Type 0} (means : U → Option V → Option V) where
  -- this may be said of the value at k: nothing only where no message touches k, a value only where the messages make
  -- it of every old value
  abbrev pub IsResolved : List (Msg U V) → List ℕ → Resolution V → Type 0
  IsResolved ms k Untouched = (any_touches ms k ≡ false) × ((o : Option V) → effects means ms k o ≡ o)
  IsResolved ms k (Value v) = (o : Option V) → effects means ms k o ≡ v
  IsResolved ms k NeedsBase = ⊤

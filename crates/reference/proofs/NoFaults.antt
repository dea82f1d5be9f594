-- What a list of faults says where none of them came.
use Rattle.std.proofs.Common.{◌≡◌, List, [], ◌∷◌, Bool, true, false, refl, Option, Some, None}
use Rattle.pathkey.specs.Outcomes.{when}
use Rattle.pathkey.specs.declared.errno.Errno.{Errno}
use Rattle.reference.specs.Tree.{Tree}
use Rattle.reference.specs.Calls.{Outcome, unless}
use Rattle.reference.specs.declared.reply.Reply.TheVariants.{Fault}

-- no fault of the list came
unfoldable pub NoFaults : List (Option Errno) → Type 0
NoFaults [] = Unit {0}
NoFaults (f ∷ fs) = (f ≡ None) × NoFaults fs

-- what holds of every refusal, and of the outcome where no fault came, holds of a table's outcome
pub unless_holds : (P : Outcome → Type 0) (t : Tree) (fs : List (Option Errno)) (o : Outcome) → ((e : Errno) → P (t, Fault e)) → (NoFaults fs → P o) → P (unless t fs o)
unfolding NoFaults
unless_holds P t [] o refused done = done tt
unless_holds P t (None ∷ fs) o refused done = unless_holds P t fs o refused (λ n. done (refl, n))
unless_holds P t (Some e ∷ fs) o refused done = refused e

pub when_none : (b : Bool) (e : Errno) → when b e ≡ None → b ≡ false
when_none true e h = absurd (cc)
when_none false e h = refl

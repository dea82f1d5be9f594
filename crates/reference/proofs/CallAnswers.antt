-- What a call's answer tells of the tree after it.
use Rattle.std.proofs.Common.{◌≡◌, ap}
use Rattle.reference.specs.Tree.{Tree}
use Rattle.reference.specs.Calls.{Outcome}
use Rattle.reference.specs.declared.reply.Reply.{Reply}
use Rattle.reference.specs.declared.reply.Reply.TheVariants.{Done, Fault}
use Rattle.pathkey.specs.declared.errno.Errno.{Errno}
use Rattle.reference.proofs.CallCases.{OfRefusals}

-- the outcome with the tree t' and the answer r gives X
abbrev pub Gives : Tree → Reply → Type 0 → Outcome → Type 0
Gives t' r X o = o ≡ (t', r) → X

-- a refusal gives anything, where the answer is none
pub not_refused : (t t' : Tree) (r : Reply) (X : Type 0) → ((e : Errno) → Fault e ≡ r → ⊥) → OfRefusals (Gives t' r X) t
not_refused t t' r X other e h = absurd (other e (ap (λ (o : Outcome). o.1) h))

-- a call that is done is no refusal
pub not_done : (t t' : Tree) (X : Type 0) → OfRefusals (Gives t' Done X) t
not_done t t' X = not_refused t t' Done X (λ e. (λ f. cc))

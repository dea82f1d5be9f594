-- What slots become when messages come to them.
use Rattle.std.specs.Prelude.{◌≡◌, ℕ, List, [], ◌∷◌, ◌++◌, Option, None, ⊤}
use Rattle.std.proofs.Common.{zero, suc}
use Rattle.std.specs.Option.{option_to_list}
use Rattle.message.specs.declared.msg.Msg.{Msg}
use Rattle.message.specs.Effects.{effects, Takes}
use Rattle.message.specs.Cuts.{cut_to, pieces}
use Rattle.node.specs.Pure.{PNode, inner, PSlots, none, more, PTree}
use Rattle.node.specs.Lawful.{next_lo}
use Rattle.node.specs.Meaning.{value}

module _ {U V : Type 0} where
  -- the parts of messages that each slot takes, cut at the pivots; hi is the end of the last slot
  abbrev pub batches_by_slot : Option (List ℕ) → List (Msg U V) → PSlots U V → List (List (Msg U V))
  batches_by_slot hi ms none = []
  batches_by_slot hi ms (more lo old n ss) = pieces lo (next_lo hi ss) ms ∷ batches_by_slot hi ms ss

  -- all messages for the slot with this number, and none for the others
  abbrev pub all_at : ℕ → List (Msg U V) → PSlots U V → List (List (Msg U V))
  all_at i ms none = []
  all_at zero ms (more lo old n ss) = ms ∷ batches_by_slot None [] ss
  all_at (suc i) ms (more lo old n ss) = [] ∷ all_at i ms ss

  -- the parts with what each slot takes of m put behind
  abbrev pub placed : Option (List ℕ) → Msg U V → PSlots U V → List (List (Msg U V)) → List (List (Msg U V))
  placed hi m none ps = ps
  placed hi m (more lo old n ss) [] = []
  placed hi m (more lo old n ss) (p ∷ ps) = (p ++ option_to_list (cut_to lo (next_lo hi ss) m)) ∷ placed hi m ss ps

module _ {U V : Type 0} (means : U → Option V → Option V) where
  -- each list takes its part; ranges and children stay
  abbrev pub HaveTaken : PSlots U V → List (List (Msg U V)) → PSlots U V → Type 0
  HaveTaken none ps none = ⊤
  HaveTaken (more lo old n ss) [] new = new ≡ more lo old n ss
  HaveTaken (more lo old n ss) (p ∷ ps) (more lo' new n' ss') = (lo' ≡ lo) × Takes means old p new × (n' ≡ n) × HaveTaken ss ps ss'
  HaveTaken _ _ _ = ⊥

  -- only the root's pending lists have changed: each slot's has taken the pieces of the messages that touch its range
  abbrev pub IsAppended : List (Msg U V) → PNode U V → PNode U V → Type 0
  IsAppended ms (inner ss) (inner new) = HaveTaken ss (batches_by_slot None ms ss) new
  IsAppended ms _ _ = ⊥

-- a tree after an append: its shape and its root's slots stay, but for what their lists have taken, and at each
-- key its value is that of before under the messages, the oldest first
pub record Appended {U V : Type 0} (means : U → Option V → Option V) (ms : List (Msg U V)) (old new : PTree U V) : Type 0 where
  pub shape_kept : new.shape ≡ old.shape
  pub slots : IsAppended means ms old.root new.root
  pub value_after : (k : List ℕ) → value means new.root k ≡ effects means ms k (value means old.root k)

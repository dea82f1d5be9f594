-- Which slot moves the most messages.
use Rattle.std.proofs.Common.{◌≡◌, ℕ, zero, suc, ◌<◌, ◌≤◌, Bool, true, false, List, [], ◌∷◌, length, refl, sym, ◌∙◌, subst, arith, Option, None}
use Rattle.std.specs.Prelude.{min, if◌then◌else◌}
use Rattle.message.specs.declared.msg.Msg.{Msg}
use Rattle.flush.specs.Sunk.{free_pieces}
use Rattle.node.specs.declared.node.Slot.{Slot}
use Rattle.node.specs.Grafts.{AtSlot}
use Rattle.node.specs.Lawful.{IsLawful, IsLawfulRoot, slot_count}
use Rattle.node.specs.Pure.{PNode, leaf, inner, PSlots, none, more, PTree}
use Rattle.node.specs.See.{seen_slots}
use Rattle.node.specs.Site.{slots_from}
use Rattle.node.proofs.Placing.{slot_count-slots}
use Rattle.node.proofs.Roots.{small_shape}
use Rattle.jobs.specs.declared.mark.Mark.{Mark}
use Rattle.jobs.specs.Heaviest.{IsFirstGreatest, IsHeaviest, movable_each, movable_in}
use Rattle.jobs.specs.Replies.{IsBacklog, Movable, can_take_first}

-- a number above 0 is not that of the other case
chosen : (b : Bool) (m n : ℕ) → (if b then m else 0) ≡ n → 0 < n → (b ≡ true) × (n ≡ m)
chosen true m n e some = (refl, sym e)
chosen false m n e some = absurd (omega (arith, e, some))

module _ {U V : Type 0} where
  -- whether a job can be taken of a slot depends on no slot after it
  alone : (ms : List Mark) (lo : List ℕ) (msgs : List (Msg U V)) (child : PNode U V) (ss : PSlots U V) → can_take_first ms (more lo msgs child none) ≡ can_take_first ms (more lo msgs child ss)
  alone ms lo [] child ss = refl
  alone ms lo (m ∷ msgs) (leaf es) ss = refl
  alone ms lo (m ∷ msgs) (inner cs) ss = refl

  -- the slot of which a job moves n messages
  backlog_first : (ms : List Mark) (most n i : ℕ) (hi : Option (List ℕ)) (ss : PSlots U V) → 0 < n → IsFirstGreatest i n (movable_each ms most ss) → (can_take_first ms (slots_from i ss) ≡ true) × AtSlot (Movable most n) i hi ss
  backlog_first ms most n i hi none some f = absurd f
  backlog_first ms most n zero hi (more lo msgs child ss) some f =
      let is = chosen (can_take_first ms (more lo msgs child none)) (min (length msgs) (free_pieces most child)) n f.0 some in
      (sym (alone ms lo msgs child ss) ∙ is.0, is.1)
  backlog_first ms most n (suc i) hi (more lo msgs child ss) some f = backlog_first ms most n i hi ss some f.1

  -- that of a root
  pub heaviest_in : (ms : List Mark) (most n i : ℕ) (xs : List (Slot U V)) (t : PTree U V) → inner (seen_slots xs) ≡ t.root → most ≡ t.shape.pending → 0 < n → IsFirstGreatest i n (movable_each ms most (seen_slots xs)) → IsHeaviest i n most ms t
  heaviest_in ms most n i xs t is room some f =
      let found = backlog_first ms most n i None (seen_slots xs) some f in
      let here : IsBacklog i n most ms (inner (seen_slots xs)) = record { there = found.0; some = some; waiting = found.1 } in
      record {
        backlog = subst (IsBacklog i n most ms) is here;
        room = room;
        first = subst (λ r. IsFirstGreatest i n (movable_in ms most r)) is f;
      }

  -- a root has at most 64 slots
  few_in : (t : PTree U V) (l : IsLawful t) (r : PNode U V) (ss : PSlots U V) → inner ss ≡ r → IsLawfulRoot t.shape r l.levels → slot_count ss ≤ 64
  few_in t l r ss is root =
      let here = subst (λ z. IsLawfulRoot t.shape z l.levels) (sym is) root in
      omega (arith, here.2, (small_shape t.shape l.shape).0)

  pub few_slots : (t : PTree U V) (xs : List (Slot U V)) → IsLawful t → inner (seen_slots xs) ≡ t.root → length xs ≤ 64
  few_slots t xs l is = omega (arith, slot_count-slots xs, few_in t l t.root (seen_slots xs) is l.root)

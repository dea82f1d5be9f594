-- What a step that is done says of its node, from what it has done to the slots that it names.
use Rattle.std.proofs.Common.{◌≡◌, ℕ, zero, suc, ◌+◌, ◌<◌, ◌≤◌, Bool, true, false, List, [], ◌∷◌, length, take, drop, refl, ap, ◌∙◌, arith, Option}
use Rattle.std.proofs.Math.ListN.{set}
use Rattle.std.specs.List.{insert}
use Rattle.node.specs.declared.node.Slot.{Slot}
use Rattle.node.specs.declared.shape.Shape.{Shape}
use Rattle.node.specs.declared.step.StepReply.TheVariants.{Did}
use Rattle.node.specs.declared.step.StepKind.{StepKind}
use Rattle.node.specs.See.{seen_slots}
use Rattle.node.specs.Pure.{PSlots, none, more}
use Rattle.node.specs.Lawful.{AreLawfulSlots, slot_count, pending, starts_at, next_lo}
use Rattle.node.specs.Site.{joined, slots_from}
use Rattle.node.specs.Sinks.{first_lo, Sinks}
use Rattle.node.specs.Steps.{applies, Formed, HasNoRoom, MayHaveRoom, Replies, width}
use Rattle.node.proofs.Splice.{IsMore, slot_count-joined, pending-joined, lawful-spliced, lawful-split}

module _ {U V : Type 0} where
  -- slots that begin alike start alike, also behind others
  starts-alike : (l : List ℕ) (b x y a : PSlots U V) → IsMore x → IsMore y → first_lo y ≡ first_lo x → starts_at l (joined b (joined x a)) → starts_at l (joined b (joined y a))
  starts-alike l (more lo ms n b) x y a p q e s = s
  starts-alike l none none y a p q e s = absurd p
  starts-alike l none (more lo ms n x) none a p q e s = absurd q
  starts-alike l none (more lo ms n x) (more lp mt o y) a p q e s = e ∙ s

  -- the slots `old`, which a step names, gave way to `new` between b and a
  pub replies_did : (means : U → Option V → Option V) (kind : StepKind) (shape : Shape) (root : Bool) (i n : ℕ) (b old new a : PSlots U V) → slot_count b ≡ i → slot_count old ≡ width kind → IsMore old → IsMore new → first_lo new ≡ first_lo old → (slot_count old + (slot_count b + slot_count a) ≤ shape.fanout → slot_count new + (slot_count b + slot_count a) ≤ shape.fanout) → (root ≡ false → pending old + (pending b + pending a) ≤ shape.pending → pending new + (pending b + pending a) ≤ shape.pending) → ((h : ℕ) (hi : Option (List ℕ)) → AreLawfulSlots shape old h (next_lo hi a) → applies kind hi (slots_from i (joined b (joined old a))) ≡ true → Sinks means n (next_lo hi a) old new × Formed means kind shape n old new × AreLawfulSlots shape new h (next_lo hi a)) → (MayHaveRoom means kind shape root i (joined b (joined old a)) → HasNoRoom means kind shape root i (joined b (joined old a)) → ⊥) → Replies means kind shape root i (Did n) (joined b (joined old a)) (joined b (joined new a))
  replies_did means kind shape root i n b old new a at_i wide p q first few light made fits h lo hi l able room =
      let inside : AreLawfulSlots shape old h (next_lo hi a) = (lawful-split shape h hi old a (lawful-split shape h hi b (joined old a) l.each).1).0 in
      let m = made h hi inside able in
      let count : slot_count old + (slot_count b + slot_count a) ≤ shape.fanout = omega (arith, l.few, slot_count-joined b (joined old a), slot_count-joined old a) in
      let wait : root ≡ false → pending old + (pending b + pending a) ≤ shape.pending = λ r. omega (arith, l.light r, pending-joined b (joined old a), pending-joined old a) in (
        record { before = b; old = old; new = new; after = a; was = refl; is = refl; number = at_i; width = wide; changed = (m.0, m.1) },
        record {
          above = l.above;
          few = omega (arith, few count, slot_count-joined b (joined new a), slot_count-joined new a);
          light = λ r. omega (arith, light r (wait r), pending-joined b (joined new a), pending-joined new a);
          starts = starts-alike lo b old new a p q first l.starts;
          each = lawful-spliced shape h hi b old new a p q first (λ z. (made h hi z able).2) l.each;
        },
        fits room,
      )

  -- the slots with one cut in place and what was cut off behind it
  pub slots-cut : (xs : List (Slot U V)) (i : ℕ) (l r : Slot U V) → i < length xs → seen_slots (insert (set xs i l) (suc i) r) ≡ joined (seen_slots (take i xs)) (more l.lo l.pending.0 l.child.value (more r.lo r.pending.0 r.child.value (seen_slots (drop (suc i) xs))))
  slots-cut [] i l r h = absurd (omega arith)
  slots-cut (x ∷ xs) zero l r h = refl
  slots-cut (x ∷ xs) (suc i) l r h = ap (more x.lo x.pending.0 x.child.value) (slots-cut xs i l r (omega arith))

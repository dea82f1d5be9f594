-- Slots in the place of others.
use Rattle.std.proofs.Common.{◌≡◌, ℕ, zero, suc, ◌+◌, ◌<◌, ◌≤◌, true, false, List, [], ◌∷◌, length, get_or, take, drop, refl, ap, sym, ◌∙◌, subst, arith, cond, Option, Some, pred}
use Rattle.std.proofs.Math.ListN.{set}
use Rattle.std.specs.Prelude.{◌&&◌, ⊤}
use Rattle.message.specs.declared.msg.Msg.{Msg}
use Rattle.node.specs.declared.node.Slot.{Slot}
use Rattle.node.specs.See.{seen_slots}
use Rattle.node.specs.Pure.{PNode, PSlots, none, more}
use Rattle.pathkey.specs.Keys.{is_below}
use Rattle.pathkey.proofs.KeyOrder.{reaches-from_before, before_from_not_reaches, le_le}
use Rattle.message.specs.Ranges.{reaches, within}
use Rattle.message.specs.Effects.{effects}
use Rattle.node.specs.declared.shape.Shape.{Shape}
use Rattle.node.specs.Meaning.{value, slots_value, begins_by}
use Rattle.node.specs.Lawful.{IsLawfulNode, AreLawfulSlots, TouchOnly, slot_count, pending, starts_at, next_lo}
use Rattle.node.specs.Site.{joined, slots_from}
use Rattle.node.specs.Sinks.{msgs_at, child_value, first_lo, Sinks}

module _ {U V : Type 0} where
  -- there is a slot
  abbrev pub IsMore : PSlots U V → Type 0
  IsMore none = ⊥
  IsMore (more lo ms n ss) = ⊤

  -- what begins somewhere is a slot
  pub starts-more : (l : List ℕ) (y : PSlots U V) → starts_at l y → IsMore y
  starts-more l none h = absurd h
  starts-more l (more lo ms n ss) h = tt

  -- and there begins the first
  pub starts-first : (l : List ℕ) (y : PSlots U V) → starts_at l y → first_lo y ≡ l
  starts-first l none h = absurd h
  starts-first l (more lo ms n ss) h = h

  -- what is counted is a slot
  pub counted-more : (y : PSlots U V) → 1 ≤ slot_count y → IsMore y
  counted-more none h = absurd (omega arith)
  counted-more (more lo ms n ss) h = tt

  -- slots end to end are counted together
  pub slot_count-joined : (x y : PSlots U V) → slot_count (joined x y) ≡ slot_count x + slot_count y
  slot_count-joined none y = omega arith
  slot_count-joined (more lo ms n ss) y = omega (arith, slot_count-joined ss y)

  -- and what waits in them
  pub pending-joined : (x y : PSlots U V) → pending (joined x y) ≡ pending x + pending y
  pending-joined none y = omega arith
  pending-joined (more lo ms n ss) y = omega (arith, pending-joined ss y)

  -- a slot with other messages and another child begins as before
  pub starts_at-joined : (l lo : List ℕ) (b : PSlots U V) (ms ns : List (Msg U V)) (c d : PNode U V) (x y : PSlots U V) → starts_at l (joined b (more lo ms c x)) → starts_at l (joined b (more lo ns d y))
  starts_at-joined l lo none ms ns c d x y h = h
  starts_at-joined l lo (more k o n b) ms ns c d x y h = h

  -- slots before others end where those begin
  pub next_lo-joined : (hi : Option (List ℕ)) (x y : PSlots U V) → next_lo hi (joined x y) ≡ next_lo (next_lo hi y) x
  next_lo-joined hi none y = refl
  next_lo-joined hi (more lo ms n ss) y = refl

  -- the slots from a number on are those behind so many
  pub slots_from-joined : (i : ℕ) (x y : PSlots U V) → slot_count x ≡ i → slots_from i (joined x y) ≡ y
  slots_from-joined zero none none e = refl
  slots_from-joined zero none (more lo ms n ss) e = refl
  slots_from-joined zero (more lo ms n ss) y e = absurd (omega arith)
  slots_from-joined (suc i) none y e = absurd (omega arith)
  slots_from-joined (suc i) (more lo ms n ss) y e = slots_from-joined i ss y (omega arith)

  -- the slots before a number, the one with it, and those behind
  pub slots-split : (xs : List (Slot U V)) (i : ℕ) (d : Slot U V) → i < length xs → seen_slots xs ≡ joined (seen_slots (take i xs)) (more (get_or xs i d).lo (get_or xs i d).pending.0 (get_or xs i d).child.value (seen_slots (drop (suc i) xs)))
  slots-split [] i d h = absurd (omega arith)
  slots-split (x ∷ xs) zero d h = refl
  slots-split (x ∷ xs) (suc i) d h = ap (more x.lo x.pending.0 x.child.value) (slots-split xs i d (omega arith))

  -- the same where another was put there
  pub slots-set_split : (xs : List (Slot U V)) (i : ℕ) (s : Slot U V) → i < length xs → seen_slots (set xs i s) ≡ joined (seen_slots (take i xs)) (more s.lo s.pending.0 s.child.value (seen_slots (drop (suc i) xs)))
  slots-set_split [] i s h = absurd (omega arith)
  slots-set_split (x ∷ xs) zero s h = refl
  slots-set_split (x ∷ xs) (suc i) s h = ap (more x.lo x.pending.0 x.child.value) (slots-set_split xs i s (omega arith))

  -- there are so many before it
  pub slot_count-take : (xs : List (Slot U V)) (i : ℕ) → i ≤ length xs → slot_count (seen_slots (take i xs)) ≡ i
  slot_count-take [] zero h = refl
  slot_count-take [] (suc i) h = absurd (omega arith)
  slot_count-take (x ∷ xs) zero h = refl
  slot_count-take (x ∷ xs) (suc i) h = omega (arith, slot_count-take xs i (omega arith))

  -- past the last slot there is none
  pub slots_from-past : (xs : List (Slot U V)) (i : ℕ) → length xs ≤ i → slots_from i (seen_slots xs) ≡ none
  slots_from-past [] i h = refl
  slots_from-past (x ∷ xs) zero h = absurd (omega arith)
  slots_from-past (x ∷ xs) (suc i) h = slots_from-past xs i (omega arith)

  -- the first of slots before others is the first of all
  pub first_lo-joined : (x a : PSlots U V) → IsMore x → first_lo (joined x a) ≡ first_lo x
  first_lo-joined none a p = absurd p
  first_lo-joined (more lo ms n ss) a p = refl

  -- where slots begin by a key, the first does
  pub first_reached : (z : PSlots U V) (k : List ℕ) → begins_by z k ≡ true → reaches (first_lo z) k ≡ true
  first_reached none k e = (cc)
  first_reached (more lo ms n ss) k e = e

  module _ (S : Shape) (h : ℕ) where
    -- lawful slots are lawful before and behind any place
    pub lawful-split : (hi : Option (List ℕ)) (x y : PSlots U V) → AreLawfulSlots S (joined x y) h hi → AreLawfulSlots S x h (next_lo hi y) × AreLawfulSlots S y h hi
    lawful-split hi none y l = (tt, l)
    lawful-split hi (more lo ms n ss) y l =
        let e = next_lo-joined hi ss y in
        let r = lawful-split hi ss y l.3 in
        ((subst (λ z. is_below lo z ≡ true) e l.0, subst (λ z. TouchOnly lo z ms) e l.1, subst (λ z. IsLawfulNode S n (pred h) lo z) e l.2, r.0), r.1)

    -- and the other way round
    pub lawful-join : (hi : Option (List ℕ)) (x y : PSlots U V) → AreLawfulSlots S x h (next_lo hi y) → AreLawfulSlots S y h hi → AreLawfulSlots S (joined x y) h hi
    lawful-join hi none y l m = m
    lawful-join hi (more lo ms n ss) y l m =
        let e = sym (next_lo-joined hi ss y) in
        (subst (λ z. is_below lo z ≡ true) e l.0, subst (λ z. TouchOnly lo z ms) e l.1, subst (λ z. IsLawfulNode S n (pred h) lo z) e l.2, lawful-join hi ss y l.3 m)

    -- slots that begin alike end what stands before them alike
    same_end : (e : Option (List ℕ)) (x y : PSlots U V) → IsMore x → IsMore y → first_lo y ≡ first_lo x → next_lo e y ≡ next_lo e x
    same_end e none y p q s = absurd p
    same_end e (more lo ms n ss) none p q s = absurd q
    same_end e (more lo ms n ss) (more lp mt o rs) p q s = ap Some s

    -- lawful slots in the place of lawful ones that begin alike
    pub lawful-spliced : (hi : Option (List ℕ)) (b x y a : PSlots U V) → IsMore x → IsMore y → first_lo y ≡ first_lo x → (AreLawfulSlots S x h (next_lo hi a) → AreLawfulSlots S y h (next_lo hi a)) → AreLawfulSlots S (joined b (joined x a)) h hi → AreLawfulSlots S (joined b (joined y a)) h hi
    lawful-spliced hi b x y a p q s f l =
        let r = lawful-split hi b (joined x a) l in
        let t = lawful-split hi x a r.1 in
        let e = next_lo-joined hi x a ∙ sym (same_end (next_lo hi a) x y p q s) ∙ sym (next_lo-joined hi y a) in
        lawful-join hi b (joined y a) (subst (λ z. AreLawfulSlots S b h z) e r.0) (lawful-join hi y a (f t.0) t.1)

    -- what stands behind lawful slots begins behind them
    reaches_rest : (hi : Option (List ℕ)) (lo : List ℕ) (ms : List (Msg U V)) (n : PNode U V) (x a : PSlots U V) (k : List ℕ) → AreLawfulSlots S (more lo ms n (joined x a)) h hi → begins_by a k ≡ true → reaches lo k ≡ true
    reaches_rest hi lo ms n none none k l e = (cc)
    reaches_rest hi lo ms n none (more lp mt o a) k l e = le_le lo lp k (reaches-from_before lo lp l.0) e
    reaches_rest hi lo ms n (more lp mt o x) a k l e = le_le lo lp k (reaches-from_before lo lp l.0) (reaches_rest hi lp mt o x a k l.3 e)

    module _ (means : U → Option V → Option V) where
      -- the value in slots, and others behind them
      pub slots_value-joined : (hi : Option (List ℕ)) (x a : PSlots U V) (k : List ℕ) → IsMore x → AreLawfulSlots S (joined x a) h hi → slots_value means (joined x a) k ≡ cond (begins_by a k) (slots_value means a k) (slots_value means x k)
      slots_value-joined hi none a k p l = absurd p
      slots_value-joined hi (more lo ms n none) a k p l = refl
      slots_value-joined hi (more lo ms n (more lp mt o x)) a k p l =
          let v = effects means ms k (value means n k) in
          let ih = slots_value-joined hi (more lp mt o x) a k tt l.3 in
          ap (λ z. cond (reaches lp k) z v) ih ∙ (elim (begins_by a k) as (λ c. begins_by a k ≡ c → cond (reaches lp k) (cond c (slots_value means a k) (slots_value means (more lp mt o x) k)) v ≡ cond c (slots_value means a k) (cond (reaches lp k) (slots_value means (more lp mt o x) k) v)) [
            | true ↦ λ e. ap (λ c. cond c (slots_value means a k) v) (reaches_rest hi lp mt o x a k l.3 e)
            | false ↦ λ e. refl
          ]) refl

  module _ (means : U → Option V → Option V) where
    -- the value at a key is what the messages of its slot make of its child's
    pub slots_value_parts : (ss : PSlots U V) (k : List ℕ) → slots_value means ss k ≡ effects means (msgs_at ss k) k (child_value means ss k)
    slots_value_parts none k = refl
    slots_value_parts (more lo ms n ss) k =
        elim (begins_by ss k) as (λ c. cond c (slots_value means ss k) (effects means ms k (value means n k)) ≡ effects means (cond c (msgs_at ss k) ms) k (cond c (child_value means ss k) (value means n k))) [ true ↦ slots_value_parts ss k | false ↦ refl ]

    -- the oldest messages and then the others mean all
    pub effects-take_drop : (n : ℕ) (ms : List (Msg U V)) (k : List ℕ) (v : Option V) → effects means (drop n ms) k (effects means (take n ms) k v) ≡ effects means ms k v
    effects-take_drop zero ms k v = refl
    effects-take_drop (suc n) [] k v = refl
    effects-take_drop (suc n) (m ∷ ms) k v = effects-take_drop n ms k _

    -- messages that sink keep the value at each key of their range
    pub value-sinks : (n : ℕ) (e : Option (List ℕ)) (x y : PSlots U V) → Sinks means n e x y → (k : List ℕ) → within (first_lo x) e k ≡ true → slots_value means y k ≡ slots_value means x k
    value-sinks n e x y s k w =
        slots_value_parts y k ∙ ap (effects means (msgs_at y k) k) (s.below k w) ∙ s.above k _ w ∙ effects-take_drop n (msgs_at x k) k (child_value means x k) ∙ sym (slots_value_parts x k)

    -- slots that begin by the same keys do so behind others too
    begins_by-joined : (b x y : PSlots U V) (k : List ℕ) → begins_by y k ≡ begins_by x k → begins_by (joined b y) k ≡ begins_by (joined b x) k
    begins_by-joined none x y k e = e
    begins_by-joined (more lo ms n b) x y k e = refl

    -- slots before others begin where their first does
    begins_by-joined_first : (x a : PSlots U V) (k : List ℕ) → IsMore x → begins_by (joined x a) k ≡ reaches (first_lo x) k
    begins_by-joined_first none a k p = absurd p
    begins_by-joined_first (more lo ms n ss) a k p = refl

    -- a key before later slots lies before their beginning
    pub ends_before : (hi : Option (List ℕ)) (a : PSlots U V) (k : List ℕ) → begins_by a k ≡ false → is_below k hi ≡ true → is_below k (next_lo hi a) ≡ true
    ends_before hi none k e h = h
    ends_before hi (more lo ms n a) k e h = before_from_not_reaches lo k e

    module _ (S : Shape) (h : ℕ) (n : ℕ) (hi : Option (List ℕ)) (x y a : PSlots U V) (p : IsMore x) (q : IsMore y) (s : Sinks means n (next_lo hi a) x y) where
      -- the value where the slots give way to others
      here : (k : List ℕ) → AreLawfulSlots S (joined x a) h hi → AreLawfulSlots S (joined y a) h hi → reaches (first_lo x) k ≡ true → is_below k hi ≡ true → slots_value means (joined y a) k ≡ slots_value means (joined x a) k
      here k l m r t =
          slots_value-joined S h means hi y a k q m ∙ (elim (begins_by a k) as (λ c. begins_by a k ≡ c → cond c (slots_value means a k) (slots_value means y k) ≡ cond c (slots_value means a k) (slots_value means x k)) [
            | true ↦ λ e. refl
            | false ↦ λ e. value-sinks n (next_lo hi a) x y s k (ap (λ z. z && is_below k (next_lo hi a)) r ∙ ends_before hi a k e t)
          ]) refl ∙ sym (slots_value-joined S h means hi x a k p l)

      -- slots in which messages sank, in the place of others, keep the value at every key
      pub value-spliced : (b : PSlots U V) (k : List ℕ) → AreLawfulSlots S (joined b (joined x a)) h hi → AreLawfulSlots S (joined b (joined y a)) h hi → reaches (first_lo (joined b (joined x a))) k ≡ true → is_below k hi ≡ true → slots_value means (joined b (joined y a)) k ≡ slots_value means (joined b (joined x a)) k
      value-spliced none k l m r t = here k l m (ap (λ z. reaches z k) (sym (first_lo-joined x a p)) ∙ r) t
      value-spliced (more lo ms n b) k l m r t =
          let old = joined b (joined x a) in
          let new = joined b (joined y a) in
          let v = effects means ms k (value means n k) in
          let same : begins_by new k ≡ begins_by old k = begins_by-joined b (joined x a) (joined y a) k (begins_by-joined_first y a k q ∙ ap (λ l. reaches l k) (starts-first (first_lo x) y s.starts) ∙ sym (begins_by-joined_first x a k p)) in
          ap (λ c. cond c (slots_value means new k) v) same ∙ (elim (begins_by old k) as (λ c. begins_by old k ≡ c → cond c (slots_value means new k) v ≡ cond c (slots_value means old k) v) [
            | true ↦ λ e. value-spliced b k l.3 m.3 (first_reached (joined b (joined x a)) k e) t
            | false ↦ λ e. refl
          ]) refl

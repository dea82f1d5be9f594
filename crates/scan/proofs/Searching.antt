-- A search of an inner node, stretch by stretch.
use Rattle.std.proofs.Common.{◌≡◌, ℕ, ◌<◌, ◌⊎◌, ⊎_elim, true, List, [], ◌∷◌, length, get_or, refl, ap, sym, ◌∙◌, subst, Option, Some, None, arith}
use Rattle.std.specs.Prelude.{Contains, IfSome}
use Rattle.pathkey.specs.Keys.{is_below}
use Rattle.pathkey.proofs.KeyOrder.{le_le, reaches-from_before}
use Rattle.message.specs.Ranges.{reaches, within, earlier_end}
use Rattle.message.proofs.KeyOrder.{both}
use Rattle.node.specs.declared.node.Slot.{Slot}
use Rattle.node.specs.See.{seen_slots}
use Rattle.node.specs.Pure.{PNode, inner, depth}
use Rattle.node.specs.Searchable.{IsSearchable}
use Rattle.node.proofs.Placing.{searchable_child, depth_child}
use Rattle.node.specs.Meaning.{slot_number, value}
use Rattle.node.specs.Site.{end_of}
use Rattle.scan.specs.Pairs.{HasNone, IsFirst, AddsScan}
use Rattle.message.specs.Stretches.{all_ends}
use Rattle.scan.specs.Stretches.{slot_value}
use Rattle.message.proofs.NextKey.{in_range}
use Rattle.scan.proofs.Firsts.{none_start, none_join, first_join, first_along}
use Rattle.scan.proofs.Joins.{HasWalked, walk_on, walk_end, adds_moved}
use Rattle.message.proofs.StretchEnds.{below_both, below_earlier}
use Rattle.scan.proofs.Ahead.{ahead, ahead_falls, search_ends, range_end_is, slot_end_is, message_end, pivot_end, earlier_is}
use Rattle.scan.proofs.SlotRange.{number_inside, value_in_slot}

module _ {U V : Type 0} (means : U → Option V → Option V) where
  -- nothing is found from lo up to `from`, the position of a search
  pub record HasPassed (n : PNode U V) (lo from : List ℕ) : Type 0 where
    pub reached : reaches lo from ≡ true
    pub none : HasNone (value means n) lo (Some from)

  -- the start of a search
  pub at_start : (n : PNode U V) (lo from : List ℕ) → from ≡ lo → reaches lo lo ≡ true → HasPassed n lo from
  at_start n lo from e r = subst (λ (k : List ℕ). HasPassed n lo k) (sym e) (record { reached = r; none = none_start (value means n) lo })

  -- the search is at `from` in slot i, which is s, and its segment ends at `stop`
  pub record IsAt (items : List (Slot U V)) (n : PNode U V) (hi : Option (List ℕ)) (from : List ℕ) (i : ℕ) (s : Slot U V) (stop : Option (List ℕ)) : Type 0 where
    pub seen : inner (seen_slots items) ≡ n
    pub bound : i < length items
    pub number : i ≡ slot_number (seen_slots items) from
    pub slot : s ≡ get_or items i s
    pub after : is_below from stop ≡ true
    pub inside : (k : List ℕ) → is_below k stop ≡ true → is_below k (earlier_end hi (end_of None (seen_slots items) i)) ≡ true
    pub an_end : IfSome stop (λ d. (earlier_end hi (end_of None (seen_slots items) i) ≡ Some d) ⊎ Contains (all_ends s.pending.0) d)

  -- the same in terms of the code: xs and ys are the slots, and `end` is the end of the slot, or of the range
  pub stands_at : {items xs ys : List (Slot U V)} {n : PNode U V} {hi : Option (List ℕ)} {from : List ℕ} {i : ℕ} {s : Slot U V} {end : Option (List ℕ)} (stop : Option (List ℕ))
      → xs ≡ items → ys ≡ items → inner (seen_slots items) ≡ n → i < length xs → i ≡ slot_number (seen_slots xs) from → s ≡ get_or items i s → end ≡ earlier_end hi (end_of None (seen_slots ys) i)
      → is_below from stop ≡ true → ((k : List ℕ) → is_below k stop ≡ true → is_below k end ≡ true) → IfSome stop (λ d. (end ≡ Some d) ⊎ Contains (all_ends s.pending.0) d) → IsAt items n hi from i s stop
  stands_at {items} {xs} {ys} {n} {hi} {from} {i} {s} {end} stop ex ey seen b number slot ee after inside an_end =
      let same : end ≡ earlier_end hi (end_of None (seen_slots items) i) = ee ∙ ap (λ (zs : List (Slot U V)). earlier_end hi (end_of None (seen_slots zs) i)) ey in
      record {
        seen = seen;
        bound = subst (λ (zs : List (Slot U V)). i < length zs) ex b;
        number = number ∙ ap (λ (zs : List (Slot U V)). slot_number (seen_slots zs) from) ex;
        slot = slot;
        after = after;
        inside = subst (λ e. (k : List ℕ) → is_below k stop ≡ true → is_below k e ≡ true) same inside;
        an_end = subst (λ e. IfSome stop (λ d. (e ≡ Some d) ⊎ Contains (all_ends s.pending.0) d)) same an_end;
      }

  -- a key before the end is before the end of its slot
  pub from_below : {items xs ys : List (Slot U V)} (hi : Option (List ℕ)) (from : List ℕ) {i : ℕ} {end : Option (List ℕ)} → xs ≡ items → ys ≡ items → i ≡ slot_number (seen_slots xs) from → is_below from hi ≡ true → end ≡ earlier_end hi (end_of None (seen_slots ys) i) → is_below from end ≡ true
  from_below {items} {xs} {ys} hi from {i} {end} ex ey number h ee =
      let e : i ≡ slot_number (seen_slots items) from = number ∙ ap (λ (zs : List (Slot U V)). slot_number (seen_slots zs) from) ex in
      ap (is_below from) (ee ∙ ap (λ (zs : List (Slot U V)). earlier_end hi (end_of None (seen_slots zs) i)) ey) ∙ below_earlier hi (end_of None (seen_slots items) i) from h (subst (λ j. is_below from (end_of None (seen_slots items) j) ≡ true) (sym e) (number_inside (seen_slots items) from))

  module _ {items : List (Slot U V)} {n : PNode U V} {hi : Option (List ℕ)} {from : List ℕ} {i : ℕ} {s : Slot U V} {stop : Option (List ℕ)} (x : IsAt items n hi from i s stop) where
    -- the child of the slot can be searched
    pub child_searchable : IsSearchable n → IsSearchable s.child.value
    child_searchable h =
        let all : IsSearchable (inner (seen_slots items)) = subst (λ (m : PNode U V). IsSearchable m) (sym x.seen) h in
        subst (λ (z : Slot U V). IsSearchable z.child.value) (sym x.slot) (searchable_child items i s x.bound all.1)

    -- and is lower than the node
    pub child_lower : depth s.child.value < depth n
    child_lower = subst (λ (m : PNode U V). depth s.child.value < depth m) x.seen (subst (λ (z : Slot U V). depth z.child.value < depth (inner (seen_slots items))) (sym x.slot) (depth_child items i s x.bound))

    pub below_ends : (k : List ℕ) → is_below k stop ≡ true → (is_below k hi ≡ true) × (is_below k (end_of None (seen_slots items) i) ≡ true)
    below_ends k h = below_both hi (end_of None (seen_slots items) i) k (x.inside k h)

    -- the node's value on the stretch is the slot's
    pub value_there : (k : List ℕ) → within from stop k ≡ true → value means n k ≡ slot_value means s k
    value_there k w =
        let p = both (reaches from k) (is_below k stop) w in
        ap (λ (m : PNode U V). value means m k) (sym x.seen) ∙ value_in_slot means items i s from k (let b = x.bound in omega (arith, b)) x.number x.slot p.0 (below_ends k p.1).1

    -- and so is the first pair
    first_of_node : (r : Option (List ℕ × V)) → IsFirst (slot_value means s) from stop r → IsFirst (value means n) from stop r
    first_of_node r h = first_along (value means n) (slot_value means s) from stop r value_there h

    -- it has a pair there
    pub found : (lo : List ℕ) → HasPassed n lo from → (p : List ℕ × V) → IsFirst (slot_value means s) from stop (Some p) → IsFirst (value means n) lo hi (Some p)
    found lo passed p h = first_join (value means n) lo from hi stop p passed.none passed.reached (λ k b. (below_ends k b).0) (first_of_node (Some p) h)

    -- it has none, and the stretch has no end
    pub no_more : (lo : List ℕ) → HasPassed n lo from → stop ≡ None → IsFirst (slot_value means s) from stop None → HasNone (value means n) lo hi
    no_more lo passed e h k w =
        let p = both (reaches lo k) (is_below k hi) w in
        none_join (value means n) lo from None passed.none (subst (λ o. HasNone (value means n) from o) e (first_of_node None h)) k (in_range lo k None p.0 refl)

    -- it has none, and the search continues at the end of the segment
    pub goes_on : (lo : List ℕ) → HasPassed n lo from → (next : List ℕ) → stop ≡ Some next → IsFirst (slot_value means s) from stop None → HasPassed n lo next
    goes_on lo passed next e h =
        let after : is_below from (Some next) ≡ true = subst (λ o. is_below from o ≡ true) e x.after in
        record {
          reached = le_le lo from next passed.reached (reaches-from_before from next after);
          none = none_join (value means n) lo from (Some next) passed.none (subst (λ o. HasNone (value means n) from o) e (first_of_node None h));
        }

    -- a walk of the slot is one of the node, and continues at the end of the segment
    pub walked_on : (lo : List ℕ) (limit : ℕ) (old new newer : List (List ℕ × V)) → HasWalked (value means n) lo hi limit from old new → AddsScan (slot_value means s) from stop limit new newer → (next : List ℕ) → stop ≡ Some next → HasWalked (value means n) lo hi limit next old newer
    walked_on lo limit old new newer walked a next e =
        let after : is_below from (Some next) ≡ true = subst (λ o. is_below from o ≡ true) e x.after in
        walk_on (value means n) lo hi limit from old new walked next newer (reaches-from_before from next after)
        (λ k w. (below_ends k (subst (λ o. is_below k o ≡ true) (sym e) (both (reaches from k) (is_below k (Some next)) w).1)).0)
        (subst (λ o. AddsScan (value means n) from o limit new newer) e (adds_moved (value means n) (slot_value means s) from stop stop limit new newer (λ k w. w) (λ k w. w) value_there a))

    -- or is the rest of the range, if the segment has no end
    pub walked_out : (lo : List ℕ) (limit : ℕ) (old new newer : List (List ℕ × V)) → HasWalked (value means n) lo hi limit from old new → AddsScan (slot_value means s) from stop limit new newer → stop ≡ None → AddsScan (value means n) lo hi limit old newer
    walked_out lo limit old new newer walked a e =
        walk_end (value means n) lo hi limit from old new walked newer (adds_moved (value means n) (slot_value means s) from stop hi limit new newer
        (λ k w. let q = both (reaches from k) (is_below k stop) w in in_range from k hi q.0 (below_ends k q.1).0)
        (λ k w. in_range from k stop (both (reaches from k) (is_below k hi) w).0 (ap (is_below k) e))
        value_there a)

    -- with fewer ends ahead
    pub fewer_ahead : (next : List ℕ) → stop ≡ Some next → ahead next (search_ends hi items) < ahead from (search_ends hi items)
    fewer_ahead next e =
        let after : is_below from (Some next) ≡ true = subst (λ o. is_below from o ≡ true) e x.after in
        let one : (earlier_end hi (end_of None (seen_slots items) i) ≡ Some next) ⊎ Contains (all_ends s.pending.0) next = subst (λ o. IfSome o (λ d. (earlier_end hi (end_of None (seen_slots items) i) ≡ Some d) ⊎ Contains (all_ends s.pending.0) d)) e x.an_end in
        ahead_falls from next (search_ends hi items) after (⊎_elim
        (λ t. ⊎_elim (λ h. range_end_is hi items next h) (λ p. slot_end_is hi items next (pivot_end items i next p)) (earlier_is hi (end_of None (seen_slots items) i) next t))
        (λ t. slot_end_is hi items next (message_end items i s next x.bound (subst (λ (z : Slot U V). Contains (all_ends z.pending.0) next) x.slot t)))
        one)

  -- a node without slots has no value
  pub no_slots : (items : List (Slot U V)) (n : PNode U V) (lo : List ℕ) (hi : Option (List ℕ)) → length items ≡ 0 → inner (seen_slots items) ≡ n → HasNone (value means n) lo hi
  no_slots [] n lo hi e seen k h = ap (λ (m : PNode U V). value means m k) (sym seen)
  no_slots (s ∷ ss) n lo hi e seen k h = absurd (omega (arith, e))

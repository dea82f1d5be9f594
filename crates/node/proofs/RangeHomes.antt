-- A range-delete whose keys all lie in one slot goes there as it is.
use Rattle.std.proofs.Common.{◌≡◌, ℕ, ◌+◌, ◌++◌, Bool, true, false, List, [], ◌∷◌, refl, ap, sym, ◌∙◌, subst, Option, Some, None, cond, add-one}
use Rattle.std.specs.Prelude.{◌&&◌}
use Rattle.std.specs.Option.{option_to_list}
use Rattle.std.proofs.lemmas.Bool.{and_right, false_from_ne_true}
use Rattle.pathkey.specs.Keys.{is_below}
use Rattle.pathkey.specs.declared.range.KeyRange.{KeyRange}
use Rattle.pathkey.proofs.KeyOrder.{reaches-refl, reaches-from_before, reaches-from_not_before, not_before_from_reaches, before_from_not_reaches, le_le, le_lt}
use Rattle.message.specs.declared.msg.Msg.{Msg}
use Rattle.message.specs.declared.msg.Msg.TheVariants.{DelRange}
use Rattle.message.specs.Cuts.{cut_range, cut_to}
use Rattle.message.specs.Ranges.{reaches, before, later_key, earlier_end, ends_within}
use Rattle.message.proofs.RangeEnds.{later_same, later_pivot, first_end}
use Rattle.message.proofs.KeyOrder.{cut_within, below_next}
use Rattle.node.specs.declared.node.Slot.{Slot}
use Rattle.node.specs.Appended.{batches_by_slot, all_at}
use Rattle.node.specs.Homes.{IsHome}
use Rattle.node.specs.Meaning.{begins_by, slot_number}
use Rattle.node.specs.Pure.{PNode, PSlots, inner, none, more}
use Rattle.node.specs.Searchable.{AreRising, IsRoot}
use Rattle.node.specs.See.{seen_slots}
use Rattle.node.specs.Site.{end_of}
use Rattle.node.proofs.Wholes.{root_holds}

-- ---- ends and beginnings

-- an end that stands at or before a key does not stand behind it
not_past : (h : Option (List ℕ)) (p : List ℕ) → ends_within h (Some p) ≡ true → is_below p h ≡ false
not_past None p e = absurd (cc)
not_past (Some h) p e = not_before_from_reaches h p e

-- nor does an earlier one
not_past_earlier : (hi b : Option (List ℕ)) (k : List ℕ) → is_below k b ≡ false → is_below k (earlier_end hi b) ≡ false
not_past_earlier None b k h = h
not_past_earlier (Some e) None k h = absurd (cc)
not_past_earlier (Some e) (Some b) k h = elim (before e b) as (λ c. before e b ≡ c → before k (cond c e b) ≡ false) [
  | true ↦ λ f. false_from_ne_true (before k e) (λ y. let g : before k b ≡ true = le_lt k e b (reaches-from_before k e y) f in (cc))
  | false ↦ λ f. h
] refl

later_by : (c : Bool) (lo a : List ℕ) → before lo a ≡ c → reaches a (cond c a lo) ≡ true
later_by true lo a e = reaches-refl a
later_by false lo a e = reaches-from_not_before lo a e

-- the later of two keys stands at or after the second
from_second : (lo a : List ℕ) → reaches a (later_key lo a) ≡ true
from_second lo a = later_by (before lo a) lo a refl

-- ---- the part in each slot

module _ {U V : Type 0} where
  no_keys : (lo : List ℕ) (hi : Option (List ℕ)) (r : KeyRange) → is_below (later_key lo r.lo) (earlier_end hi r.hi) ≡ false → cut_to {U = U} {V = V} lo hi (DelRange r) ≡ None
  no_keys lo hi r h = ap (λ c. cond c (Some (DelRange (record { lo = later_key lo r.lo; hi = earlier_end hi r.hi }))) None) h

  -- a slot that ends before the range begins
  before_range : (lo p : List ℕ) (r : KeyRange) → reaches p r.lo ≡ true → cut_to {U = U} {V = V} lo (Some p) (DelRange r) ≡ None
  before_range lo p r h =
      let l = later_key lo r.lo in
      let e = earlier_end (Some p) r.hi in
      let late : before l p ≡ false = not_before_from_reaches p l (le_le p r.lo l h (from_second lo r.lo)) in
      no_keys lo (Some p) r (ap (λ c. c && is_below l e) (sym (reaches-refl l)) ∙ cut_within lo r.lo (Some p) r.hi l (and_right (reaches lo l) (before l p) late))

  -- a slot that begins where the range ends, or behind
  behind_range : (lo : List ℕ) (hi : Option (List ℕ)) (r : KeyRange) → before r.lo lo ≡ true → is_below lo r.hi ≡ false → cut_to {U = U} {V = V} lo hi (DelRange r) ≡ None
  behind_range lo hi r b h = no_keys lo hi r (ap (λ k. is_below k (earlier_end hi r.hi)) (later_pivot lo r.lo b) ∙ not_past_earlier hi r.hi lo h)

  -- the slot that holds its keys
  around_range : (lo : List ℕ) (hi : Option (List ℕ)) (r : KeyRange) → reaches lo r.lo ≡ true → ends_within r.hi hi ≡ true → is_below r.lo r.hi ≡ true → cut_to {U = U} {V = V} lo hi (DelRange r) ≡ Some (DelRange r)
  around_range lo hi r a b s =
      ap (λ k. cut_range {U = U} {V = V} k (earlier_end hi r.hi)) (later_same lo r.lo a)
      ∙ ap (λ h. cut_range {U = U} {V = V} r.lo h) (first_end r.hi hi b)
      ∙ ap (λ c. cond c (Some (DelRange r)) None) s

  -- ---- all slots

  none_behind : (r : KeyRange) (lo : List ℕ) (old : List (Msg U V)) (n : PNode U V) (ss : PSlots U V) → before r.lo lo ≡ true → is_below lo r.hi ≡ false → AreRising (more lo old n ss) → batches_by_slot None (DelRange r ∷ []) (more lo old n ss) ≡ batches_by_slot None [] (more lo old n ss)
  none_behind r lo old n none b h rising = ap (λ o. (option_to_list o ++ []) ∷ []) (behind_range lo None r b h)
  none_behind r lo old n (more lp o k ss) b h rising =
      let here = behind_range lo (Some lp) r b h in
      let later = none_behind r lp o k ss (le_lt r.lo lo lp (reaches-from_before r.lo lo b) rising.0) (false_from_ne_true (is_below lp r.hi) (λ y. let g : is_below lo r.hi ≡ true = below_next lo lp r.hi rising.0 y in (cc))) rising.1 in
      λ i. (option_to_list (here i) ++ []) ∷ later i

  range_at : (r : KeyRange) (ss : PSlots U V) → AreRising ss → begins_by ss r.lo ≡ true → is_below r.lo r.hi ≡ true → ends_within r.hi (end_of None ss (slot_number ss r.lo)) ≡ true → all_at (slot_number ss r.lo) (DelRange r ∷ []) ss ≡ batches_by_slot None (DelRange r ∷ []) ss
  range_at r none rising b s w = absurd (cc)
  range_at r (more lo old n none) rising b s w = ap (λ o. (option_to_list o ++ []) ∷ []) (sym (around_range lo None r b w s))
  range_at r (more lo old n (more lp o k ss)) rising b s w =
      let m = DelRange r in
      let rest = more lp o k ss in
      let all = more lo old n rest in
      let number = slot_number rest r.lo in
      (elim (reaches lp r.lo) as (λ c. reaches lp r.lo ≡ c → ends_within r.hi (end_of None all (cond c (number + 1) 0)) ≡ true → all_at (cond c (number + 1) 0) (m ∷ []) all ≡ batches_by_slot None (m ∷ []) all) [
        | true ↦ λ f v.
            let here = before_range lo lp r f in
            let later = range_at r (more lp o k ss) rising.1 f s (subst (λ j. ends_within r.hi (end_of None all j) ≡ true) (add-one number) v) in
            ap (λ j. all_at j (m ∷ []) all) (add-one number) ∙ (λ i. (option_to_list (sym here i) ++ []) ∷ later i)
        | false ↦ λ f v.
            let here = around_range lo (Some lp) r b v s in
            let later = none_behind r lp o k ss (before_from_not_reaches lp r.lo f) (not_past r.hi lp v) rising.1 in
            λ i. (option_to_list (sym here i) ++ []) ∷ sym later i
      ]) refl w

  -- in the words of the code
  pub range_home : (r : KeyRange) (xs : List (Slot U V)) (i : ℕ) → IsRoot (inner (seen_slots xs)) → i ≡ slot_number (seen_slots xs) r.lo → is_below r.lo r.hi ≡ true → ends_within r.hi (end_of None (seen_slots xs) i) ≡ true → IsHome i (DelRange r) (seen_slots xs)
  range_home r xs i root h s w =
      subst (λ j. IsHome j (DelRange r) (seen_slots xs)) (sym h) (range_at r (seen_slots xs) root.1 (root_holds (seen_slots xs) r.lo root.0) s (subst (λ j. ends_within r.hi (end_of None (seen_slots xs) j) ≡ true) h w))

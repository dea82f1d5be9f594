-- The place of a key among entries that rise.
use Rattle.std.proofs.Common.{◌≡◌, ℕ, zero, suc, ◌<◌, ◌≤◌, Bool, true, false, List, [], ◌∷◌, length, get_or, refl, ap, sym, ◌∙◌, subst, Option, Some, None, cond, arith}
use Rattle.std.specs.List.Sorted.{IsPartitionedBy, IsPartitionPoint}
use Rattle.std.proofs.lemmas.List.{get_or_default}
use Rattle.pathkey.specs.Order.{same}
use Rattle.pathkey.proofs.OrderFacts.{same_true, same_from_eq}
use Rattle.pathkey.proofs.KeyOrder.{le_lt, lt_le, reaches-refl}
use Rattle.message.specs.Ranges.{before}
use Rattle.message.proofs.KeyOrder.{unlike_earlier, unlike_later, beyond}
use Rattle.node.specs.Lawful.{Rises}
use Rattle.node.specs.Meaning.{lookup}
use Rattle.node.specs.HeadCount.{AreBefore}
use Rattle.node.specs.Leaves.{IsCount, IsEntry, IsGap}
use Rattle.node.proofs.EntryFacts.{first_reaches}
use Rattle.node.proofs.HeadSearch.{Climbs, point_at}

module _ {V : Type 0} where
  -- each entry stands at or behind the earlier ones
  pub entries_climb : (lo : List ℕ) (hi : Option (List ℕ)) (es : List (List ℕ × V)) → Rises lo hi es → Climbs (λ (e : List ℕ × V). e.0) es
  entries_climb lo hi [] r i j d a b = absurd (omega arith)
  entries_climb lo hi (e ∷ es) r zero zero d a b = reaches-refl e.0
  entries_climb lo hi (e ∷ es) r zero (suc j) d a b = first_reaches lo hi e es j d r (omega arith)
  entries_climb lo hi (e ∷ es) r (suc i) zero d a b = absurd (omega arith)
  entries_climb lo hi (e ∷ es) r (suc i) (suc j) d a b = entries_climb e.0 hi es r.2 i j d (omega arith) (omega arith)

  -- what a search asks of entries that rise
  pub entries_partitioned : (lo : List ℕ) (hi : Option (List ℕ)) (k : List ℕ) (es : List (List ℕ × V)) → Rises lo hi es → IsPartitionedBy (λ (e : List ℕ × V). before e.0 k) es
  entries_partitioned lo hi k es r i j d a b h = le_lt (get_or es i d).0 (get_or es j d).0 k (entries_climb lo hi es r i j d a b) h

  -- where a search ends
  pub is_count : (k : List ℕ) (es : List (List ℕ × V)) (i : ℕ) → i ≤ length es → IsPartitionPoint (λ (e : List ℕ × V). before e.0 k ≡ true) (λ (e : List ℕ × V). before e.0 k ≡ false) es i → IsCount es (Some k) i
  is_count k es i b p = record { bound = b; earlier = λ j d h. p.0 j d (omega arith) h; others = λ j d h l. p.1 j d h l }

  -- entries before a key, up to one that is not
  pub is_count_at : (k : List ℕ) (es : List (List ℕ × V)) (i : ℕ) → AreBefore (λ (e : List ℕ × V). e.0) es k i → Rises [] None es → ((d : List ℕ × V) → i < length es → before (get_or es i d).0 k ≡ false) → IsCount es (Some k) i
  is_count_at k es i f r stop = is_count k es i f.bound (point_at (λ (e : List ℕ × V). before e.0 k) es i f.earlier (entries_partitioned [] None k es r) stop)

  pub is_count_here : (k : List ℕ) (es : List (List ℕ × V)) (i : ℕ) (e : List ℕ × V) → AreBefore (λ (e : List ℕ × V). e.0) es k i → Rises [] None es → i < length es → e ≡ get_or es i e → before e.0 k ≡ false → IsCount es (Some k) i
  is_count_here k es i e f r b at h = is_count_at k es i f r (λ d l. subst (λ (x : List ℕ × V). before x.0 k ≡ false) (at ∙ get_or_default es i e d b) h)

  -- the value of an entry behind entries with keys before its own
  lookup_at : (k : List ℕ) (es : List (List ℕ × V)) (i : ℕ) (d : List ℕ × V) → ((j : ℕ) (d : List ℕ × V) → j < i → before (get_or es j d).0 k ≡ true) → i < length es → (get_or es i d).0 ≡ k → lookup es k ≡ Some (get_or es i d).1
  lookup_at k [] i d low b e = absurd (omega arith)
  lookup_at k (x ∷ es) zero d low b e = ap (λ (t : Bool). cond t (Some x.1) (lookup es k)) (same_from_eq x.0 k e)
  lookup_at k (x ∷ es) (suc i) d low b e =
      ap (λ (t : Bool). cond t (Some x.1) (lookup es k)) (unlike_earlier x.0 k (low 0 d (omega arith)))
      ∙ lookup_at k es i d (λ j d h. low (suc j) d (omega arith)) (omega arith) e

  -- no value between entries before a key and entries behind it
  lookup_nowhere : (k : List ℕ) (es : List (List ℕ × V)) (i : ℕ) → ((j : ℕ) (d : List ℕ × V) → j < i → before (get_or es j d).0 k ≡ true) → ((j : ℕ) (d : List ℕ × V) → i ≤ j → j < length es → before k (get_or es j d).0 ≡ true) → lookup es k ≡ None
  lookup_nowhere k [] i low high = refl
  lookup_nowhere k (x ∷ es) zero low high =
      ap (λ (t : Bool). cond t (Some x.1) (lookup es k)) (unlike_later x.0 k (high 0 x (omega arith) (omega arith)))
      ∙ lookup_nowhere k es zero (λ j d h. absurd (omega arith)) (λ j d h l. high (suc j) d (omega arith) (omega arith))
  lookup_nowhere k (x ∷ es) (suc i) low high =
      ap (λ (t : Bool). cond t (Some x.1) (lookup es k)) (unlike_earlier x.0 k (low 0 x (omega arith)))
      ∙ lookup_nowhere k es i (λ j d h. low (suc j) d (omega arith)) (λ j d h l. high (suc j) d (omega arith) (omega arith))

  -- where one entry stands behind a key, so do those after it
  later_ones : (lo : List ℕ) (hi : Option (List ℕ)) (k : List ℕ) (es : List (List ℕ × V)) (i : ℕ) → Rises lo hi es → ((d : List ℕ × V) → i < length es → before k (get_or es i d).0 ≡ true) → (j : ℕ) (d : List ℕ × V) → i ≤ j → j < length es → before k (get_or es j d).0 ≡ true
  later_ones lo hi k [] i r here j d h b = absurd (omega arith)
  later_ones lo hi k (x ∷ es) zero r here zero d h b = here d b
  later_ones lo hi k (x ∷ es) zero r here (suc j) d h b = lt_le k x.0 (get_or es j d).0 (here d (omega arith)) (first_reaches lo hi x es j d r (omega arith))
  later_ones lo hi k (x ∷ es) (suc i) r here zero d h b = absurd (omega arith)
  later_ones lo hi k (x ∷ es) (suc i) r here (suc j) d h b = later_ones x.0 hi k es i r.2 (λ d l. here d (omega arith)) j d (omega arith) (omega arith)

  -- the first entry that does not stand before the key has it
  pub is_entry : (k : List ℕ) (es : List (List ℕ × V)) (i : ℕ) (e : List ℕ × V) → IsCount es (Some k) i → i < length es → e ≡ get_or es i e → same e.0 k ≡ true → IsEntry es k i
  is_entry k es i e c b at s =
      let key : (d : List ℕ × V) → (get_or es i d).0 ≡ k = λ d. ap (λ (x : List ℕ × V). x.0) (get_or_default es i d e b ∙ sym at) ∙ same_true e.0 k s in
      record { count = c; bound = b; key = key; value = λ d. lookup_at k es i d c.earlier b (key d) }

  -- or it has another key
  pub is_gap : (k : List ℕ) (es : List (List ℕ × V)) (i : ℕ) → IsCount es (Some k) i → Rises [] None es → ((d : List ℕ × V) → i < length es → same (get_or es i d).0 k ≡ false) → IsGap es k i
  is_gap k es i c r other =
      let after : (j : ℕ) (d : List ℕ × V) → i ≤ j → j < length es → before k (get_or es j d).0 ≡ true = later_ones [] None k es i r (λ d b. beyond (get_or es i d).0 k (c.others i d (omega arith) b) (other d b)) in
      record { count = c; after = after; value = lookup_nowhere k es i c.earlier after }

  -- as the entry shows at which the search ended
  pub is_gap_at : (k : List ℕ) (es : List (List ℕ × V)) (i : ℕ) (e : List ℕ × V) → IsCount es (Some k) i → Rises [] None es → i < length es → e ≡ get_or es i e → same e.0 k ≡ false → IsGap es k i
  is_gap_at k es i e c r b at s = is_gap k es i c r (λ d l. subst (λ (x : List ℕ × V). same x.0 k ≡ false) (at ∙ get_or_default es i e d b) s)

  -- ---- entries round a key

  -- the entries from number i up to e have the key, those before stand before it, those from e on behind it
  pub record Around (es : List (List ℕ × V)) (k : List ℕ) (i e : ℕ) : Type 0 where
    pub order : i ≤ e
    pub bound : e ≤ length es
    pub earlier : (j : ℕ) (d : List ℕ × V) → j < i → before (get_or es j d).0 k ≡ true
    pub middle : (j : ℕ) (d : List ℕ × V) → i ≤ j → j < e → (get_or es j d).0 ≡ k
    pub after : (j : ℕ) (d : List ℕ × V) → e ≤ j → j < length es → before k (get_or es j d).0 ≡ true

  -- no entry has the key
  pub around_gap : (k : List ℕ) (es : List (List ℕ × V)) (i : ℕ) → IsGap es k i → Around es k i i
  around_gap k es i g = record { order = omega arith; bound = g.count.bound; earlier = g.count.earlier; middle = λ j d h l. absurd (omega arith); after = g.after }

  -- the entries after an entry stand behind its key
  pub after_entry : (lo : List ℕ) (hi : Option (List ℕ)) (k : List ℕ) (es : List (List ℕ × V)) (i : ℕ) → Rises lo hi es → ((d : List ℕ × V) → (get_or es i d).0 ≡ k) → i < length es → (j : ℕ) (d : List ℕ × V) → suc i ≤ j → j < length es → before k (get_or es j d).0 ≡ true
  after_entry lo hi k [] i r key b j d h l = absurd (omega arith)
  after_entry lo hi k (x ∷ es) i r key b zero d h l = absurd (omega arith)
  after_entry lo hi k (x ∷ []) zero r key b (suc j) d h l = absurd (omega arith)
  after_entry lo hi k (x ∷ (y ∷ es)) zero r key b (suc j) d h l = subst (λ (q : List ℕ). before q (get_or (y ∷ es) j d).0 ≡ true) (key x) (later_ones x.0 hi x.0 (y ∷ es) zero r.2 (λ d l. r.1) j d (omega arith) (omega arith))
  after_entry lo hi k (x ∷ es) (suc i) r key b (suc j) d h l = after_entry x.0 hi k es i r.2 key (omega arith) j d (omega arith) (omega arith)

  -- one entry has the key
  pub around_entry : (k : List ℕ) (es : List (List ℕ × V)) (i : ℕ) → IsEntry es k i → Rises [] None es → Around es k i (suc i)
  around_entry k es i g r = record {
    order = omega arith;
    bound = omega (arith, g.bound);
    earlier = g.count.earlier;
    middle = λ j d h l. let same_place : i ≡ j = omega arith in ap (λ (m : ℕ). (get_or es m d).0) (sym same_place) ∙ g.key d;
    after = after_entry [] None k es i r g.key g.bound;
  }

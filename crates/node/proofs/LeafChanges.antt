-- What a leaf's entries become when one key, or a range of keys, gets or loses its value.
use Rattle.std.proofs.Common.{◌≡◌, ℕ, zero, suc, ◌<◌, ◌≤◌, max, Bool, true, false, List, [], ◌∷◌, ◌++◌, length, get_or, set, insert, remove, take, drop, refl, ap, sym, ◌∙◌, subst, Option, Some, None, cond, arith, length-append, length-take, length-drop, take-append-drop}
use Rattle.std.specs.Prelude.{◌&&◌}
use Rattle.std.specs.Option.{option_or}
use Rattle.std.proofs.lemmas.List.{set_split, take-set, drop-set-lt}
use Rattle.pathkey.specs.Order.{same}
use Rattle.pathkey.specs.Keys.{is_below}
use Rattle.pathkey.proofs.OrderFacts.{same_true, same_false, same_itself}
use Rattle.pathkey.proofs.KeyOrder.{lt_le, reaches-refl, not_before_from_reaches, reaches-from_before, reaches-from_not_before}
use Rattle.message.specs.Ranges.{reaches, before, within}
use Rattle.message.proofs.KeyOrder.{both, unlike_earlier, unlike_later}
use Rattle.node.specs.Lawful.{first_key, Rises}
use Rattle.node.specs.Meaning.{lookup}
use Rattle.node.specs.Leaves.{IsCount, IsEntry, IsGap, IsChanged}
use Rattle.node.proofs.EntryPlaces.{Around, around_gap, around_entry}
use Rattle.node.proofs.EntryFacts.{lookup-append, lookup-without, lookup-take, lookup-beside, rises-without, rises-before, rises-others, rises-append}

-- a test that picks a key is not false there
picked : (picks : List ℕ → Bool) (k : List ℕ) (b : Bool) → (b ≡ false → picks k ≡ false) → picks k ≡ true → b ≡ true
picked picks k true f h = refl
picked picks k false f h = absurd (let g : picks k ≡ false = f refl in cc)

module _ {V : Type 0} (k : List ℕ) (es : List (List ℕ × V)) (i e : ℕ) (a : Around es k i e) where
  -- the entries before a key's place have other keys
  other_before : (q : List ℕ) → same k q ≡ true → (j : ℕ) (d : List ℕ × V) → j < i → j < length es → same (get_or es j d).0 q ≡ false
  other_before q s j d l b = subst (λ (x : List ℕ). same (get_or es j d).0 x ≡ false) (same_true k q s) (unlike_earlier (get_or es j d).0 k (a.earlier j d l))

  -- and those after it
  other_after : (q : List ℕ) → same k q ≡ true → (j : ℕ) (d : List ℕ × V) → e ≤ j → j < length es → same (get_or es j d).0 q ≡ false
  other_after q s j d l b = subst (λ (x : List ℕ). same (get_or es j d).0 x ≡ false) (same_true k q s) (unlike_later (get_or es j d).0 k (a.after j d l b))

  -- entries of the key have no other
  other_within : (q : List ℕ) → same k q ≡ false → (j : ℕ) (d : List ℕ × V) → i ≤ j → j < e → j < length es → same (get_or es j d).0 q ≡ false
  other_within q s j d l b c = subst (λ (x : List ℕ). same x q ≡ false) (sym (a.middle j d l b)) s

  -- look-ups where the key has a value
  lookup-put : (v : V) (q : List ℕ) → lookup (take i es ++ (k, v) ∷ drop e es) q ≡ cond (same k q) (Some v) (lookup es q)
  lookup-put v q =
      lookup-append (take i es) ((k, v) ∷ drop e es) q
      ∙ elim (same k q) as (λ b. same k q ≡ b → option_or (lookup (take i es) q) (cond b (Some v) (lookup (drop e es) q)) ≡ cond b (Some v) (lookup es q)) [
        | true ↦ λ s. ap (λ (o : Option V). option_or o (Some v)) (lookup-take q es i (other_before q s))
        | false ↦ λ s. sym (lookup-append (take i es) (drop e es) q) ∙ lookup-without q es i e a.order (other_within q s)
      ] refl

  -- and where it has none
  lookup-taken : (q : List ℕ) → lookup (take i es ++ drop e es) q ≡ cond (same k q) None (lookup es q)
  lookup-taken q = elim (same k q) as (λ b. same k q ≡ b → lookup (take i es ++ drop e es) q ≡ cond b None (lookup es q)) [
    | true ↦ λ s. lookup-beside q es i e (other_before q s) (other_after q s)
    | false ↦ λ s. lookup-without q es i e a.order (other_within q s)
  ] refl

  -- the first of the entries behind a key stands behind it, or their end does
  first_behind : (hi : Option (List ℕ)) (zs : List (List ℕ × V)) (n : ℕ) → is_below k hi ≡ true → ((j : ℕ) (d : List ℕ × V) → n ≤ j → j < length zs → before k (get_or zs j d).0 ≡ true) → is_below k (first_key hi (drop n zs)) ≡ true
  first_behind hi [] zero l after = l
  first_behind hi [] (suc n) l after = l
  first_behind hi (z ∷ zs) zero l after = after 0 z (omega arith) (omega arith)
  first_behind hi (z ∷ zs) (suc n) l after = first_behind hi zs n l (λ j d h b. after (suc j) d (omega arith) (omega arith))

  -- the key gets a value
  pub is_put : (v : V) → IsChanged (same k) (Some v) es (take i es ++ (k, v) ∷ drop e es)
  is_put v = record {
    value = lookup-put v;
    rises = λ lo hi r in_range.
        let w : within lo hi k ≡ true = picked (same k) k (within lo hi k) (in_range k) (same_itself k) in
        let p = both (reaches lo k) (is_below k hi) w in
        rises-append lo k hi (take i es) ((k, v) ∷ drop e es) p.0 p.1 (rises-before lo k hi es i a.earlier (omega (arith, a.order, a.bound)) r)
        (reaches-refl k, first_behind hi es e p.1 a.after, rises-others lo k hi es e (λ j d l b. not_before_from_reaches k (get_or es j d).0 (reaches-from_before k (get_or es j d).0 (a.after j d l b))) r);
    longer = omega (arith, a.order, a.bound, length-append (take i es) ((k, v) ∷ drop e es), length-take i es, length-drop e es);
  }

  -- the key loses its value
  pub is_taken : IsChanged (same k) None es (take i es ++ drop e es)
  is_taken = record {
    value = lookup-taken;
    rises = λ lo hi r in_range. rises-without lo hi es i e a.order r;
    longer = omega (arith, a.order, a.bound, length-append (take i es) (drop e es), length-take i es, length-drop e es);
  }

module _ {V : Type 0} (k : List ℕ) (es : List (List ℕ × V)) (i : ℕ) where
  -- the entry of the key gets a value
  pub is_replaced : (x : List ℕ × V) (v : V) → IsEntry es k i → Rises [] None es → x ≡ get_or es i x → IsChanged (same k) (Some v) es (set es i (x.0, v))
  is_replaced x v g r at =
      let key : x.0 ≡ k = ap (λ (y : List ℕ × V). y.0) at ∙ g.key x in
      let parts : set es i (x.0, v) ≡ take i es ++ (k, v) ∷ drop (suc i) es = set_split es i (x.0, v) g.bound ∙ ap (λ (q : List ℕ). take i es ++ (q, v) ∷ drop (suc i) es) key in
      subst (λ (new : List (List ℕ × V)). IsChanged (same k) (Some v) es new) (sym parts) (is_put k es i (suc i) (around_entry k es i g r) v)

  -- or goes
  pub is_removed : IsEntry es k i → Rises [] None es → IsChanged (same k) None es (remove es i)
  is_removed g r = is_taken k es i (suc i) (around_entry k es i g r)

  -- a new entry
  pub is_inserted : (v : V) → IsGap es k i → IsChanged (same k) (Some v) es (insert es i (k, v))
  is_inserted v g = is_put k es i i (around_gap k es i g) v

  -- a key without value stays without one
  pub is_absent : IsGap es k i → IsChanged (same k) None es es
  is_absent g = subst (λ (new : List (List ℕ × V)). IsChanged (same k) None es new) (take-append-drop i es) (is_taken k es i i (around_gap k es i g))

-- the same change, of a value that has two names
pub is_changed_to : {V : Type 0} (picks : List ℕ → Bool) (v w : Option V) (old new : List (List ℕ × V)) → v ≡ w → IsChanged picks v old new → IsChanged picks w old new
is_changed_to picks v w old new e h = subst (λ o. IsChanged picks o old new) e h

-- an update changes the value of an entry, or leaves none
module _ {V : Type 0} (makes : Option V → Option V) (k : List ℕ) (es : List (List ℕ × V)) (i : ℕ) (x : List ℕ × V) (v : V) (g : IsEntry es k i) (r : Rises [] None es) (at : x ≡ get_or es i x) where
  -- what it makes of the value of the entry is what it makes of the value at its key
  made_at : (w : Option V) → w ≡ makes (Some x.1) → w ≡ makes (lookup es k)
  made_at w made = made ∙ ap makes (ap (λ (y : List ℕ × V). Some y.1) at ∙ sym (g.value x))

  pub is_edited : Some v ≡ makes (Some x.1) → IsChanged (same k) (makes (lookup es k)) es (set es i (x.0, v))
  is_edited made = is_changed_to (same k) (Some v) (makes (lookup es k)) es (set es i (x.0, v)) (made_at (Some v) made) (is_replaced k es i x v g r at)

  pub is_edited_away : (new : List (List ℕ × V)) → None ≡ makes (Some x.1) → new ≡ remove (set es i (x.0, v)) i → IsChanged (same k) (makes (lookup es k)) es new
  is_edited_away new made is =
      let consumed : remove (set es i (x.0, v)) i ≡ remove es i = ap (λ (front : List (List ℕ × V)). front ++ drop (suc i) (set es i (x.0, v))) (take-set es i (x.0, v)) ∙ ap (λ (back : List (List ℕ × V)). take i es ++ back) (drop-set-lt (suc i) es i (x.0, v) (omega arith)) in
      subst (λ (n : List (List ℕ × V)). IsChanged (same k) (makes (lookup es k)) es n) (sym (is ∙ consumed)) (is_changed_to (same k) None (makes (lookup es k)) es (remove es i) (made_at None made) (is_removed k es i g r))

-- the entries from number i up to j lie in the range, the others do not
cleared : {V : Type 0} (lo : List ℕ) (hi : Option (List ℕ)) (es : List (List ℕ × V)) (i j : ℕ) → IsCount es (Some lo) i → IsCount es hi j → IsChanged (within lo hi) None es (take i es ++ drop (max j i) es)
cleared {V} lo hi es i j a b =
    let order : i ≤ max j i = omega arith in
    let low : (k : List ℕ) → within lo hi k ≡ true → (m : ℕ) (d : List ℕ × V) → m < i → m < length es → same (get_or es m d).0 k ≡ false = λ k w m d l c. unlike_earlier (get_or es m d).0 k (lt_le (get_or es m d).0 lo k (a.earlier m d l) (both (reaches lo k) (is_below k hi) w).0) in
    let high : (k : List ℕ) → within lo hi k ≡ true → (m : ℕ) (d : List ℕ × V) → max j i ≤ m → m < length es → same (get_or es m d).0 k ≡ false = λ k w m d l c. unlike_ended (get_or es m d).0 k hi (b.others m d (omega arith) c) (both (reaches lo k) (is_below k hi) w).1 in
    let middle : (k : List ℕ) → within lo hi k ≡ false → (m : ℕ) (d : List ℕ × V) → i ≤ m → m < max j i → m < length es → same (get_or es m d).0 k ≡ false = λ k w m d l c e. unlike_inside lo hi (get_or es m d).0 k (reaches-from_not_before (get_or es m d).0 lo (a.others m d l e)) (b.earlier m d (omega arith)) w in
    record {
      value = λ k. elim (within lo hi k) as (λ t. within lo hi k ≡ t → lookup (take i es ++ drop (max j i) es) k ≡ cond t None (lookup es k)) [
        | true ↦ λ w. lookup-beside k es i (max j i) (low k w) (high k w)
        | false ↦ λ w. lookup-without k es i (max j i) order (middle k w)
      ] refl;
      rises = λ l h r in_range. rises-without l h es i (max j i) order r;
      longer = omega (arith, length-append (take i es) (drop (max j i) es), length-take i es, length-drop (max j i) es, order);
    }
  where
    -- keys of which one stands below an end that the other does not
    unlike_ended : (x k : List ℕ) (hi : Option (List ℕ)) → is_below x hi ≡ false → is_below k hi ≡ true → same x k ≡ false
    unlike_ended x k hi f t = same_false x k (λ e. let u : is_below x hi ≡ true = subst (λ (q : List ℕ). is_below q hi ≡ true) (sym e) t in cc)

    unlike_inside : (lo : List ℕ) (hi : Option (List ℕ)) (x k : List ℕ) → reaches lo x ≡ true → is_below x hi ≡ true → within lo hi k ≡ false → same x k ≡ false
    unlike_inside lo hi x k h l f = same_false x k (λ e.
        let inside : within lo hi x ≡ true = ap (λ (b : Bool). b && is_below x hi) h ∙ l in
        let there : within lo hi k ≡ true = subst (λ (q : List ℕ). within lo hi q ≡ true) e inside in
        (cc))

-- the same, of entries that have another name
pub is_cleared : {V : Type 0} (lo : List ℕ) (hi : Option (List ℕ)) (es new : List (List ℕ × V)) (i j : ℕ) → IsCount es (Some lo) i → IsCount es hi j → new ≡ take i es ++ drop (max j i) es → IsChanged (within lo hi) None es new
is_cleared {V} lo hi es new i j a b is = subst (λ (n : List (List ℕ × V)). IsChanged (within lo hi) None es n) (sym is) (cleared lo hi es i j a b)

-- The first entry of a range in a leaf: entry i is the first at or after lo.
use Rattle.std.proofs.Common.{◌≡◌, ℕ, ◌<◌, ◌≤◌, true, false, List, [], length, get_or, ap, sym, ◌∙◌, subst, Option, Some, None, arith, ⊎_elim}
use Rattle.std.proofs.lemmas.Bool.{cases_order}
use Rattle.std.proofs.lemmas.List.{get_or_default}
use Rattle.pathkey.specs.Keys.{is_below}
use Rattle.pathkey.proofs.OrderFacts.{same_itself}
use Rattle.pathkey.proofs.KeyOrder.{lt_le, reaches-refl, reaches-from_before, reaches-from_not_before, not_before_from_reaches}
use Rattle.message.specs.Ranges.{reaches, before}
use Rattle.message.proofs.KeyOrder.{both, unlike_earlier, unlike_later}
use Rattle.node.specs.Lawful.{Rises}
use Rattle.node.specs.Leaves.{IsCount}
use Rattle.node.specs.Meaning.{lookup}
use Rattle.node.proofs.EntryFacts.{lookup-drop}
use Rattle.node.proofs.EntryPlaces.{is_entry, after_entry}
use Rattle.scan.specs.Pairs.{HasNone, IsFirst}
use Rattle.message.proofs.NextKey.{in_range}
use Rattle.message.proofs.PointKeys.{below_past}

module _ {V : Type 0} (es : List (List ℕ × V)) (lo : List ℕ) (i : ℕ) (c : IsCount es (Some lo) i) where
  -- all entries are before the range
  pub all_before : (hi : Option (List ℕ)) → length es ≤ i → HasNone (lookup es) lo hi
  all_before hi l k h =
      let p = both (reaches lo k) (is_below k hi) h in
      lookup-drop k es 0 (λ j d a b. unlike_earlier (get_or es j d).0 k (lt_le (get_or es j d).0 lo k (c.earlier j d (omega (arith, l, b))) p.0))

  module _ (e : List ℕ × V) (rises : Rises [] None es) (bound : i < length es) (at : e ≡ get_or es i e) where
    pub key_at : (d : List ℕ × V) → (get_or es i d).0 ≡ e.0
    key_at d = ap (λ (x : List ℕ × V). x.0) (get_or_default es i d e bound ∙ sym at)

    -- the entry and those after it are at or after its key
    from_here : (j : ℕ) (d : List ℕ × V) → i ≤ j → j < length es → reaches e.0 (get_or es j d).0 ≡ true
    from_here j d a b = ⊎_elim
        (λ (x : j ≡ i). ap (reaches e.0) (ap (λ m. (get_or es m d).0) x ∙ key_at d) ∙ reaches-refl e.0)
        (λ t. ⊎_elim
        (λ (x : j < i). absurd (omega arith))
        (λ (x : i < j). reaches-from_before e.0 (get_or es j d).0 (after_entry [] None e.0 es i rises key_at bound j d (omega arith) b))
        t)
        (cases_order j i)

    reached : reaches lo e.0 ≡ true
    reached = reaches-from_not_before e.0 lo (subst (λ (k : List ℕ). before k lo ≡ false) (key_at e) (c.others i e (omega arith) bound))

    -- no entry is between the beginning of the range and this one
    none_before : (stop : Option (List ℕ)) → ((k : List ℕ) → is_below k stop ≡ true → before k e.0 ≡ true) → HasNone (lookup es) lo stop
    none_before stop u k h =
        let p = both (reaches lo k) (is_below k stop) h in
        lookup-drop k es 0 (λ j d a b. ⊎_elim
        (λ (x : j ≡ i). unlike_later (get_or es j d).0 k (lt_le k e.0 (get_or es j d).0 (u k p.1) (from_here j d (omega arith) b)))
        (λ t. ⊎_elim
        (λ (x : j < i). unlike_earlier (get_or es j d).0 k (lt_le (get_or es j d).0 lo k (c.earlier j d x) p.0))
        (λ (x : i < j). unlike_later (get_or es j d).0 k (lt_le k e.0 (get_or es j d).0 (u k p.1) (from_here j d (omega arith) b)))
        t)
        (cases_order j i))

    pub its_count : IsCount es (Some e.0) i
    its_count = record {
      bound = c.bound;
      earlier = λ j d h. lt_le (get_or es j d).0 lo e.0 (c.earlier j d h) reached;
      others = λ j d h l. not_before_from_reaches e.0 (get_or es j d).0 (from_here j d h l);
    }

    -- the entry is the first of the range
    pub entry_is_first : (hi : Option (List ℕ)) → is_below e.0 hi ≡ true → IsFirst (lookup es) lo hi (Some e)
    entry_is_first hi u =
        let value = (is_entry e.0 es i e its_count bound at (same_itself e.0)).value e in
        (in_range lo e.0 hi reached u, value ∙ ap (λ (x : List ℕ × V). Some x.1) (sym at), none_before (Some e.0) (λ k h. h))

    -- the entry is past the range
    pub entry_is_past : (hi : Option (List ℕ)) → is_below e.0 hi ≡ false → HasNone (lookup es) lo hi
    entry_is_past hi u = none_before hi (λ k h. below_past e.0 k hi u h)

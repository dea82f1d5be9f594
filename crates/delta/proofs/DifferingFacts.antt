-- Keys at which two indexes differ, one set of keys after the other.
use Rattle.std.proofs.Common.{◌≡◌, ◌⊎◌, ⊎_elim, inl, inr, Bool, true, false, ◌||◌, ℕ, ◌+◌, ◌<◌, List, [], ◌∷◌, ◌++◌, length, get_or, take, refl, sym, ap, subst, ◌∙◌, Option, Some, None, arith, append_assoc, append-nil}
use Rattle.std.specs.List.{Contains, list_any}
use Rattle.std.proofs.lemmas.List.Elements.{Contains-append_left, Contains-append_right, Contains-append_cases, Contains-push, Contains-push_cases}
use Rattle.std.proofs.lemmas.List.{take_more}
use Rattle.std.proofs.lemmas.List.Folds.{list_any-append}
use Rattle.message.specs.Ranges.{before, reaches}
use Rattle.message.proofs.KeyOrder.{both}
use Rattle.message.proofs.NextKey.{by_bool, in_range, one_key, reaches-from_before_next}
use Rattle.pathkey.specs.Keys.{Key, is_below, is_in, next_key}
use Rattle.pathkey.specs.Order.{same}
use Rattle.pathkey.specs.declared.range.KeyRange.{KeyRange}
use Rattle.pathkey.proofs.KeyOrder.{not_before_from_reaches, reaches-from_not_before, reaches-refl}
use Rattle.pathkey.proofs.OrderFacts.{same_true}
use Rattle.scan.specs.Pairs.{AreAhead, HasNone, IsFirst, IsGiven}
use Rattle.delta.specs.Changed.{Adds, AddsStored, AreDiffering, IsSameAt}

-- ---- one of two tests

either : (a b : Bool) → (a || b) ≡ true → (a ≡ true) ⊎ (b ≡ true)
either true b e = inl refl
either false b e = inr e

-- one element more
pub any_more : {X : Type 0} (test : X → Bool) (xs ys : List X) (x : X) → ys ≡ xs ++ x ∷ [] → list_any test ys ≡ true → (list_any test xs ≡ true) ⊎ (test x ≡ true)
any_more test xs ys x e h = either (list_any test xs) (test x) (sym (one (test x)) ∙ sym (list_any-append test xs (x ∷ [])) ∙ sym (ap (list_any test) e) ∙ h)
  where
    one : (b : Bool) → (list_any test xs || (b || false)) ≡ (list_any test xs || b)
    one true = refl
    one false = refl

module _ {V : Type 0} (alike : Option V → Option V → Type 0) (f g : Key → Option V) where
  -- nothing is added for no key
  pub adds_none : (set : Key → Bool) (old : List Key) → ((k : Key) → set k ≡ true → ⊥) → Adds alike f g set old old
  adds_none set old none = ([], sym (append-nil old), record { differ = λ k there. absurd (omega (arith, there.1)); all = λ k h. absurd (none k h) })

  -- one set after the other
  pub adds_both : (a b set : Key → Bool) (old mid new : List Key) → Adds alike f g a old mid → Adds alike f g b mid new
      → ((k : Key) → set k ≡ true → (a k ≡ true) ⊎ (b k ≡ true)) → Adds alike f g set old new
  adds_both a b set old mid new one two parts = (
    one.0 ++ two.0,
    two.1 ∙ ap (λ (l : List Key). l ++ two.0) one.1 ∙ append_assoc old one.0 two.0,
    record {
      differ = λ k there. ⊎_elim (λ l. one.2.differ k l) (λ r. two.2.differ k r) (Contains-append_cases one.0 two.0 k there);
      all = λ k h. ⊎_elim
          (λ x. ⊎_elim (λ l. inl (Contains-append_left one.0 two.0 k l)) (λ s. inr s) (one.2.all k x))
          (λ x. ⊎_elim (λ r. inl (Contains-append_right one.0 two.0 k r)) (λ s. inr s) (two.2.all k x))
          (parts k h);
    },
  )

  -- a key at which the values are alike
  pub adds_same : (q : Key) (old : List Key) → alike (f q) (g q) → Adds alike f g (λ k. same q k) old old
  adds_same q old is = (
    [],
    sym (append-nil old),
    record {
      differ = λ k there. absurd (omega (arith, there.1));
      all = λ k h. inr (inl (subst (λ (x : Key). alike (f x) (g x)) (same_true q k h) is));
    },
  )

  -- a key at which they are not
  pub adds_other : (q : Key) (old new : List Key) → (alike (f q) (g q) → ⊥) → new ≡ old ++ q ∷ [] → Adds alike f g (λ k. same q k) old new
  adds_other q old new other is = (
    q ∷ [],
    is,
    record {
      differ = λ k there. ⊎_elim (λ (c : Contains [] k). absurd (omega (arith, c.1))) (λ e. subst (λ (x : Key). alike (f x) (g x) → ⊥) e other) (Contains-push_cases [] q k there);
      all = λ k h. inl (subst (λ (x : Key). Contains (q ∷ []) x) (same_true q k h) (Contains-push [] q));
    },
  )

  -- the keys that have a value in one of the two
  pub adds_stored : (range : KeyRange) (old mid new : List Key) → AddsStored alike f g f range old mid → AddsStored alike f g g range mid new → Adds alike f g (λ k. is_in range k) old new
  adds_stored range old mid new one two = (
    one.0 ++ two.0,
    two.1 ∙ ap (λ (l : List Key). l ++ two.0) one.1 ∙ append_assoc old one.0 two.0,
    record {
      differ = λ k there. ⊎_elim (λ l. one.2.differ k l) (λ r. two.2.differ k r) (Contains-append_cases one.0 two.0 k there);
      all = all;
    },
  )
    where
      in_one : (k : Key) (v : V) → is_in range k ≡ true → f k ≡ Some v → Contains (one.0 ++ two.0) k ⊎ IsSameAt alike f g k
      in_one k v h e = ⊎_elim (λ l. inl (Contains-append_left one.0 two.0 k l)) (λ s. inr s) (one.2.all k v h e)

      in_two : (k : Key) (v : V) → is_in range k ≡ true → g k ≡ Some v → Contains (one.0 ++ two.0) k ⊎ IsSameAt alike f g k
      in_two k v h e = ⊎_elim (λ r. inl (Contains-append_right one.0 two.0 k r)) (λ s. inr s) (two.2.all k v h e)

      cases : (k : Key) → is_in range k ≡ true → (o r : Option V) → f k ≡ o → g k ≡ r → Contains (one.0 ++ two.0) k ⊎ IsSameAt alike f g k
      cases k h (Some v) r e s = in_one k v h e
      cases k h None (Some v) e s = in_two k v h s
      cases k h None None e s = inr (inr (e, s))

      all : (k : Key) → is_in range k ≡ true → Contains (one.0 ++ two.0) k ⊎ IsSameAt alike f g k
      all k h = cases k h (f k) (g k) refl refl

  -- one element more of a list of sets
  pub adds_more : {X : Type 0} (test : X → Key → Bool) (xs : List X) (i : ℕ) (x : X) → i < length xs → x ≡ get_or xs i x → (old mid new : List Key)
      → Adds alike f g (λ k. list_any (λ y. test y k) (take i xs)) old mid → Adds alike f g (test x) mid new → Adds alike f g (λ k. list_any (λ y. test y k) (take (i + 1) xs)) old new
  adds_more test xs i x lt is old mid new one two =
      let more : take (i + 1) xs ≡ take i xs ++ x ∷ [] = take_more xs i x lt ∙ ap (λ y. take i xs ++ y ∷ []) (sym is) in
      adds_both (λ k. list_any (λ y. test y k) (take i xs)) (test x) (λ k. list_any (λ y. test y k) (take (i + 1) xs)) old mid new one two (λ k h. any_more (λ y. test y k) (take i xs) (take (i + 1) xs) x more h)

  -- the keys of one set, and then those of another
  pub adds_either : (a b : Key → Bool) (old mid new : List Key) → Adds alike f g a old mid → Adds alike f g b mid new → Adds alike f g (λ k. a k || b k) old new
  adds_either a b old mid new one two = adds_both a b (λ k. a k || b k) old mid new one two (λ k h. either (a k) (b k) h)

  -- what was added to none is all
  pub are_all : (set : Key → Bool) (none new : List Key) → none ≡ [] → Adds alike f g set none new → AreDiffering alike f g set new
  are_all set none new is adds = subst (AreDiffering alike f g set) (sym (adds.1 ∙ ap (λ (l : List Key). l ++ adds.0) is)) adds.2

  -- ---- along a range

  module _ (h : Key → Option V) (range : KeyRange) where
    -- the keys of the range before one were passed
    pub record Passed (lo : Key) (old now : List Key) : Type 0 where
      pub keys : List Key
      pub is : now ≡ old ++ keys
      pub differ : (k : Key) → Contains keys k → alike (f k) (g k) → ⊥
      pub all : (k : Key) (v : V) → is_in range k ≡ true → before k lo ≡ true → h k ≡ Some v → Contains keys k ⊎ IsSameAt alike f g k

    pub passed_start : (lo : Key) (old : List Key) → lo ≡ range.lo → Passed lo old old
    passed_start lo old e = record {
      keys = [];
      is = sym (append-nil old);
      differ = λ k there. absurd (omega (arith, there.1));
      all = λ k v is_there early is. absurd (
          let from : reaches lo k ≡ true = ap (λ (x : Key). reaches x k) e ∙ (both (reaches range.lo k) (is_below k range.hi) is_there).0 in
          let late : before k lo ≡ false = not_before_from_reaches lo k from in
          let clash : true ≡ false = sym early ∙ late in
          cc);
    }

    pub passed_end : (lo : Key) (hi : Option Key) (old now : List Key) → hi ≡ range.hi → HasNone h lo hi → Passed lo old now → AddsStored alike f g h range old now
    passed_end lo hi old now e none passed = (
      passed.keys,
      passed.is,
      record {
        differ = passed.differ;
        all = λ k v there is. by_bool (before k lo) (Contains passed.keys k ⊎ IsSameAt alike f g k) (λ early. passed.all k v there early is)
            (λ late. absurd (
            let below : is_below k hi ≡ true = ap (is_below k) e ∙ (both (reaches range.lo k) (is_below k range.hi) there).1 in
            let gone : h k ≡ None = none k (in_range lo k hi (reaches-from_not_before k lo late) below) in
            let clash : Some v ≡ None = sym is ∙ gone in
            cc));
      },
    )

    -- the next key with a value
    pub passed_on : (lo : Key) (hi : Option Key) (p : Key × V) (old now more : List Key) → IsFirst h lo hi (Some p) → Adds alike f g (λ k. same p.0 k) now more → Passed lo old now → Passed (next_key p.0) old more
    passed_on lo hi p old now more first adds passed = record {
      keys = passed.keys ++ adds.0;
      is = adds.1 ∙ ap (λ (l : List Key). l ++ adds.0) passed.is ∙ append_assoc old passed.keys adds.0;
      differ = λ k there. ⊎_elim (λ l. passed.differ k l) (λ r. adds.2.differ k r) (Contains-append_cases passed.keys adds.0 k there);
      all = λ k v there early is. by_bool (before k lo) (Contains (passed.keys ++ adds.0) k ⊎ IsSameAt alike f g k)
          (λ old_one. ⊎_elim (λ l. inl (Contains-append_left passed.keys adds.0 k l)) (λ s. inr s) (passed.all k v there old_one is))
          (λ late.
          let up : reaches k p.0 ≡ true = reaches-from_before_next k p.0 early in
          by_bool (before k p.0) (Contains (passed.keys ++ adds.0) k ⊎ IsSameAt alike f g k)
          (λ between. absurd (
          let gone : h k ≡ None = first.2 k (in_range lo k (Some p.0) (reaches-from_not_before k lo late) between) in
          let clash : Some v ≡ None = sym is ∙ gone in
          cc))
          (λ reached.
          let here : p.0 ≡ k = one_key p.0 k (reaches-from_not_before k p.0 reached) up in
          ⊎_elim (λ r. inl (Contains-append_right passed.keys adds.0 k r)) (λ s. inr s) (adds.2.all k (subst (λ (x : Key). same p.0 x ≡ true) here (Rattle.pathkey.proofs.OrderFacts.same_itself p.0)))));
    }

    -- what was read ahead is ahead of the next key
    pub ahead_next : (lo : Key) (hi : Option Key) (p : Key × V) (all : Bool) (ps : List (Key × V)) → IsGiven h lo hi (Some p) all ps → AreAhead h (next_key p.0) hi all ps
    ahead_next lo hi p all ps given = (next_key p.0, reaches-refl (next_key p.0), given.1)

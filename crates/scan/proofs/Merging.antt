-- A pending list applied to pairs from below.
use Rattle.std.proofs.Common.{◌≡◌, ℕ, ◌+◌, ◌-◌, ◌<◌, ◌≤◌, ◌⊎◌, inl, inr, ⊎_elim, ◌++◌, true, false, List, [], ◌∷◌, length, get_or, slice_index_or, append-nil, refl, ap, sym, ◌∙◌, subst, Option, Some, None, cond, arith, Bor}
use Rattle.std.specs.Prelude.{All, Contains, IfSome, IfNone}
use Rattle.std.specs.Option.{option_to_list, option_copied, is_some}
use Rattle.std.proofs.lemmas.Bool.{cases_order}
use Rattle.std.proofs.lemmas.List.{get_or_default}
use Rattle.pathkey.specs.Keys.{is_below, next_key}
use Rattle.pathkey.proofs.KeyOrder.{le_le, lt_le, le_lt, reaches-refl, reaches-from_before, reaches-from_not_before, not_before_from_reaches}
use Rattle.message.specs.declared.msg.Msg.{Msg}
use Rattle.message.specs.PointKeys.{has_point, is_cleared, IsNextPoint}
use Rattle.message.specs.Ranges.{reaches, before, within}
use Rattle.message.specs.Stretches.{all_ends}
use Rattle.message.proofs.KeyOrder.{both, begins_before_end, below_next}
use Rattle.message.proofs.NextKey.{by_bool, in_range, one_key, before-next, reaches-next, reaches-from_before_next, one_before_next}
use Rattle.message.proofs.PointKeys.{left_by_ranges, forgets, point_end, below_past}
use Rattle.node.specs.declared.node.Slot.{Slot}
use Rattle.node.specs.Meaning.{value}
use Rattle.scan.specs.Pairs.{HasNone, IsFirst, IsScan, AddsScan}
use Rattle.scan.specs.Stretches.{pair_of, slot_value}
use Rattle.scan.specs.Merging.{AreAll, StartsFrom, IsMoved, HasPoint, applied, LeavesGaps, IsMerged, Merges, Moves, OfAllFrom, GoesOn}
use Rattle.scan.proofs.Ahead.{ahead, ahead_falls, fewer}
use Rattle.scan.proofs.AtHand.{all_from, head_first, tail_scan, found_none}
use Rattle.scan.proofs.Firsts.{none_start}
use Rattle.scan.proofs.Joins.{HasWalked, walk_start, walk_on, walk_end, walk_full, walk_over, adds_none, adds_zero, adds_one, adds_join, adds_moved, next_inside, next_reached, scan_none}
use Rattle.scan.proofs.ReadaheadFacts.{short_law}

-- ---- all pairs of a range

module _ {V : Type 0} (f : List ℕ → Option V) where
  -- a scan that found fewer pairs than its limit
  all_fewer : (lo : List ℕ) (hi : Option (List ℕ)) (n : ℕ) (ps : List (List ℕ × V)) → IsScan f lo hi n ps → length ps < n → AreAll f lo hi ps
  all_fewer lo hi n ps s l = record {
    few = omega arith;
    sound = s.sound;
    rising = s.rising;
    complete = λ k v w e. inl (short_law f lo hi n ps s l k v w e);
  }

  -- or as many, up to the key after the last
  pub all_full : (lo : List ℕ) (hi : Option (List ℕ)) (n : ℕ) (ps : List (List ℕ × V)) (i : ℕ) (p : List ℕ × V) → IsScan f lo hi n ps → i + 1 ≡ length ps → p ≡ get_or ps i p → AreAll f lo (Some (next_key p.0)) ps
  all_full lo hi n ps i p s l at =
      let last : (d : List ℕ × V) → (get_or ps i d).0 ≡ p.0 = λ d. ap (λ (x : List ℕ × V). x.0) (get_or_default ps i d p (omega (arith, l)) ∙ sym at) in
      let up : before p.0 (next_key p.0) ≡ true = before-next p.0 in
      let near : (j : ℕ) (d : List ℕ × V) → j < length ps → before (get_or ps j d).0 (next_key p.0) ≡ true = λ j d h. ⊎_elim
      (λ (y : j ≡ i). ap (λ k. before k (next_key p.0)) (ap (λ m. (get_or ps m d).0) y ∙ last d) ∙ up)
      (λ t. ⊎_elim
      (λ (y : j < i). lt_le (get_or ps j d).0 p.0 (next_key p.0) (ap (before (get_or ps j d).0) (sym (last d)) ∙ s.rising j i d y (omega (arith, l))) (reaches-from_before p.0 (next_key p.0) up))
      (λ (y : i < j). absurd (omega (arith, y, h, l)))
      t)
      (cases_order j i) in
      let there : within lo hi p.0 ≡ true = ap (within lo hi) (sym (last p)) ∙ (s.sound i p (omega (arith, l))).0 in
      record {
        few = omega arith;
        sound = λ j d h. let q = s.sound j d h in (in_range lo (get_or ps j d).0 (Some (next_key p.0)) (both (reaches lo (get_or ps j d).0) (is_below (get_or ps j d).0 hi) q.0).0 (near j d h), q.1);
        rising = s.rising;
        complete = λ k v w e.
            let q = both (reaches lo k) (before k (next_key p.0)) w in
            let r : reaches k p.0 ≡ true = reaches-from_before_next k p.0 q.1 in
            ⊎_elim
            (λ (c : Contains ps (k, v)). inl c)
            (λ (x : (length ps ≡ n) × All (λ y. before y.0 k ≡ true) ps). absurd (
            let yes : before p.0 k ≡ true = ap (λ z. before z k) (sym (last p)) ∙ x.1 i p (omega (arith, l)) in
            let no : before p.0 k ≡ false = not_before_from_reaches k p.0 r in
            cc))
            (s.complete k v (in_range lo k hi q.0 (begins_before_end k p.0 hi r (both (reaches lo p.0) (is_below p.0 hi) there).1)) e);
      }

  module _ (lo : List ℕ) (hi : Option (List ℕ)) (p : List ℕ × V) (ps : List (List ℕ × V)) (s : AreAll f lo hi (p ∷ ps)) where
    pub head_within : (reaches lo p.0 ≡ true) × (is_below p.0 hi ≡ true)
    head_within = both (reaches lo p.0) (is_below p.0 hi) (s.sound 0 p (omega arith)).0

    -- the first of them
    pub first_of_all : IsFirst f lo hi (Some p)
    first_of_all = head_first f lo hi (length (p ∷ ps) + 1) p ps s lo (reaches-refl lo) (not_before_from_reaches lo p.0 head_within.0)

    -- and the others
    pub tail_all : AreAll f (next_key p.0) hi ps
    tail_all =
        let n : length (p ∷ ps) + 1 - 1 ≡ length ps + 1 = omega arith in
        subst (λ (m : ℕ). IsScan f (next_key p.0) hi m ps) n (tail_scan f lo hi (length (p ∷ ps) + 1) p ps s)

  -- none
  pub none_of_all : (lo : List ℕ) (hi : Option (List ℕ)) → AreAll f lo hi [] → HasNone f lo hi
  none_of_all lo hi s = found_none f lo hi 1 (omega arith) s

  from_later : (lo q : List ℕ) (hi : Option (List ℕ)) (ps : List (List ℕ × V)) → AreAll f lo hi ps → reaches lo q ≡ true → ((j : ℕ) (d : List ℕ × V) → j < length ps → reaches q (get_or ps j d).0 ≡ true) → AreAll f q hi ps
  from_later lo q hi ps s low g = record {
    few = s.few;
    sound = λ j d l. let h = s.sound j d l in (in_range q (get_or ps j d).0 hi (g j d l) (both (reaches lo (get_or ps j d).0) (is_below (get_or ps j d).0 hi) h.0).1, h.1);
    rising = s.rising;
    complete = λ k v w e. let h = both (reaches q k) (is_below k hi) w in s.complete k v (in_range lo k hi (le_le lo q k low h.0) h.1) e;
  }

  -- from a later key on, before which there is none of them
  pub later_all : (lo q : List ℕ) (hi : Option (List ℕ)) (ps : List (List ℕ × V)) → AreAll f lo hi ps → reaches lo q ≡ true → StartsFrom (Some q) ps → AreAll f q hi ps
  later_all lo q hi [] s low h = from_later lo q hi [] s low (λ j d l. absurd (omega (arith, l)))
  later_all lo q hi (p ∷ ps) s low h = from_later lo q hi (p ∷ ps) s low (λ j d l. le_le q p.0 (get_or (p ∷ ps) j d).0 (reaches-from_not_before p.0 q h) (all_from f lo hi (length (p ∷ ps) + 1) p ps s j d l))

  -- none before an end before which there is none of them
  pub none_until : (lo : List ℕ) (hi stop : Option (List ℕ)) (ps : List (List ℕ × V)) → AreAll f lo hi ps → ((k : List ℕ) → is_below k stop ≡ true → is_below k hi ≡ true) → StartsFrom stop ps → HasNone f lo stop
  none_until lo hi stop [] s inside h k w = let q = both (reaches lo k) (is_below k stop) w in none_of_all lo hi s k (in_range lo k hi q.0 (inside k q.1))
  none_until lo hi stop (p ∷ ps) s inside h k w = let q = both (reaches lo k) (is_below k stop) w in (first_of_all lo hi p ps s).2 k (in_range lo k (Some p.0) q.0 (below_past p.0 k stop h q.1))

-- ---- pairs that are moved

module _ {V : Type 0} (f : List ℕ → Option V) (lo : List ℕ) (hi stop : Option (List ℕ)) (limit : ℕ) where
  -- the pairs before `here` have moved, and the rest are all from there on
  pub record IsMoving (old new rest : List (List ℕ × V)) : Type 0 where
    pub here : List ℕ
    pub walked : HasWalked f lo stop limit here old new
    pub all : AreAll f here hi rest
    pub low : (q : List ℕ) → stop ≡ Some q → reaches lo q ≡ true → reaches here q ≡ true

  pub moving_start : (old rest : List (List ℕ × V)) → AreAll f lo hi rest → IsMoving old old rest
  moving_start old rest s = record { here = lo; walked = walk_start f lo stop limit lo old old refl refl; all = s; low = λ q e r. r }

  module _ (old new rest : List (List ℕ × V)) (x : IsMoving old new rest) where
    pub moving_on : (p : List ℕ × V) (newer ps : List (List ℕ × V)) → rest ≡ p ∷ ps → is_below p.0 stop ≡ true → length new < limit → newer ≡ new ++ p ∷ [] → IsMoving old newer ps
    moving_on p newer ps e b l n =
        let s : AreAll f x.here hi (p ∷ ps) = subst (AreAll f x.here hi) e x.all in
        let first : IsFirst f x.here hi (Some p) = first_of_all f x.here hi p ps s in
        let mine : IsFirst f x.here stop (Some p) = (in_range x.here p.0 stop (head_within f x.here hi p ps s).0 b, first.1, first.2) in
        record {
          here = next_key p.0;
          walked = walk_on f lo stop limit x.here old new x.walked (next_key p.0) newer (next_reached f x.here stop p mine) (next_inside f x.here stop p mine) (adds_one f x.here stop limit new newer p mine l n);
          all = tail_all f x.here hi p ps s;
          low = λ q g r. reaches-next p.0 q ∙ ap (is_below p.0) (sym g) ∙ b;
        }

    pub moving_full : limit ≤ length new → IsMoved f lo hi stop limit old new rest
    moving_full l = record {
      added = walk_full f lo stop limit x.here old new x.walked l;
      left = λ h q e r. absurd (omega (arith, h, l));
      all = λ h e. absurd (omega (arith, h, l));
    }

    pub moving_over : StartsFrom stop rest → ((k : List ℕ) → is_below k stop ≡ true → is_below k hi ≡ true) → IsMoved f lo hi stop limit old new rest
    moving_over h inside = record {
      added = walk_over f lo stop limit x.here old new x.walked (none_until f x.here hi stop rest x.all inside h);
      left = λ l q e r. later_all f x.here q hi rest x.all (x.low q e r) (subst (λ o. StartsFrom o rest) e h);
      all = λ l e. empty rest x.all h e;
    }
      where
        empty : (ps : List (List ℕ × V)) → AreAll f x.here hi ps → StartsFrom stop ps → stop ≡ hi → ps ≡ []
        empty [] s h e = refl
        empty (p ∷ ps) s h e = absurd (let yes : is_below p.0 stop ≡ true = ap (is_below p.0) e ∙ (head_within f x.here hi p ps s).1 in let no : is_below p.0 stop ≡ false = h in cc)

-- ---- the value at a key

module _ {V : Type 0} (f : List ℕ → Option V) (q : List ℕ) (hi : Option (List ℕ)) (low : is_below q hi ≡ true) where
  -- there is none
  pub none_there : (ps : List (List ℕ × V)) → AreAll f q hi ps → StartsFrom (Some (next_key q)) ps → f q ≡ None
  none_there ps s h = none_until f q hi (Some (next_key q)) ps s (λ k b. begins_before_end k q hi (reaches-from_before_next k q b) low) h q (in_range q q (Some (next_key q)) (reaches-refl q) (before-next q))

  pub none_gone : (ps : List (List ℕ × V)) → AreAll f q hi ps → StartsFrom (Some (next_key q)) ps → AreAll f (next_key q) hi ps
  none_gone ps s h = later_all f q (next_key q) hi ps s (reaches-from_before q (next_key q) (before-next q)) h

  module _ (p : List ℕ × V) (ps : List (List ℕ × V)) (s : AreAll f q hi (p ∷ ps)) (b : before p.0 (next_key q) ≡ true) where
    one_there : p.0 ≡ q
    one_there = one_key p.0 q (reaches-from_before_next p.0 q b) (head_within f q hi p ps s).0

    pub some_there : f q ≡ Some p.1
    some_there = ap f (sym one_there) ∙ (s.sound 0 p (omega arith)).1

    pub some_gone : AreAll f (next_key q) hi ps
    some_gone = subst (λ (k : List ℕ). AreAll f (next_key k) hi ps) one_there (tail_all f q hi p ps s)

-- a key with its value, if it has one
pub adds_key : {V : Type 0} (f : List ℕ → Option V) (q : List ℕ) (limit : ℕ) (old new : List (List ℕ × V)) (w : Option V) → f q ≡ w → length old < limit → new ≡ old ++ option_to_list (pair_of q w) → AddsScan f q (Some (next_key q)) limit old new
adds_key f q limit old new None e l n = adds_none f q (Some (next_key q)) limit old new (n ∙ append-nil old) (λ k w. ap f (sym (one_before_next k q w)) ∙ e)
adds_key f q limit old new (Some v) e l n = adds_one f q (Some (next_key q)) limit old new (q, v) (in_range q q (Some (next_key q)) (reaches-refl q) (before-next q), e, none_start f q) l n

-- a key is after another, or before the one next to it
pub starts_past : (q k : List ℕ) → before q k ≡ true → before k (next_key q) ≡ false
starts_past q k h = not_before_from_reaches (next_key q) k (reaches-next q k ∙ h)

pub stands_by : (q k : List ℕ) → before q k ≡ false → before k (next_key q) ≡ true
stands_by q k h = le_lt k q (next_key q) (reaches-from_not_before q k h) (before-next q)

-- so does the first pair
pub front_past : {V : Type 0} (q : List ℕ) (ps : List (List ℕ × V)) (p : List ℕ × V) → p ≡ slice_index_or ps 0 p → before q p.0 ≡ true → StartsFrom (Some (next_key q)) ps
front_past q [] p e h = tt
front_past q (x ∷ xs) p e h = starts_past q x.0 (sym (ap (λ t. before q t.0) e) ∙ h)

pub front_by : {V : Type 0} (q : List ℕ) (old new : List (List ℕ × V)) (o : Option (List ℕ × V)) (p : List ℕ × V) → p ≡ slice_index_or old 0 p → before q p.0 ≡ false → old ≡ option_to_list o ++ new → IfSome o (λ x. (old ≡ x ∷ new) × (before x.0 (next_key q) ≡ true))
front_by q old new None p e h parts = tt
front_by q old new (Some x) p e h parts = (parts, stands_by q x.0 (sym (ap (λ t. before q t.0) (e ∙ ap (λ ps. slice_index_or ps 0 p) parts)) ∙ h))

-- what was taken is the value
pub taken_value : {V : Type 0} (f : List ℕ → Option V) (q next : List ℕ) (hi : Option (List ℕ)) (o : Option V) (old new : List (List ℕ × V)) → next ≡ next_key q → is_below q hi ≡ true → IfSome o (λ v. (k : List ℕ) × (old ≡ (k, v) ∷ new) × (before k next ≡ true)) → IfNone o ((new ≡ old) × StartsFrom (Some next) old) → AreAll f q hi old → (f q ≡ o) × AreAll f (next_key q) hi new
taken_value f q next hi None old new e low some none s =
    let h : StartsFrom (Some (next_key q)) old = subst (λ (k : List ℕ). StartsFrom (Some k) old) e none.1 in
    (none_there f q hi low old s h, subst (AreAll f (next_key q) hi) (sym none.0) (none_gone f q hi low old s h))
taken_value f q next hi (Some v) old new e low some none s =
    let b : before some.0 (next_key q) ≡ true = ap (before some.0) (sym e) ∙ some.2 in
    let t : AreAll f q hi ((some.0, v) ∷ new) = subst (AreAll f q hi) some.1 s in
    (some_there f q hi low (some.0, v) new t b, some_gone f q hi low (some.0, v) new t b)

-- after the next key with messages, fewer ends of messages are ahead
pub point_falls : {U V : Type 0} (ms : List (Msg U V)) (at q k : List ℕ) → reaches at q ≡ true → has_point ms q ≡ true → reaches (next_key q) k ≡ true → ahead k (all_ends ms) < ahead at (all_ends ms)
point_falls ms at q k low h r = by_bool (before (next_key q) k) (ahead k (all_ends ms) < ahead at (all_ends ms))
    (λ b. let less = fewer (next_key q) k (all_ends ms) b in let falls = first in omega (arith, less, falls))
    (λ b. let same : next_key q ≡ k = one_key (next_key q) k r (reaches-from_not_before (next_key q) k b) in subst (λ (z : List ℕ). ahead z (all_ends ms) < ahead at (all_ends ms)) same first)
  where
    first : ahead (next_key q) (all_ends ms) < ahead at (all_ends ms)
    first = ahead_falls at (next_key q) (all_ends ms) (le_lt at q (next_key q) low (before-next q)) (point_end ms q h)

-- ---- the merge

module _ {U V : Type 0} (means : U → Option V → Option V) (ms : List (Msg U V)) (child : List ℕ → Option V) (from : List ℕ) (end : Option (List ℕ)) (limit : ℕ) (below old : List (List ℕ × V)) where
  -- it has reached the key `at`
  pub record IsMerging (at : List ℕ) (new rest : List (List ℕ × V)) : Type 0 where
    pub walked : HasWalked (applied means ms child) from end limit at old new
    pub all : AreAll child at end rest
    pub more : (length new + length rest ≡ length old + length below) ⊎ HasPoint ms from end

  pub merging_start : (at : List ℕ) (rest : List (List ℕ × V)) → at ≡ from → rest ≡ below → AreAll child from end below → IsMerging at old rest
  merging_start at rest e r s = record {
    walked = walk_start (applied means ms child) from end limit at old old e refl;
    all = subst (λ (k : List ℕ). AreAll child k end rest) (sym e) (subst (AreAll child from end) (sym r) s);
    more = inl (ap (λ (xs : List (List ℕ × V)). length old + length xs) r);
  }

  module _ (at : List ℕ) (new rest : List (List ℕ × V)) (x : IsMerging at new rest) (gaps : LeavesGaps means ms child from end) where
    -- up to a key before which no message is for one key, the values are the child's
    gap : (stop : Option (List ℕ)) (newer : List (List ℕ × V)) → ((k : List ℕ) → is_below k stop ≡ true → is_below k end ≡ true) → ((k : List ℕ) → within at stop k ≡ true → has_point ms k ≡ false) → AddsScan child at stop limit new newer → AddsScan (applied means ms child) at stop limit new newer
    gap stop newer inside none a = adds_moved (applied means ms child) child at stop stop limit new newer (λ k w. w) (λ k w. w) (λ k w. let q = both (reaches at k) (is_below k stop) w in gaps k (in_range from k end (le_le from at k x.walked.reached q.0) (inside k q.1)) (none k w)) a

    module _ (q : List ℕ) (next : IsNextPoint ms at end (Some q)) (newer left : List (List ℕ × V)) (m : IsMoved child at end (Some q) limit new newer left) where
      at_q : (reaches at q ≡ true) × (is_below q end ≡ true)
      at_q = both (reaches at q) (is_below q end) next.0

      before_q : HasWalked (applied means ms child) from end limit q old newer
      before_q = walk_on (applied means ms child) from end limit at old new x.walked q newer at_q.0
          (λ k w. below_next k q end (both (reaches at k) (before k q) w).1 at_q.1)
          (gap (Some q) newer (λ k b. below_next k q end b at_q.1) next.2 m.added)

      -- enough pairs are before the next key
      merging_full : limit ≤ length newer → IsMerged means ms child from end limit below old newer
      merging_full l = record {
        added = walk_full (applied means ms child) from end limit q old newer before_q l;
        more = λ h. absurd (omega (arith, h, l));
      }

      pub all_there : length newer < limit → AreAll child q end left
      all_there l = m.left l q refl at_q.0

      pub point_inside : is_below q end ≡ true
      point_inside = at_q.1

      -- the key with its messages
      merging_on : (newest last : List (List ℕ × V)) (k : List ℕ) → length newer < limit → newest ≡ newer ++ option_to_list (pair_of q (applied means ms child q)) → AreAll child (next_key q) end last → k ≡ next_key q → IsMerging k newest last
      merging_on newest last k l n s e = subst (λ (z : List ℕ). IsMerging z newest last) (sym e) (record {
        walked = walk_on (applied means ms child) from end limit q old newer before_q (next_key q) newest (reaches-from_before q (next_key q) (before-next q))
            (λ z w. begins_before_end z q end (reaches-from_before_next z q (both (reaches q z) (before z (next_key q)) w).1) at_q.1)
            (adds_key (applied means ms child) q limit newer newest (applied means ms child q) refl l n);
        all = s;
        more = inr (q, in_range from q end (le_le from at q x.walked.reached at_q.0) at_q.1, next.1);
      })

      merging_met : (newest last : List (List ℕ × V)) → length newer < limit → (AreAll child q end left → is_below q end ≡ true → newest ≡ newer ++ option_to_list (pair_of q (applied means ms child q))) → (AreAll child q end left → is_below q end ≡ true → AreAll child (next_key q) end last) → IsMerging (next_key q) newest last
      merging_met newest last l pushed others = merging_on newest last (next_key q) l (pushed (all_there l) at_q.1) (others (all_there l) at_q.1) refl

    -- the pairs before the next key were moved, and then the key with its messages was
    module _ (q key : List ℕ) (next : IsNextPoint ms at end (Some q)) (is : key ≡ q) (newer left : List (List ℕ × V)) (moves : Moves (Some key) limit new newer rest left) where
      key_below : is_below key end ≡ true
      key_below = ap (λ k. is_below k end) is ∙ (both (reaches at q) (is_below q end) next.0).1

      before_key : IsMoved child at end (Some q) limit new newer left
      before_key = subst (λ (k : List ℕ). IsMoved child at end (Some k) limit new newer left) is (moves child at end x.all (λ k b. below_next k key end b key_below))

      pub pass_full : limit ≤ length newer → IsMerged means ms child from end limit below old newer
      pass_full l = merging_full q next newer left before_key l

      pub pass_met : (seen : List (Msg U V)) → seen ≡ ms → (newest last : List (List ℕ × V)) → length newer < limit → OfAllFrom q left (λ f hi. newest ≡ newer ++ option_to_list (pair_of q (applied means seen f q))) → OfAllFrom q left (λ f hi. AreAll f (next_key q) hi last) → IsMerging (next_key q) newest last
      pass_met seen same newest last l pushed others =
          merging_met q next newer left before_key newest last l
          (λ all low. pushed child end all low ∙ ap (λ (t : List (Msg U V)). newer ++ option_to_list (pair_of q (applied means t child q))) same)
          (λ all low. others child end all low)

    -- no key with messages is left
    pub merging_over : IsNextPoint ms at end None → (newer left : List (List ℕ × V)) → IsMoved child at end end limit new newer left → length newer + length left ≡ length new + length rest → IsMerged means ms child from end limit below old newer
    merging_over none newer left m count = record {
      added = walk_end (applied means ms child) from end limit at old new x.walked newer (gap end newer (λ k b. b) none m.added);
      more = λ l. ⊎_elim
          (λ (e : length new + length rest ≡ length old + length below). inl (let z : length left ≡ 0 = ap length (m.all l refl) in omega (arith, e, z, count)))
          (λ (h : HasPoint ms from end). inr h)
          x.more;
    }

-- ---- a slot

module _ {U V : Type 0} (means : U → Option V → Option V) (ms : List (Msg U V)) (child : List ℕ → Option V) (from : List ℕ) (stop : Option (List ℕ)) where
  -- if range-deletes cover all keys, nothing of the child is left
  pub adds_cleared : (limit : ℕ) (old new : List (List ℕ × V)) → ((k : List ℕ) → within from stop k ≡ true → is_cleared ms k ≡ is_cleared ms from) → is_cleared ms from ≡ true → ((f : List ℕ → Option V) → AreAll f from stop [] → LeavesGaps means ms f from stop → IsMerged means ms f from stop limit [] old new) → AddsScan (applied means ms child) from stop limit old new
  adds_cleared limit old new alike t merged =
      let none : List ℕ → Option V = λ k. None in
      let m : IsMerged means ms none from stop limit [] old new = merged none (scan_none none from stop 1 (λ k w. refl)) (λ k w h. left_by_ranges means ms k None h ∙ (elim (is_cleared ms k) as (λ b. cond b None (none k) ≡ none k) [ true ↦ refl | false ↦ refl ])) in
      adds_moved (applied means ms child) (applied means ms none) from stop stop limit old new (λ k w. w) (λ k w. w) (λ k w. forgets means ms k (child k) None (alike k w ∙ t)) m.added

  -- if they cover none, the child's values remain between the keys with messages
  gaps_clear : ((k : List ℕ) → within from stop k ≡ true → is_cleared ms k ≡ false) → LeavesGaps means ms child from stop
  gaps_clear clear k w h = left_by_ranges means ms k (child k) h ∙ ap (λ b. cond b None (child k)) (clear k w)

  -- and everywhere, if no key has messages
  pub adds_pointless : (limit : ℕ) (old new : List (List ℕ × V)) → ((k : List ℕ) → within from stop k ≡ true → is_cleared ms k ≡ false) → IsNextPoint ms from stop None → AddsScan child from stop limit old new → AddsScan (applied means ms child) from stop limit old new
  adds_pointless limit old new clear none a = adds_moved (applied means ms child) child from stop stop limit old new (λ k w. w) (λ k w. w) (λ k w. gaps_clear clear k w (none k w)) a

-- ---- a round

-- enough pairs up to a key of the range are enough
adds_enough : {V : Type 0} (f : List ℕ → Option V) (lo mid : List ℕ) (hi : Option (List ℕ)) (limit : ℕ) (old new : List (List ℕ × V)) → reaches lo mid ≡ true → ((k : List ℕ) → within lo (Some mid) k ≡ true → is_below k hi ≡ true) → AddsScan f lo (Some mid) limit old new → limit ≤ length new → AddsScan f lo hi limit old new
adds_enough f lo mid hi limit old new low inside a l = adds_join f lo mid hi limit old new new low inside a (adds_zero f mid hi limit new l)

module _ {V : Type 0} (f : List ℕ → Option V) (lo : List ℕ) (hi : Option (List ℕ)) (n : ℕ) (ps : List (List ℕ × V)) (s : IsScan f lo hi n ps) (i : ℕ) (p : List ℕ × V) (l : i < length ps) (at : p ≡ get_or ps i p) where
  last_within : (reaches lo p.0 ≡ true) × (is_below p.0 hi ≡ true)
  last_within = both (reaches lo p.0) (is_below p.0 hi) (ap (λ (x : List ℕ × V). within lo hi x.0) at ∙ (s.sound i p l).0)

  -- after one of the pairs
  pub next_up : reaches lo (next_key p.0) ≡ true
  next_up = le_le lo p.0 (next_key p.0) last_within.0 (reaches-from_before p.0 (next_key p.0) (before-next p.0))

  pub next_in : (k : List ℕ) → within lo (Some (next_key p.0)) k ≡ true → is_below k hi ≡ true
  next_in k w = begins_before_end k p.0 hi (reaches-from_before_next k p.0 (both (reaches lo k) (before k (next_key p.0)) w).1) last_within.1

  pub next_within : (k : List ℕ) → within lo (Some (next_key p.0)) k ≡ true → within lo hi k ≡ true
  next_within k w = in_range lo k hi (both (reaches lo k) (before k (next_key p.0)) w).0 (next_in k w)

module _ {U V : Type 0} (means : U → Option V → Option V) (ms : List (Msg U V)) (child : List ℕ → Option V) (from : List ℕ) (stop : Option (List ℕ)) (limit : ℕ) (below old new : List (List ℕ × V)) where
  -- the messages were applied to all pairs of the child up to `next`
  pub record IsRound (next : List ℕ) : Type 0 where
    pub reached : reaches from next ≡ true
    pub inside : (k : List ℕ) → within from (Some next) k ≡ true → is_below k stop ≡ true
    pub merged : IsMerged means ms child from (Some next) limit below old new

  -- which were returned as requested
  round_is : (n : ℕ) → IsScan child from stop n below → (i : ℕ) (p : List ℕ × V) → i + 1 ≡ length below → p ≡ get_or below i p → ((k : List ℕ) → within from stop k ≡ true → is_cleared ms k ≡ false) → (next : List ℕ) → next ≡ next_key p.0 → ((f : List ℕ → Option V) → AreAll f from (Some next) below → LeavesGaps means ms f from (Some next) → IsMerged means ms f from (Some next) limit below old new) → IsRound next
  round_is n s i p l at clear next e apply_pass =
      let b : i < length below = omega (arith, l) in
      let merged : (f : List ℕ → Option V) → AreAll f from (Some (next_key p.0)) below → LeavesGaps means ms f from (Some (next_key p.0)) → IsMerged means ms f from (Some (next_key p.0)) limit below old new = subst (λ (k : List ℕ). (f : List ℕ → Option V) → AreAll f from (Some k) below → LeavesGaps means ms f from (Some k) → IsMerged means ms f from (Some k) limit below old new) e apply_pass in
      subst (λ (k : List ℕ). IsRound k) (sym e) (record {
        reached = next_up child from stop n below s i p b at;
        inside = next_in child from stop n below s i p b at;
        merged = merged child (all_full child from stop n below i p s l at) (gaps_clear means ms child from (Some (next_key p.0)) (λ k w. clear k (next_within child from stop n below s i p b at k w)));
      })

-- one of a slot: the walk of its child gave as many pairs as were wanted, or fewer
module _ {U V : Type 0} (means : U → Option V → Option V) (s : Slot U V) (from : List ℕ) (stop : Option (List ℕ)) (limit wanted : ℕ) (below old new : List (List ℕ × V)) (scan : IsScan (value means s.child.value) from stop wanted below) (clear : (k : List ℕ) → within from stop k ≡ true → is_cleared s.pending.0 k ≡ false) where
  pub round_last : length below < wanted → Merges means s.pending.0 from stop limit below old new → AddsScan (slot_value means s) from stop limit old new
  round_last few merges = (merges (value means s.child.value) (all_fewer (value means s.child.value) from stop wanted below scan few) (gaps_clear means s.pending.0 (value means s.child.value) from stop clear)).added

  module _ (next : List ℕ) (last : List ℕ × V) (count : ℕ) (all : count ≡ length below) (some : 0 < count) (at : last ≡ get_or below (count - 1) last) (is : next ≡ next_key last.0) (merges : Merges means s.pending.0 from (Some next) limit below old new) where
    round : IsRound means s.pending.0 (value means s.child.value) from stop limit below old new next
    round = round_is means s.pending.0 (value means s.child.value) from stop limit below old new wanted scan (count - 1) last (omega (arith, all, some)) at clear next is merges

    pub round_full : limit ≤ length new → AddsScan (slot_value means s) from stop limit old new
    round_full enough = adds_enough (slot_value means s) from next stop limit old new round.reached round.inside round.merged.added enough

    pub round_goes_on : limit ≤ length old + count → length new < limit → GoesOn means s from stop limit old new next
    round_goes_on enough room = record {
      reached = round.reached;
      inside = round.inside;
      added = round.merged.added;
      passed = ⊎_elim (λ (x : length old + length below ≤ length new). absurd (omega (arith, x, all, enough, room))) (λ (x : HasPoint s.pending.0 from (Some next)). x) (round.merged.more room);
      room = room;
    }

-- a reference to nothing
pub copied_none : {X : Type 0} (o : Option (Bor X)) → is_some o ≡ false → option_copied o ≡ None
copied_none None h = refl
copied_none (Some x) h = absurd (cc)

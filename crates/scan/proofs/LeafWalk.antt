-- A walk of a leaf, entry by entry.
use Rattle.std.proofs.Common.{◌≡◌, ℕ, ◌+◌, ◌<◌, ◌≤◌, ◌++◌, true, false, List, [], ◌∷◌, length, get_or, refl, ap, ◌∙◌, Option, Some, None, arith, ⊎_elim}
use Rattle.std.proofs.lemmas.Bool.{cases_order}
use Rattle.pathkey.specs.Keys.{is_below, next_key}
use Rattle.pathkey.proofs.KeyOrder.{lt_le, reaches-from_before, not_before_from_reaches}
use Rattle.message.specs.Ranges.{before}
use Rattle.message.proofs.NextKey.{before-next, reaches-next}
use Rattle.node.specs.Lawful.{Rises}
use Rattle.node.specs.Leaves.{IsCount}
use Rattle.node.specs.Meaning.{lookup}
use Rattle.node.proofs.EntryPlaces.{after_entry}
use Rattle.scan.specs.Pairs.{AddsScan, IsFirst}
use Rattle.scan.proofs.Joins.{HasWalked, walk_start, walk_on, walk_full, walk_over, adds_one, next_inside, next_reached}
use Rattle.scan.proofs.LeafFirst.{all_before, entry_is_first, entry_is_past, its_count, key_at}

module _ {V : Type 0} (es : List (List ℕ × V)) (lo : List ℕ) (hi : Option (List ℕ)) (limit : ℕ) where
  -- the walk is before entry i, and after all entries before it
  pub record IsTaken (i : ℕ) (old new : List (List ℕ × V)) : Type 0 where
    pub from : List ℕ
    pub count : IsCount es (Some from) i
    pub walked : HasWalked (lookup es) lo hi limit from old new

  -- the start of a walk
  pub take_start : (i : ℕ) (old new : List (List ℕ × V)) → IsCount es (Some lo) i → new ≡ old → IsTaken i old new
  take_start i old new c e = record { from = lo; count = c; walked = walk_start (lookup es) lo hi limit lo old new refl e }

  module _ (i : ℕ) (old new : List (List ℕ × V)) (x : IsTaken i old new) where
    -- the list has enough pairs
    pub take_full : limit ≤ length new → AddsScan (lookup es) lo hi limit old new
    take_full l = walk_full (lookup es) lo hi limit x.from old new x.walked l

    -- no entry is left
    pub take_all : length es ≤ i → AddsScan (lookup es) lo hi limit old new
    take_all l = walk_over (lookup es) lo hi limit x.from old new x.walked (all_before es x.from i x.count hi l)

    module _ (e : List ℕ × V) (rises : Rises [] None es) (bound : i < length es) (at : e ≡ get_or es i e) where
      -- the entry is past the range
      pub next_past : is_below e.0 hi ≡ false → AddsScan (lookup es) lo hi limit old new
      next_past u = walk_over (lookup es) lo hi limit x.from old new x.walked (entry_is_past es x.from i x.count e rises bound at hi u)

      count_on : IsCount es (Some (next_key e.0)) (i + 1)
      count_on =
          let c : IsCount es (Some e.0) i = its_count es x.from i x.count e rises bound at in
          let key : (d : List ℕ × V) → (get_or es i d).0 ≡ e.0 = key_at es x.from i x.count e rises bound at in
          record {
            bound = omega arith;
            earlier = λ j d h. ⊎_elim
                (λ (y : j ≡ i). ap (λ k. before k (next_key e.0)) (ap (λ m. (get_or es m d).0) y ∙ key d) ∙ before-next e.0)
                (λ t. ⊎_elim
                (λ (y : j < i). lt_le (get_or es j d).0 e.0 (next_key e.0) (c.earlier j d y) (reaches-from_before e.0 (next_key e.0) (before-next e.0)))
                (λ (y : i < j). absurd (omega arith))
                t)
                (cases_order j i);
            others = λ j d h l. not_before_from_reaches (next_key e.0) (get_or es j d).0 (reaches-next e.0 (get_or es j d).0 ∙ after_entry [] None e.0 es i rises key bound j d (omega arith) l);
          }

      -- the entry is pushed
      pub take_more : (newer : List (List ℕ × V)) → is_below e.0 hi ≡ true → length new < limit → newer ≡ new ++ e ∷ [] → IsTaken (i + 1) old newer
      take_more newer u l n =
          let first : IsFirst (lookup es) x.from hi (Some e) = entry_is_first es x.from i x.count e rises bound at hi u in
          record {
            from = next_key e.0;
            count = count_on;
            walked = walk_on (lookup es) lo hi limit x.from old new x.walked (next_key e.0) newer (next_reached (lookup es) x.from hi e first) (next_inside (lookup es) x.from hi e first) (adds_one (lookup es) x.from hi limit new newer e first l n);
          }

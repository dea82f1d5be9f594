-- The blocks that a walk returns, from the first pair of the index at or after a key.
use Rattle.std.proofs.Common.{◌≡◌, Bool, ℕ, ◌^◌, ◌<◌, ◌≤◌, List, [], ◌∷◌, ◌++◌, length, true, refl, sym, ap, subst, ◌∙◌, ◌⊎◌, inl, inr, arith, Option, Some, None}
use Rattle.std.specs.Prelude.{All, Contains, IfSome}
use Rattle.std.specs.Option.{option_to_list}
use Rattle.std.proofs.lemmas.Option.{none-some, same_Some}
use Rattle.std.proofs.lemmas.List.Elements.{All-nil, All-push, Contains-push}
use Rattle.block_index.specs.Means.{blocks}
use Rattle.call_compiler.specs.declared.indexes.Indexes.{Indexes}
use Rattle.message.specs.Ranges.{before, reaches, within}
use Rattle.message.proofs.KeyOrder.{begins_before_end, both}
use Rattle.message.proofs.NextKey.{by_bool, in_range, one_key}
use Rattle.pathkey.specs.Keys.{Key, block_key, blocks_from, enc, is_below}
use Rattle.pathkey.specs.Names.{Path, IsPath}
use Rattle.pathkey.specs.declared.range.KeyRange.{KeyRange}
use Rattle.pathkey.proofs.KeyFacts.{from_between_high, in_blocks}
use Rattle.pathkey.proofs.KeyOrder.{reaches-from_not_before}
use Rattle.reference.specs.Indexes.{Blocks, BlocksMean, most_blocks}
use Rattle.reference.specs.Shape.{IsTree}
use Rattle.reference.specs.Tree.{Tree, entry_at}
use Rattle.scan.specs.Pairs.{HasNone, IsFirst, IsScan}
use Rattle.volume.specs.Cursors.{StandsAt}
use Rattle.volume.specs.Walks.{AreBlocksAt, AreNumbered, IsOfBlock, IsOwn}
use Rattle.volume.proofs.Walks.{all_of_blocks, blocks_listed, found_block}

-- ---- a scan of one pair

module _ {V : Type 0} (f : List ℕ → Option V) (lo : List ℕ) (hi : Option (List ℕ)) where
  -- if nothing is found
  scan_of_none : HasNone f lo hi → IsScan f lo hi 1 []
  scan_of_none none = record {
    few = omega arith;
    sound = All-nil _;
    rising = λ i j d a l. absurd (omega (arith, l));
    complete = λ k v w e. absurd (none-some v (sym (none k w) ∙ e));
  }

  module _ (p : List ℕ × V) (first : IsFirst f lo hi (Some p)) where
    -- no other pair is before it
    rest_behind : (k : List ℕ) (v : V) → within lo hi k ≡ true → f k ≡ Some v → Contains (p ∷ []) (k, v) ⊎ ((length (p ∷ []) ≡ 1) × All (λ q. before q.0 k ≡ true) (p ∷ []))
    rest_behind k v w e =
        let low : reaches lo k ≡ true = (both (reaches lo k) (is_below k hi) w).0 in
        by_bool (before k p.0) (Contains (p ∷ []) (k, v) ⊎ ((length (p ∷ []) ≡ 1) × All (λ q. before q.0 k ≡ true) (p ∷ [])))
        (λ u. absurd (none-some v (sym (first.2 k (in_range lo k (Some p.0) low u)) ∙ e)))
        (λ u. by_bool (before p.0 k) (Contains (p ∷ []) (k, v) ⊎ ((length (p ∷ []) ≡ 1) × All (λ q. before q.0 k ≡ true) (p ∷ [])))
        (λ b. inr (refl, All-push (λ q. before q.0 k ≡ true) [] p (All-nil _) b))
        (λ b.
        let key : k ≡ p.0 = one_key k p.0 (reaches-from_not_before p.0 k b) (reaches-from_not_before k p.0 u) in
        let value : v ≡ p.1 = same_Some v p.1 (sym e ∙ ap f key ∙ first.1) in
        inl (subst (λ (r : List ℕ × V). Contains (p ∷ []) r) (λ i. (sym key i, sym value i)) (Contains-push [] p))))

    -- if a pair is found
    scan_of_first : IsScan f lo hi 1 (p ∷ [])
    scan_of_first = record {
      few = omega arith;
      sound = All-push (λ r. (within lo hi r.0 ≡ true) × (f r.0 ≡ Some r.1)) [] p (All-nil _) (first.0, first.1);
      rising = λ i j d a l. absurd (omega (arith, a, l));
      complete = rest_behind;
    }

-- ---- equal indexes

module _ (i j : Indexes) (same : i ≡ j) where
  -- the position of a walk
  pub stands_in : (r : KeyRange) (o : Option (Key × List ℕ)) (all : Bool) (ps : List (Key × List ℕ)) → StandsAt (blocks i.block) r o all ps → StandsAt (blocks j.block) r o all ps
  stands_in r o all ps s = subst (λ (x : Indexes). StandsAt (blocks x.block) r o all ps) same s

  -- the first pair at or after a key
  pub first_at : (k l : Key) (hi : Option Key) (o : Option (Key × List ℕ)) → k ≡ l → hi ≡ None → IsFirst (blocks i.block) k hi o → IsFirst (blocks j.block) l None o
  first_at k l hi o key end first =
      subst (λ (e : Option Key). IsFirst (blocks j.block) l e o) end
      (subst (λ (x : Key). IsFirst (blocks j.block) x hi o) key (subst (λ (x : Indexes). IsFirst (blocks x.block) k hi o) same first))

-- ---- the first block of a file from a number on

range_is : (p : Path) (from : ℕ) → blocks_from p from ≡ record { lo = block_key p from; hi = Some (enc p ++ 1 ∷ []) }
unfolding blocks_from
range_is p from = refl

-- the pair of which a block was returned, if there is one
abbrev taken : Option (Key × List ℕ) → Option (ℕ × List ℕ) → List (Key × List ℕ)
taken None x = []
taken (Some q) None = []
taken (Some q) (Some x) = q ∷ []

module _ (d : Blocks) (p : Path) (from : ℕ) where
  abbrev lo : Key
  lo = block_key p from

  abbrev hi : Option Key
  hi = Some (enc p ++ 1 ∷ [])

  own_key : (k : Key) → within lo hi k ≡ true → (z : Key) × (k ≡ enc p ++ 0 ∷ z)
  own_key k w = let at = in_blocks p from k (subst (λ (r : KeyRange). within r.lo r.hi k ≡ true) (sym (range_is p from)) w) in (at.0, at.1)

  scan_by : (o : Option (Key × List ℕ)) (x : Option (ℕ × List ℕ)) → IsFirst d lo None o → IsOwn p o x → IsScan d lo hi 1 (taken o x)
  scan_by None x none own = scan_of_none d lo hi (λ k w. none k (in_range lo k None (both (reaches lo k) (is_below k hi) w).0 refl))
  scan_by (Some q) None (w, at, none) not = scan_of_none d lo hi (λ k v.
      let y = both (reaches lo k) (is_below k hi) v in
      by_bool (before k q.0) (d k ≡ None)
      (λ u. none k (in_range lo k (Some q.0) y.0 u))
      (λ u.
      let low : reaches lo q.0 ≡ true = (both (reaches lo q.0) (is_below q.0 None) w).0 in
      let own = own_key q.0 (in_range lo q.0 hi low (begins_before_end q.0 k hi (reaches-from_not_before k q.0 u) y.1)) in
      absurd (not own.0 own.1)))
  scan_by (Some q) (Some x) (w, at, none) ((z, e), read, value) =
      let low : reaches lo q.0 ≡ true = (both (reaches lo q.0) (is_below q.0 None) w).0 in
      scan_of_first d lo hi q (in_range lo q.0 hi low (subst (λ (k : Key). is_below k hi ≡ true) (sym e) (from_between_high (enc p) z)), at, none)

  -- it is the first pair of the range, or there is none
  range_scan : (o : Option (Key × List ℕ)) (x : Option (ℕ × List ℕ)) → IsFirst d lo None o → IsOwn p o x → IsScan d (blocks_from p from).lo (blocks_from p from).hi 1 (taken o x)
  range_scan o x first own = subst (λ (r : KeyRange). IsScan d r.lo r.hi 1 (taken o x)) (sym (range_is p from)) (scan_by o x first own)

-- its key has the block's number
numbers : (p : Path) (o : Option (Key × List ℕ)) (x : Option (ℕ × List ℕ)) → All (λ q. IsOfBlock p q.0) (taken o x) → IsOwn p o x → AreNumbered p (taken o x) (option_to_list x)
numbers p None None all own = record { few = All-nil _; pairs = refl }
numbers p None (Some x) all own = absurd (cc)
numbers p (Some q) None all own = record { few = All-nil _; pairs = refl }
numbers p (Some q) (Some x) all own =
    let (i, few, key) = all 0 q (omega arith) in
    let lt : i < most_blocks = few in
    let number : x.0 ≡ i = own.1 p i (omega arith) key in
    record {
      few = All-push (λ (y : ℕ × List ℕ). y.0 < most_blocks) [] x (All-nil _) (omega arith);
      pairs = ap (λ (k : Key). (k, x.1) ∷ []) (ap (block_key p) number ∙ sym key) ∙ ap (λ (v : List ℕ). (q.0, v) ∷ []) own.2;
    }

module _ (t : Tree) (d : Blocks) (is : IsTree t) (means : BlocksMean t d) (p : Path) (is_path : IsPath p) (from : ℕ) (fits : from < 2 ^ 32) (o : Option (Key × List ℕ)) (x : Option (ℕ × List ℕ)) (first : IsFirst d (block_key p from) None o) (own : IsOwn p o x) where
  -- the returned block is the first stored one, from the number on, of what is at the path
  pub block_given : AreBlocksAt (entry_at t p) from 1 (option_to_list x)
  block_given =
      let found = range_scan d p from o x first own in
      blocks_listed t d is means p is_path from 1 fits (taken o x) found (option_to_list x) (numbers p o x (all_of_blocks t d means p is_path from 1 fits (taken o x) found) own)

-- its number is one of a block, and not below the requested one
pub number_given : (t : Tree) (d : Blocks) → BlocksMean t d → (p : Path) → IsPath p → (from : ℕ) → from < 2 ^ 32 → (o : Option (Key × List ℕ)) (x : Option (ℕ × List ℕ)) → IsFirst d (block_key p from) None o → IsOwn p o x → IfSome x (λ y. (from ≤ y.0) × (y.0 < most_blocks))
number_given t d means p is_path from fits o None first own = tt
number_given t d means p is_path from fits None (Some x) first own = absurd (cc)
number_given t d means p is_path from fits (Some q) (Some x) first own =
    let found = range_scan d p from (Some q) (Some x) first own in
    let b = found_block t d means p is_path from 1 fits (q ∷ []) found 0 q (omega arith) in
    let lt : b.number < most_blocks = b.few in
    let le : from ≤ b.number = b.behind in
    let number : x.0 ≡ b.number = own.1 p b.number (omega arith) b.key in
    (omega arith, omega arith)
